use Rattle.std.proofs.Common.{◌∙◌, sym, arith}
use Rattle.command_words.proofs.Numbers.{number_read, number_signed, number_unread}
use Rattle.command_words.proofs.values.number_in.Goals as goal

pub returns-then-begins_with-clause-number : goal.returns-then-begins_with-clause-number
returns-then-begins_with-clause-number c = sym (number_signed c.args.least c.args.most c.args.text.now (sym c.begins_with.ensures ∙ c.if-begins_with.true))

pub returns-in_err-number-clause-number : goal.returns-in_err-number-clause-number
returns-in_err-number-clause-number c =
    c.from_residual.ensures ∙ sym (number_unread c.args.least c.args.most c.args.text.now c.parse.result (sym c.begins_with.ensures ∙ c.if-begins_with.false) c.parse.ensures.value.0 (sym c.ok.ensures.value ∙ c.in_err-number.was) (omega arith))

pub returns-then-number-most-clause-number : goal.returns-then-number-most-clause-number
returns-then-number-most-clause-number c =
    number_read c.args.least c.args.most c.in_ok-number.number c.args.text.now c.parse.result (sym c.begins_with.ensures ∙ c.if-begins_with.false) c.parse.ensures.value.0 (sym c.ok.ensures.value ∙ c.in_ok-number.was) c.if-least-number.true c.if-number-most.true
