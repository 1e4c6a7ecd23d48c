use Rattle.std.proofs.Common.{ap, sym, ◌∙◌}
use Rattle.call_spec.specs.Acts.{Out}
use Rattle.call_spec.specs.Asking.{is_good}
use Rattle.call_spec.specs.Outcomes.{trace_of}
use Rattle.auth_parts.specs.Asked.{Asked}
use Rattle.auth_parts.proofs.Verdicts.{holds_is, good_account, bad_account}
use Rattle.auth_parts.proofs.asking.ask_account.Goals as goal

pub returns-then-holds-clause-does : goal.returns-then-holds-clause-does
returns-then-holds-clause-does c w =
    let e = good_account (is_good c.args.verdicts.now c.args.account c.args.payload) (sym (holds_is c.args.account c.args.payload c.args.verdicts.now c.holds.result c.holds.ensures) ∙ c.if-holds.true) w in
    (ap (λ (out : Out Asked). trace_of out) e, e)

pub returns-else-holds-clause-does : goal.returns-else-holds-clause-does
returns-else-holds-clause-does c w =
    let e = bad_account (is_good c.args.verdicts.now c.args.account c.args.payload) (sym (holds_is c.args.account c.args.payload c.args.verdicts.now c.holds.result c.holds.ensures) ∙ c.if-holds.false) w in
    (ap (λ (out : Out Asked). trace_of out) e, e)
