use Rattle.std.proofs.Common.{ℕ, sym, ap, ◌∙◌}
use Rattle.xdr_spec.specs.declared.Why.TheVariants.{Tag}
use Rattle.xdr_spec.specs.Format.{refusal}
use Rattle.ledger_types.specs.EntryType.{number, kind_of, type_format}
use Rattle.change_log.specs.Entry.{allows, kind, arms, body_format}
use Rattle.change_log.proofs.Among.{among_told, not_among}
use Rattle.change_log.proofs.entry.read_body.Goals as goal

pub returns-clause-value : goal.returns-clause-value
unfolding body_format type_format
returns-clause-value g c =
    let seen = g.W.Words.seen in
    let n = c.args.last_modified in
    among_told (allows n) number kind_of kind (arms n) (seen c.args.input.now) (seen c.read.new.input) c.in_ok-kind.kind c.in_ok-kind.ensures.value (seen c.read_arm.new.input) c.read_arm.result (sym c.allows.ensures ∙ c.if-not-allows.false) c.read_arm.ensures.value

pub returns-then-not-allows-clause-value : goal.returns-then-not-allows-clause-value
unfolding body_format type_format
returns-then-not-allows-clause-value g c =
    let seen = g.W.Words.seen in
    let n = c.args.last_modified in
    let took = c.in_ok-kind.ensures.value in
    (not_among (allows n) number kind_of kind (arms n) (seen c.args.input.now) (seen c.read.new.input) c.in_ok-kind.kind took _ (sym c.allows.ensures ∙ c.if-not-allows.true) (λ t. ap (λ (place : ℕ). refusal place Tag) (c.place-place.ensures t)), took.1)
