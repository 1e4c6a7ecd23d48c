use Rattle.std.proofs.Common.{sym, ap₂, ◌∙◌}
use Rattle.apply_spec.specs.ListRuns.{are_same}
use Rattle.spec_apply.proofs.Moves.{same_change}
use Rattle.spec_apply.proofs.moved.change.Goals as goal

pub returns-then-are_same-clause-entries : goal.returns-then-are_same-clause-entries
returns-then-are_same-clause-entries c =
    let same = ap₂ are_same (sym c.find.ensures.found) (sym c.as_ref.ensures.value) ∙ sym c.are_same.ensures ∙ c.if-are_same.true in
    sym (same_change c.args.entries.now c.args.change.key c.args.change.after same)
