use Rattle.std.proofs.Common.{◌∙◌, sym}
use Rattle.command_words.proofs.Names.{names_again, names_empty, names_next}
use Rattle.command_words.proofs.values.are_names.Goals as goal
use Rattle.command_words.proofs.values.are_names.Goals.{then-is_empty-via-then-is_empty, then-is_empty-via-else-is_empty+then-has_name}

pub returns-then-is_empty : goal.returns-then-is_empty
returns-then-is_empty c =
    let empty = rw c.as_str.ensures at c.is_empty.ensures in
    elim c.then-is_empty.branch [
      | then-is_empty-via-then-is_empty w ↦ names_empty (λ n. n.now) _ c.loop-i.i c.index-names-i.result c.loop-i-test.true c.index-names-i.is c.loop-i.invariant (sym empty ∙ w.if-is_empty.true)
      | then-is_empty-via-else-is_empty+then-has_name w ↦ names_again (λ n. n.now) _ c.loop-i.i c.index-names-i.result c.loop-i-test.true c.index-names-i.is c.loop-i.invariant (sym w.has_name.ensures ∙ w.if-has_name.true)
    ]

pub loop-i-preserved : goal.loop-i-preserved
loop-i-preserved c =
    let empty = rw c.as_str.ensures at c.is_empty.ensures in
    names_next (λ n. n.now) _ c.loop-i.i c.index-names-i.result c.loop-i-test.true c.index-names-i.is c.loop-i.invariant (sym empty ∙ c.if-is_empty.false) (sym c.has_name.ensures ∙ c.if-has_name.false)
