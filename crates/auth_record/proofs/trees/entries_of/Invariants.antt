use Rattle.auth_record.specs.Given.{terms_in}
use Rattle.auth_record.proofs.Growing.{AreMade}
use Rattle.auth_record.proofs.trees.entries_of.Given as goal

abbrev pub invariant-loop-root : goal.invariant-loop-root
invariant-loop-root l = AreMade (terms_in l.fn.terms) l.source l.notes l.root-index l.entries.items (terms_in l.now)
