use Rattle.std.proofs.Common.{◌≡◌, None, sym, ap, ◌∙◌, subst}
use Rattle.std.specs.Prelude.{ℕ, List, true, is_some}
use Rattle.auth_notes.specs.Indices.{number_at}
use Rattle.auth_notes.proofs.Counting.{begun_same, put_has}
use Rattle.auth_notes.proofs.forest.begin_count.Goals as goal

pub returns-in-Ok-clause-same : goal.returns-in-Ok-clause-same
returns-in-Ok-clause-same c =
    let old = c.args.children.now.entries in
    let none : number_at old c.in-Ok.key.items ≡ None = ap (number_at old) c.in-Ok.ensures.items ∙ sym c.in-None.ensures in
    begun_same old c.put.new.numbers.entries c.in-Ok.key.items c.put.result none c.put.ensures.put c.put.ensures.refused

pub returns-in-Ok-clause-there : goal.returns-in-Ok-clause-there
returns-in-Ok-clause-there c = λ t.
    subst (λ (key : List ℕ). is_some (number_at c.put.new.numbers.entries key) ≡ true) c.in-Ok.ensures.items
    (put_has c.args.children.now.entries c.put.new.numbers.entries c.in-Ok.key 0 (c.put.ensures.put t))
