use Rattle.std.proofs.Common.{◌≡◌, length, rules, sym, ap, ◌∙◌}
use Rattle.auth_spec.specs.Demands.{Marked}
use Rattle.auth_trees.proofs.Keeping.{length-pairs}
use Rattle.auth_trees.proofs.marks.Marks.snapshot.Goals as goal

pub returns-clause-pairs : goal.returns-clause-pairs
returns-clause-pairs c =
    let e : c.len.result ≡ length c.self.inside.records.items = search rules in
    e ∙ sym (length-pairs c.self.inside.tables.entries.now c.self.inside.records.items) ∙ ap (λ (s : Marked). length s.pairs) c.self.view_is
