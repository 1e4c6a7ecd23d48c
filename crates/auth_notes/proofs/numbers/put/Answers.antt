use Rattle.std.proofs.Common.{◌≡◌, true, false, sym, ◌∙◌}
use Rattle.auth_notes.proofs.numbers.put.Goals as goal
use Rattle.auth_notes.proofs.numbers.put.Goals.{in-Ok, in-Err}

pub returns-clause-put : goal.returns-clause-put
returns-clause-put c =
    elim c.match-insert.branch [
      | in-Ok w ↦ λ t. w.in-Ok.ensures.updates.0
      | in-Err w ↦ λ t. absurd (let no : false ≡ true = sym w.result-is ∙ t in cc)
    ]
