-- Counts of failed calls that stay.
use Rattle.std.proofs.Common.{◌≡◌, ℕ, Bool, true, false, eqb, refl, sym, ap, ◌∙◌}
use Rattle.std.proofs.lemmas.Bool.{eqb-true, eqb-false}
use Rattle.std.specs.Prelude.{⊤}
use Rattle.edge_io.specs.Counts.{ChangesOnlyCount}
use Rattle.why_top.specs.Counts.{SameCounts}

-- where only the count of one file may change, and does not
same_counts : (option : ℕ) (old new : ℕ → ℕ) → ChangesOnlyCount option old new → new option ≡ old option → SameCounts old new
same_counts option old new counts same k = go (eqb k option) refl
  where
    go : (b : Bool) → eqb k option ≡ b → new k ≡ old k
    go true e = let is : k ≡ option = eqb-true k option e in ap new is ∙ same ∙ ap old (sym is)
    go false e = counts.others k (eqb-false k option e)

-- the same after a call that is no fault
pub none_counted : (steady : Type 0) (option : ℕ) (old new : ℕ → ℕ) → ChangesOnlyCount option old new → ⊤ × steady × (new option ≡ old option) → ⊤ × steady × SameCounts old new
none_counted steady option old new counts kept = (tt, kept.1, same_counts option old new counts kept.2)
