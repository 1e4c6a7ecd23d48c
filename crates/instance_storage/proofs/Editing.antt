-- Entries that are put, inserted and removed, as members.
use Rattle.std.proofs.Common.{◌≡◌, ℕ, zero, suc, List, [], ◌∷◌, refl, ap}
use Rattle.std.specs.List.{insert, remove}
use Rattle.std.proofs.Math.ListN.{set}
use Rattle.value_types.specs.Datum.{Datum}
use Rattle.value_types.specs.Views.{datum_pair, datum_pairs}
use Rattle.value_types.specs.declared.value.Entry.{Entry}

pub pairs_set : (es : List Entry) (i : ℕ) (e : Entry) → datum_pairs (set es i e) ≡ set (datum_pairs es) i (datum_pair e)
pairs_set [] zero e = refl
pairs_set [] (suc i) e = refl
pairs_set (x ∷ es) zero e = refl
pairs_set (x ∷ es) (suc i) e = ap (λ (ms : List (Datum × Datum)). datum_pair x ∷ ms) (pairs_set es i e)

pub pairs_insert : (es : List Entry) (i : ℕ) (e : Entry) → datum_pairs (insert es i e) ≡ insert (datum_pairs es) i (datum_pair e)
pairs_insert [] zero e = refl
pairs_insert [] (suc i) e = refl
pairs_insert (x ∷ es) zero e = refl
pairs_insert (x ∷ es) (suc i) e = ap (λ (ms : List (Datum × Datum)). datum_pair x ∷ ms) (pairs_insert es i e)

pub pairs_remove : (es : List Entry) (i : ℕ) → datum_pairs (remove es i) ≡ remove (datum_pairs es) i
pairs_remove [] zero = refl
pairs_remove [] (suc i) = refl
pairs_remove (x ∷ es) zero = refl
pairs_remove (x ∷ es) (suc i) = ap (λ (ms : List (Datum × Datum)). datum_pair x ∷ ms) (pairs_remove es i)
