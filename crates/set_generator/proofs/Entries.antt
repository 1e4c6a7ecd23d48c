-- The entries of one more contract.
use Rattle.std.specs.FinMap.{empty}
use Rattle.std.specs.List.{fold, flat_map, range_with_len}
use Rattle.std.proofs.Common.{◌≡◌, ℕ, ◌+◌, List, [], ◌∷◌, ◌++◌, refl, ap, ◌∙◌}
use Rattle.std.proofs.lemmas.Grind.{flat_map-append}
use Rattle.std.proofs.lemmas.List.{append-nil}
use Rattle.std.proofs.lemmas.List.Sums.{fold-append}
use Rattle.set_generator.specs.GeneratedLedger.{code_entry, instance_of, counter_of, contract_entries, with_entry, entries_for}
use Rattle.set_generator.proofs.Ranges.{range_next}

fold_next : {A B : Type 0} (f : B → A → B) (z : B) (g : ℕ → List A) (n : ℕ)
    → fold f z (flat_map g (range_with_len 0 (n + 1))) ≡ fold f (fold f z (flat_map g (range_with_len 0 n))) (g n)
fold_next {A} {B} f z g n =
    ap (λ (ns : List ℕ). fold f z (flat_map g ns)) (range_next n)
    ∙ ap (fold f z) (flat_map-append g (range_with_len 0 n) (n ∷ []) ∙ ap (λ (xs : List A). flat_map g (range_with_len 0 n) ++ xs) (append-nil (g n)))
    ∙ fold-append f z (flat_map g (range_with_len 0 n)) (g n)

pub entries_at_first : entries_for 0 ≡ with_entry empty code_entry
unfolding entries_for
entries_at_first = refl

pub entries_next : (n : ℕ) → entries_for (n + 1) ≡ with_entry (with_entry (entries_for n) (instance_of n)) (counter_of n)
unfolding entries_for
entries_next n = fold_next with_entry (with_entry empty code_entry) contract_entries n
