-- The best node above a path is the best of those at the path's proper prefixes.
use Rattle.std.proofs.Common.{◌≡◌, ℕ, ◌+◌, ◌<◌, ◌≤◌, Bool, true, false, cond, ◌&&◌, ◌||◌, eqb, List, [], ◌∷◌, ◌++◌, length, take, fold, Option, Some, None, IfSome, option_map, slice_get, zero, suc, nat_lt, ◌⊎◌, inl, inr, refl, sym, ap, ap₂, ◌∙◌, subst, arith, length-append}
use Rattle.std.specs.List.{starts_with}
use Rattle.std.specs.Bool.{Decides}
use Rattle.std.specs.Global.{Vec}
use Rattle.std.proofs.lemmas.Bool.{cases_lt, cond_both, or_cases, or_left, or_right}
use Rattle.std.proofs.lemmas.Bool.Decides.{Decides-and, Decides-ltb, same_from_decides}
use Rattle.std.proofs.lemmas.Option.{IfSome_then}
use Rattle.std.proofs.lemmas.Slice.Eq.{bytes_eq-Decides}
use Rattle.std.proofs.lemmas.List.{take-append-le, take_at, map_push}
use Rattle.std.proofs.lemmas.List.Sums.{fold-append}
use Rattle.value_types.specs.Equality.{is_same_decides}
use Rattle.value_types.specs.declared.account_id.AccountId.{AccountId}
use Rattle.value_types.specs.declared.address.ScAddress.TheVariants.{Account}
use Rattle.auth_spec.specs.Pairs.{Pair}
use Rattle.auth_spec.specs.Demands.{coded_address, same_address}
use Rattle.auth_spec.specs.Noted.{Note}
use Rattle.auth_trees.proofs.Lemmas.{true_or_false}
use Rattle.list_laws.proofs.Lemmas.{get_left, get_right}
use Rattle.auth_notes.specs.declared.noted.Noted.{Noted}
use Rattle.auth_notes.specs.Recording.{pair_of, note_of, notes_of, is_above, keeps, better, best_of, best, pair_at}
use Rattle.auth_notes.specs.Indices.{same_key, number_at, HasPut, spelled, best_at, AreBest, joined}
use Rattle.auth_notes.proofs.Spelling.{key_is, spelled_is}
use Rattle.auth_notes.proofs.Joining.{Splits, split_fold}

-- ---- nodes above a path

-- a node of an account above a path
abbrev Above : List ℕ → AccountId → Note → Type 0
Above path a n = (n.address ≡ Account a) × ((n.pair.path ≡ take (length n.pair.path) path) × (length n.pair.path < length path))

above_is : (path : List ℕ) (a : AccountId) (n : Note) → Decides (is_above path (Account a) n) (Above path a n)
above_is path a n =
    let q = n.pair.path in
    let starts = starts_with eqb path q in
    let less = nat_lt (length q) (length path) in
    Decides-and (same_address n.address (Account a)) (starts && less) (is_same_decides coded_address n.address (Account a))
    (Decides-and starts less (bytes_eq-Decides q (take (length q) path)) (Decides-ltb (length q) (length path)))

-- a node above a path that is one number longer is above the path, or has the path
module _ (xs : List ℕ) (x : ℕ) (a : AccountId) (n : Note) where
  long : length (xs ++ x ∷ []) ≡ length xs + 1
  long = length-append xs (x ∷ [])

  up : Above xs a n → Above (xs ++ x ∷ []) a n
  up h =
      let few : length n.pair.path ≤ length xs = omega (arith, h.1.1) in
      (h.0, (h.1.0 ∙ sym (take-append-le (length n.pair.path) xs (x ∷ []) few), omega (arith, long, h.1.1)))

  up_at : n.address ≡ Account a → n.pair.path ≡ xs → Above (xs ++ x ∷ []) a n
  up_at address path =
      let same : length n.pair.path ≡ length xs = ap length path in
      (address, (path ∙ sym (take_at xs (x ∷ []) (length n.pair.path) (sym same)), omega (arith, long, same)))

  down : Above (xs ++ x ∷ []) a n → Above xs a n ⊎ ((n.address ≡ Account a) × (n.pair.path ≡ xs))
  down h =
      elim (cases_lt (length n.pair.path) (length xs)) [
        | inl less ↦
            let few : length n.pair.path ≤ length xs = omega (arith, less) in
            inl (h.0, (h.1.0 ∙ take-append-le (length n.pair.path) xs (x ∷ []) few, less))
        | inr most ↦
            let same : length n.pair.path ≡ length xs = omega (arith, long, h.1.1, most) in
            inr (h.0, h.1.0 ∙ take_at xs (x ∷ []) (length n.pair.path) (sym same))
      ]

  splits : Splits (length xs) (is_above (xs ++ x ∷ []) (Account a) n) (is_above xs (Account a) n) (same_key (spelled n.address n.pair.path) (spelled (Account a) xs)) (length n.pair.path)
  splits =
      let both = is_above (xs ++ x ∷ []) (Account a) n in
      let short = is_above xs (Account a) n in
      let at = same_key (spelled n.address n.pair.path) (spelled (Account a) xs) in
      let key = spelled_is a xs n.address n.pair.path in
      record {
        is-either = same_from_decides both (short || at) (above_is (xs ++ x ∷ []) a n) (
          λ e. elim (or_cases short at e) [ inl s ↦ up ((above_is xs a n).0 s) | inr s ↦ up_at (key.0 s).0 (key.0 s).1 ],
          λ h. elim (down h) [ inl g ↦ or_left short at ((above_is xs a n).1 g) | inr g ↦ or_right short at (key.1 g) ],
        );
        is-short = λ e. ((above_is xs a n).0 e).1.1;
        is-at = λ e. ap length (key.0 e).1;
      }

best_longer : (xs : List ℕ) (x : ℕ) (a : AccountId) (notes : List Note)
    → best notes (xs ++ x ∷ []) (Account a) ≡ joined (best notes xs (Account a)) (fold (best_at (spelled (Account a) xs)) None notes)
best_longer xs x a notes =
    split_fold (length xs) (is_above (xs ++ x ∷ []) (Account a)) (is_above xs (Account a)) (λ n. same_key (spelled n.address n.pair.path) (spelled (Account a) xs)) (splits xs x a) notes None None tt

-- no node is above the empty path
pub best_above_nothing : (a : AccountId) (notes : List Note) → best notes [] (Account a) ≡ None
best_above_nothing a [] = refl
best_above_nothing a (n ∷ notes) =
    elim (true_or_false (is_above [] (Account a) n)) [
      | inl t ↦ let h = (above_is [] a n).0 t in absurd (omega (arith, h.1.1))
      | inr f ↦ ap (λ b. fold (best_of [] (Account a)) (cond b (Some n.pair) None) notes) f ∙ best_above_nothing a notes
    ]

-- one prefix more
pub found_more : (ns : List Noted) (entries : List (Vec ℕ × ℕ)) (key : Vec ℕ) (xs : List ℕ) (x : ℕ) (a : AccountId) (old new : Option ℕ) → key.items ≡ spelled (Account a) xs → AreBest ns entries
    → pair_at ns old ≡ best (notes_of ns) xs (Account a) → pair_at ns new ≡ joined (pair_at ns old) (pair_at ns (number_at entries key.items)) → pair_at ns new ≡ best (notes_of ns) (xs ++ x ∷ []) (Account a)
found_more ns entries key xs x a old new is indexed so_far step =
    step ∙ ap₂ joined so_far ((indexed key).0 ∙ ap (λ (k : List ℕ). fold (best_at k) None (notes_of ns)) is) ∙ sym (best_longer xs x a (notes_of ns))

-- ---- one node more

best_push : (key : List ℕ) (ns : List Noted) (n : Noted) → fold (best_at key) None (notes_of (ns ++ n ∷ [])) ≡ best_at key (fold (best_at key) None (notes_of ns)) (note_of n)
best_push key ns n =
    ap (λ (xs : List Note). fold (best_at key) None xs) (map_push note_of ns n) ∙ fold-append (best_at key) None (notes_of ns) (note_of n ∷ [])

get_within : {A : Type 0} (xs : List A) (i : ℕ) → i < length xs → (x : A) × (slice_get xs i ≡ Some x)
get_within [] i h = absurd (omega arith)
get_within (x ∷ xs) zero h = (x, refl)
get_within (x ∷ xs) (suc i) h = get_within xs i (omega arith)

pair_kept : (ns : List Noted) (n : Noted) (o : Option ℕ) → IfSome o (λ i. i < length ns) → pair_at (ns ++ n ∷ []) o ≡ pair_at ns o
pair_kept ns n None h = refl
pair_kept ns n (Some i) h =
    let there = get_within ns i h in
    ap (option_map pair_of) (get_left ns (n ∷ []) i there.0 there.1 ∙ sym there.1)

module _ (ns : List Noted) (n : Noted) (old : List (Vec ℕ × ℕ)) (key : List ℕ) (is : key ≡ spelled n.address n.path.items) (indexed : AreBest ns old) where
  abbrev so_far : Vec ℕ → Option Pair
  so_far q = fold (best_at q.items) None (notes_of ns)

  -- what the index has at a key
  abbrev Good : Vec ℕ → Option ℕ → Type 0
  Good q o = (pair_at (ns ++ n ∷ []) o ≡ fold (best_at q.items) None (notes_of (ns ++ n ∷ []))) × IfSome o (λ i. i < length (ns ++ n ∷ []))

  one_more : length (ns ++ n ∷ []) ≡ length ns + 1
  one_more = length-append ns (n ∷ [])

  kept_at : (q : Vec ℕ) → best_at q.items (so_far q) (note_of n) ≡ so_far q → Good q (number_at old q.items)
  kept_at q same = (
    pair_kept ns n (number_at old q.items) (indexed q).1 ∙ (indexed q).0 ∙ sym (best_push q.items ns n ∙ same),
    IfSome_then (number_at old q.items) (indexed q).1 (λ i lt. let more : i < length (ns ++ n ∷ []) = omega (arith, lt, one_more) in more),
  )

  other_at : (q : Vec ℕ) → same_key key q.items ≡ false → Good q (number_at old q.items)
  other_at q e = kept_at q (ap (λ b. cond b (better (so_far q) (pair_of n)) (so_far q)) (ap (λ (k : List ℕ). same_key k q.items) (sym is) ∙ e))

  here : (q : Vec ℕ) (b : Bool) → same_key key q.items ≡ true → keeps (pair_at ns (number_at old key)) (pair_of n) ≡ b → best_at q.items (so_far q) (note_of n) ≡ cond b (so_far q) (Some (pair_of n))
  here q b e keep =
      let found : pair_at ns (number_at old key) ≡ so_far q = ap (λ (k : List ℕ). pair_at ns (number_at old k)) ((key_is key q.items).0 e) ∙ (indexed q).0 in
      ap (λ b. cond b (better (so_far q) (pair_of n)) (so_far q)) (ap (λ (k : List ℕ). same_key k q.items) (sym is) ∙ e)
      ∙ ap (λ b. cond b (so_far q) (Some (pair_of n))) (subst (λ o. keeps o (pair_of n) ≡ b) found keep)

  -- the best node at its key stays
  pub best_kept : keeps (pair_at ns (number_at old key)) (pair_of n) ≡ true → AreBest (ns ++ n ∷ []) old
  best_kept keep q =
      elim (true_or_false (same_key key q.items)) [
        | inl t ↦ kept_at q (here q true t keep)
        | inr f ↦ other_at q f
      ]

  -- the new node is the best one at its key
  pub best_put : (new : List (Vec ℕ × ℕ)) → keeps (pair_at ns (number_at old key)) (pair_of n) ≡ false → HasPut old key (length ns) new → AreBest (ns ++ n ∷ []) new
  best_put new keep put q =
      subst (Good q) (sym (put q)) (cond_both (same_key key q.items) (Some (length ns)) (number_at old q.items) (Good q) (λ t.
      let last : length ns ≡ length ns + 0 = omega arith in
      (ap (option_map pair_of) (get_right ns (n ∷ []) (length ns) 0 last) ∙ sym (best_push q.items ns n ∙ here q false t keep), omega (arith, one_more))) (other_at q))
