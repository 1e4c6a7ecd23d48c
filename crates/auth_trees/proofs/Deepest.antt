-- The deepest record of each entry, as the program finds it.
use Rattle.std.proofs.Common.{◌≡◌, ◌≢◌, ℕ, ◌+◌, ◌<◌, Bool, true, false, cond, ◌&&◌, eqb, List, [], ◌∷◌, ◌++◌, length, map, take, set, get_or, filter, fold, Option, Some, None, option_map, nat_lt, ◌⊎◌, inl, inr, refl, sym, ap, ◌∙◌, arith, get_or-set_other, get_or-set_same}
use Rattle.std.specs.List.{starts_with}
use Rattle.std.proofs.lemmas.List.{map_push, take_more, length-set}
use Rattle.std.proofs.lemmas.Bool.Decides.{Decides-eqb, Decides-ltb}
use Rattle.auth_trees.specs.declared.records.Record.{Record}
use Rattle.auth_trees.specs.declared.tables.Deepest.{Deepest}
use Rattle.auth_spec.specs.Pairs.{Pair, is_below, deeper}
use Rattle.auth_trees.specs.Flat.{flat, known, deeper_known, deepest_record}

pub true_or_false : (b : Bool) → (b ≡ true) ⊎ (b ≡ false)
true_or_false true = inl refl
true_or_false false = inr refl

pub same_or_not : (m n : ℕ) → ((eqb m n ≡ true) × (m ≡ n)) ⊎ ((eqb m n ≡ false) × (m ≢ n))
same_or_not m n =
    elim (true_or_false (eqb m n)) [
      | inl t ↦ inl (t, (Decides-eqb m n).0 t)
      | inr f ↦ inr (f, λ e. absurd (let t : eqb m n ≡ true = (Decides-eqb m n).1 e in cc))
    ]

filter_push : (test : Pair → Bool) (ps : List Pair) (p : Pair) → filter test (ps ++ p ∷ []) ≡ filter test ps ++ cond (test p) (p ∷ []) []
filter_push test [] p = refl
filter_push test (q ∷ ps) p =
    let rest = filter_push test ps p in
    elim (test q) as (λ b. cond b (q ∷ filter test (ps ++ p ∷ [])) (filter test (ps ++ p ∷ [])) ≡ cond b (q ∷ filter test ps) (filter test ps) ++ cond (test p) (p ∷ []) []) [
      | true ↦ ap (λ (xs : List Pair). q ∷ xs) rest
      | false ↦ rest
    ]

fold_push : (o : Option Pair) (ps qs : List Pair) → fold deeper o (ps ++ qs) ≡ fold deeper (fold deeper o ps) qs
fold_push o [] qs = refl
fold_push o (p ∷ ps) qs = fold_push (deeper o p) ps qs

known_deeper : (o : Option Pair) (p : Pair) → option_map known (deeper o p) ≡ deeper_known (option_map known o) (known p)
known_deeper None p = refl
known_deeper (Some q) p =
    elim (nat_lt (length p.path) (length q.path)) as (λ b. option_map known (cond b (Some q) (Some p)) ≡ cond b (Some (known q)) (Some (known p))) [ true ↦ refl | false ↦ refl ]

pub none_deepest : (path : List ℕ) (e : ℕ) → deepest_record [] path e ≡ None
unfolding deepest_record
none_deepest path e = refl

step : (rs : List Record) (r : Record) (path : List ℕ) (e : ℕ)
    → deepest_record (rs ++ r ∷ []) path e ≡ cond (eqb r.entry e && is_below path r.path) (deeper_known (deepest_record rs path e) (known (flat r))) (deepest_record rs path e)
unfolding deepest_record
step rs r path e =
    let test : Pair → Bool = λ pair. eqb pair.entry e && is_below path pair.path in
    let old = fold deeper None (filter test (map flat rs)) in
    ap (λ (ps : List Pair). option_map known (fold deeper None (filter test ps))) (map_push flat rs r)
    ∙ ap (λ (ps : List Pair). option_map known (fold deeper None ps)) (filter_push test (map flat rs) (flat r))
    ∙ ap (option_map known) (fold_push None (filter test (map flat rs)) (cond (test (flat r)) (flat r ∷ []) []))
    ∙ elim (test (flat r)) as (λ b. option_map known (fold deeper old (cond b (flat r ∷ []) [])) ≡ cond b (deeper_known (option_map known old) (known (flat r))) (option_map known old)) [
      | true ↦ known_deeper old (flat r)
      | false ↦ refl
    ]

written : (b : Bool) (old new : List (Option Deepest)) (i e : ℕ) (later : Deepest) (before : Option Deepest) → i < length old
    → new ≡ cond b (set old i (deeper_known (get_or old i None) later)) old → get_or old e None ≡ before
    → get_or new e None ≡ cond (eqb i e && b) (deeper_known before later) before
written true old new i e later before lt made had =
    elim (same_or_not i e) [
      | inl s ↦
          let here : get_or new e None ≡ deeper_known (get_or old i None) later =
          ap (λ (xs : List (Option Deepest)). get_or xs e None) made ∙ ap (λ j. get_or (set old i (deeper_known (get_or old i None) later)) j None) (sym s.1)
          ∙ get_or-set_same old i (deeper_known (get_or old i None) later) None lt in
          here ∙ ap (λ (o : Option Deepest). deeper_known o later) (ap (λ j. get_or old j None) s.1 ∙ had)
          ∙ sym (ap (λ b. cond (b && true) (deeper_known before later) before) s.0)
      | inr s ↦
          let other : e ≢ i = λ f. s.1 (sym f) in
          ap (λ (xs : List (Option Deepest)). get_or xs e None) made ∙ get_or-set_other old i e (deeper_known (get_or old i None) later) None other ∙ had
          ∙ sym (ap (λ b. cond (b && true) (deeper_known before later) before) s.0)
    ]
written false old new i e later before lt made had =
    ap (λ (xs : List (Option Deepest)). get_or xs e None) made ∙ had
    ∙ sym (elim (eqb i e) as (λ b. cond (b && false) (deeper_known before later) before ≡ before) [ true ↦ refl | false ↦ refl ])

-- one record more
pub deepest_more : (old new : List (Option Deepest)) (rs : List Record) (k : ℕ) (r : Record) (path : List ℕ) (e : ℕ) → k < length rs → r ≡ get_or rs k r → r.entry < length old
    → new ≡ cond (is_below path r.path) (set old r.entry (deeper_known (get_or old r.entry None) (known (flat r)))) old
    → get_or old e None ≡ deepest_record (take k rs) path e → get_or new e None ≡ deepest_record (take (k + 1) rs) path e
deepest_more old new rs k r path e lt is within made had =
    let split : take (k + 1) rs ≡ take k rs ++ r ∷ [] = take_more rs k r lt ∙ ap (λ (x : Record). take k rs ++ x ∷ []) (sym is) in
    written (is_below path r.path) old new r.entry e (known (flat r)) (deepest_record (take k rs) path e) within made had
    ∙ sym (ap (λ (xs : List Record). deepest_record xs path e) split ∙ step (take k rs) r path e)

pub as_long : (b : Bool) (old new : List (Option Deepest)) (i : ℕ) (v : Option Deepest) → new ≡ cond b (set old i v) old → length new ≡ length old
as_long true old new i v e = ap length e ∙ length-set old i v
as_long false old new i v e = ap length e

-- ---- a record of the path itself, which is not above it

and_false : (b : Bool) → (b && false) ≡ false
and_false true = refl
and_false false = refl

not_less : (n : ℕ) → nat_lt n n ≡ false
not_less n =
    elim (true_or_false (nat_lt n n)) [
      | inl t ↦ absurd (let less : n < n = (Decides-ltb n n).0 t in omega (arith, less))
      | inr f ↦ f
    ]

pub own_path : (rs : List Record) (r : Record) (e : ℕ) → deepest_record (rs ++ r ∷ []) r.path e ≡ deepest_record rs r.path e
own_path rs r e =
    let above : is_below r.path r.path ≡ false =
    ap (λ b. starts_with eqb r.path r.path && b) (not_less (length r.path)) ∙ and_false (starts_with eqb r.path r.path) in
    let old = deepest_record rs r.path e in
    step rs r r.path e
    ∙ ap (λ b. cond (eqb r.entry e && b) (deeper_known old (known (flat r))) old) above
    ∙ ap (λ b. cond b (deeper_known old (known (flat r))) old) (and_false (eqb r.entry e))

-- ---- whether any entry has a deepest node

pub none_of_none : (ds : List (Option Deepest)) (b : Bool) (i : ℕ) (v : Option Deepest) (new : List (Option Deepest)) (e : ℕ) → b ≡ false → new ≡ cond b (set ds i v) ds
    → get_or ds e None ≡ None → get_or new e None ≡ None
none_of_none ds b i v new e f made none = ap (λ (xs : List (Option Deepest)). get_or xs e None) (made ∙ ap (λ b. cond b (set ds i v) ds) f) ∙ none
