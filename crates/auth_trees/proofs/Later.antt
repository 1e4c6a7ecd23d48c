-- Laws of demands and of snapshots.
use Rattle.std.proofs.Common.{◌≡◌, ℕ, zero, suc, ◌+◌, ◌-◌, ◌≤◌, Bool, true, false, cond, not, ◌&&◌, List, [], ◌∷◌, ◌++◌, length, take, Option, Some, None, slice_get, refl, sym, ap, ◌∙◌, subst, append_assoc, arith}
use Rattle.std.specs.Option.{option_map, option_and_then, option_or}
use Rattle.std.proofs.lemmas.Option.{same_Some}
use Rattle.std.proofs.lemmas.Bool.{and_parts}
use Rattle.std.proofs.lemmas.List.{append-nil, take_at}
use Rattle.value_types.specs.declared.address.ScAddress.{ScAddress}
use Rattle.invoke_types.specs.declared.function.Function.{Function}
use Rattle.auth_types.specs.Views.{tree_of}
use Rattle.auth_types.specs.declared.auth_entry.AuthEntry.{AuthEntry}
use Rattle.auth_spec.specs.declared.demand.Demand.TheVariants as demands
use Rattle.auth_spec.specs.Pairs.{Pair, has_pair, deepest}
use Rattle.auth_spec.specs.Demands.{Marked, same_function, authorises, first_from, open_below, by_child, by_root, chosen, may_authorise, is_caller, Choice, ByNode, ByCaller, ByNothing, ByNote, choice_of, choice, answer, demand, paired, after_demand, restored, IsLater}

-- ---- the entry of an answer

-- an entry of the address at this index
abbrev pub IsOfAddress : Marked → ScAddress → ℕ → Type 0
IsOfAddress s address index = (entry : AuthEntry) × (slice_get s.entries index ≡ Some entry) × (authorises s.source address entry ≡ true)

first_some : {A B : Type 0} (f : ℕ → A → Option B) (j : ℕ) (xs : List A) (y : B) → first_from f j xs ≡ Some y → (k : ℕ) × ((x : A) × (slice_get xs k ≡ Some x) × (f (j + k) x ≡ Some y))
first_some f j [] y e = absurd cc
first_some {A = A} {B = B} f j (x ∷ xs) y e =
    let go : (o : Option B) → f j x ≡ o → option_or o (first_from f (suc j) xs) ≡ Some y → (k : ℕ) × ((z : A) × (slice_get (x ∷ xs) k ≡ Some z) × (f (j + k) z ≡ Some y)) =
    λ o. elim o as (λ o. f j x ≡ o → option_or o (first_from f (suc j) xs) ≡ Some y → (k : ℕ) × ((z : A) × (slice_get (x ∷ xs) k ≡ Some z) × (f (j + k) z ≡ Some y))) [
      | None ↦ λ _ h.
          let rest = first_some f (suc j) xs y h in
          let later : suc j + rest.0 ≡ j + suc rest.0 = omega arith in
          (suc rest.0, (rest.1.0, rest.1.1, subst (λ n. f n rest.1.0 ≡ Some y) later rest.1.2))
      | Some z ↦ λ now h.
          let here : j ≡ j + 0 = omega arith in
          (0, (x, refl, subst (λ n. f n x ≡ Some y) here (now ∙ h)))
    ] in
    go (f j x) refl e

passed : {B : Type 0} (b : Bool) (o : Option B) (y : B) → cond b o None ≡ Some y → (b ≡ true) × (o ≡ Some y)
passed true o y e = (refl, e)
passed false o y e = absurd cc

map_some : {A B : Type 0} (f : A → B) (o : Option A) (y : B) → option_map f o ≡ Some y → (x : A) × (f x ≡ y)
map_some f None y e = absurd cc
map_some f (Some x) y e = (x, same_Some (f x) y e)

by_child_is : (s : Marked) (path : List ℕ) (address : ScAddress) (f : Function) (y : ℕ × List ℕ) → first_from (by_child s path address f) 0 s.entries ≡ Some y → IsOfAddress s address y.0
by_child_is s path address f y e =
    let h = first_some (by_child s path address f) 0 s.entries y e in
    let entry = h.1.0 in
    let p = passed (authorises s.source address entry) (option_map (λ place. (0 + h.0, place)) (option_and_then (open_below s.pairs f (tree_of entry.root_invocation)) (deepest s.pairs path (0 + h.0)))) y h.1.2 in
    let m = map_some (λ (place : List ℕ). (0 + h.0, place)) (option_and_then (open_below s.pairs f (tree_of entry.root_invocation)) (deepest s.pairs path (0 + h.0))) y p.1 in
    let same : h.0 ≡ y.0 = omega (arith, ap (λ (z : ℕ × List ℕ). z.0) m.1) in
    (entry, subst (λ n. slice_get s.entries n ≡ Some entry) same h.1.1, p.0)

by_root_is : (s : Marked) (address : ScAddress) (f : Function) (y : ℕ × List ℕ) → first_from (by_root s address f) 0 s.entries ≡ Some y → IsOfAddress s address y.0
by_root_is s address f y e =
    let h = first_some (by_root s address f) 0 s.entries y e in
    let entry = h.1.0 in
    let test = not (has_pair s.pairs (0 + h.0)) && authorises s.source address entry && same_function entry.root_invocation.function f in
    let p = passed test (Some (0 + h.0, [])) y h.1.2 in
    let same : h.0 ≡ y.0 = omega (arith, ap (λ (z : ℕ × List ℕ). z.0) (same_Some (0 + h.0, []) y p.1)) in
    let parts = and_parts (not (has_pair s.pairs (0 + h.0)) && authorises s.source address entry) (same_function entry.root_invocation.function f) p.0 in
    (entry, subst (λ n. slice_get s.entries n ≡ Some entry) same h.1.1, (and_parts (not (has_pair s.pairs (0 + h.0))) (authorises s.source address entry) parts.0).1)

chosen_is : (s : Marked) (path : List ℕ) (address : ScAddress) (f : Function) (y : ℕ × List ℕ) → chosen s path address f ≡ Some y → IsOfAddress s address y.0
chosen_is s path address f y e =
    let root = first_from (by_root s address f) 0 s.entries in
    let go : (o : Option (ℕ × List ℕ)) → first_from (by_child s path address f) 0 s.entries ≡ o → option_or o root ≡ Some y → IsOfAddress s address y.0 =
    λ o. elim o as (λ o. first_from (by_child s path address f) 0 s.entries ≡ o → option_or o root ≡ Some y → IsOfAddress s address y.0) [
      | None ↦ λ _ h. by_root_is s address f y h
      | Some z ↦ λ now h. by_child_is s path address f y (now ∙ h)
    ] in
    go (first_from (by_child s path address f) 0 s.entries) refl e

answer_of : (o : Option (ℕ × List ℕ)) (index : ℕ) (first : Bool) → answer (choice_of o) ≡ demands.Matched index first → (y : ℕ × List ℕ) × (o ≡ Some y) × (y.0 ≡ index)
answer_of None index first e = absurd cc
answer_of (Some y) index first e = let same : y.0 ≡ index = cc in (y, refl, same)

pub matched_is : (s : Marked) (path : List ℕ) (caller : Option ScAddress) (address : ScAddress) (f : Function) (index : ℕ) (first : Bool) → demand s path caller address f ≡ demands.Matched index first
    → IsOfAddress s address index
matched_is s path caller address f index first e =
    let o = chosen s path address f in
    let last : answer (choice_of o) ≡ demands.Matched index first → IsOfAddress s address index =
    λ h. let a = answer_of o index first h in subst (λ n. IsOfAddress s address n) a.2 (chosen_is s path address f a.0 a.1) in
    let inner : (b : Bool) → answer (cond b ByCaller (choice_of o)) ≡ demands.Matched index first → IsOfAddress s address index =
    λ b. elim b as (λ b. answer (cond b ByCaller (choice_of o)) ≡ demands.Matched index first → IsOfAddress s address index) [ true ↦ λ h. absurd cc | false ↦ last ] in
    let outer : (b : Bool) → answer (cond (not b) ByNothing (cond (is_caller address caller) ByCaller (choice_of o))) ≡ demands.Matched index first → IsOfAddress s address index =
    λ b. elim b as (λ b. answer (cond (not b) ByNothing (cond (is_caller address caller) ByCaller (choice_of o))) ≡ demands.Matched index first → IsOfAddress s address index) [
      | true ↦ inner (is_caller address caller)
      | false ↦ λ h. absurd cc
    ] in
    outer (may_authorise address) e

-- ---- later states

pub goes_back : (start later : Marked) → IsLater start later → restored (length start.pairs) later ≡ start
goes_back start later h =
    ap (λ (s : Marked). restored (length start.pairs) s) h.1 ∙ ap (λ (ps : List Pair). record start { pairs = ps }) (take_at start.pairs h.0 (length start.pairs) refl)

pub later_itself : (s : Marked) → IsLater s s
later_itself s = ([], ap (λ (ps : List Pair). record s { pairs = ps }) (sym (append-nil s.pairs)))

pub later_again : (s t u : Marked) → IsLater s t → IsLater t u → IsLater s u
later_again s t u h k =
    (h.0 ++ k.0, k.1 ∙ ap (λ (v : Marked). record v { pairs = v.pairs ++ k.0 }) h.1 ∙ ap (λ (ps : List Pair). record s { pairs = ps }) (append_assoc s.pairs h.0 k.0))

later_choice : (s : Marked) (path : List ℕ) (c : Choice) → IsLater s (record s { pairs = paired s.pairs path c })
later_choice s path (ByNode entry place) = (record { entry = entry; node = place; path = path } ∷ [], refl)
later_choice s path ByCaller = later_itself s
later_choice s path ByNothing = later_itself s
later_choice s path (ByNote tree place) = later_itself s

pub later_demand : (s : Marked) (path : List ℕ) (caller : Option ScAddress) (address : ScAddress) (f : Function) → IsLater s (after_demand s path caller address f)
later_demand s path caller address f = later_choice s path (choice s path caller address f)

pub take_past : (xs ys : List Pair) (n : ℕ) → length xs ≤ n → take n (xs ++ ys) ≡ xs ++ take (n - length xs) ys
take_past [] ys n h = let e : n ≡ n - 0 = omega arith in ap (λ k. take k ys) e
take_past (x ∷ xs) ys zero h = absurd (omega arith)
take_past (x ∷ xs) ys (suc n) h =
    let e : n - length xs ≡ suc n - suc (length xs) = omega arith in
    ap (λ (zs : List Pair). x ∷ zs) (take_past xs ys n (omega arith) ∙ ap (λ k. xs ++ take k ys) e)

pub later_restore : (s t : Marked) (count : ℕ) → IsLater s t → length s.pairs ≤ count → IsLater s (restored count t)
later_restore s t count h long =
    (take (count - length s.pairs) h.0, ap (λ (u : Marked). restored count u) h.1 ∙ ap (λ (ps : List Pair). record s { pairs = ps }) (take_past s.pairs h.0 count long))
