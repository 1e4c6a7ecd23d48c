-- Overlays over a ground, as maps.
use Rattle.std.specs.Prelude.{cond}
use Rattle.std.specs.Map.{lookup}
use Rattle.std.specs.BTreeMap.{insert_entry, is_at}
use Rattle.std.specs.Option.{option_map}
use Rattle.std.specs.declared.cmp.Ordering.{Ordering}
use Rattle.std.specs.declared.cmp.Ordering.TheVariants.{Less, Equal, Greater}
use Rattle.std.specs.Ordering.{nat_cmp, is_eq, eq_by_cmp, match_ordering}
use Rattle.std.specs.Cmp.Lexicographic.{slice_cmp, nat_list_cmp_total}
use Rattle.std.specs.FinMap.{get, insert, get-insert, get-remove, same_map, slice_cmp-IsAntisymmetric, nat_cmp-IsAntisymmetric, IsAntisymmetric}
use Rattle.std.proofs.Common.{◌≡◌, ℕ, Bool, true, false, List, [], ◌∷◌, ◌++◌, Option, Some, None, refl, sym, ap, ◌∙◌}
use Rattle.std.proofs.lemmas.Cmp.{tied_itself}
use Rattle.ledger_types.specs.KeyOrder.{ranked_key, key_cmp}
use Rattle.ledger_types.specs.declared.key.LedgerKey.{LedgerKey}
use Rattle.ledger_spec.specs.declared.Kept.{Kept}
use Rattle.ledger_spec.specs.LedgerMap.{LedgerMap}
use Rattle.contract_storage.specs.Layered.{set_at}
use Rattle.contract_storage.specs.Overlays.{kept_in, overlay_of, over_entry, laid, laid_all, over}
use Rattle.contract_storage.specs.Places.{at}
use Rattle.contract_storage.specs.declared.layer.Shared.{Shared}
use Rattle.contract_storage.specs.declared.layer.Overlay.{Overlay}
use Rattle.contract_storage.specs.declared.layer.Overlay.TheVariants.{Same}

abbrev pub order : List ℕ → List ℕ → Ordering
order a b = slice_cmp nat_cmp a b

pub antisymmetric : IsAntisymmetric order
antisymmetric = slice_cmp-IsAntisymmetric nat_cmp-IsAntisymmetric

pub set_gets : (m : LedgerMap) (k : List ℕ) (v : Option Kept) (q : List ℕ) → get (set_at m k v) q ≡ cond (eq_by_cmp order q k) v (get m q)
set_gets m k None q = get-remove nat_list_cmp_total m k q
set_gets m k (Some v) q = get-insert nat_list_cmp_total m k v q

-- ---- what is found

abbrev pub laid_entry : Option Kept → Option Kept → Option Overlay → Option Kept
laid_entry below mine None = mine
laid_entry below mine (Some c) = over_entry below c

abbrev pub given : Option Kept → Option Overlay → Option Kept
given below o = laid_entry below below o

pub laid_gets : (g m : LedgerMap) (es : List (LedgerKey × Overlay)) (q : List ℕ) → get (laid_all g m es) q ≡ laid_entry (get g q) (get m q) (at q es)
laid_gets g m [] q = refl
laid_gets g m (e ∷ es) q =
    set_gets (laid_all g m es) (ranked_key e.0) (over_entry (get g (ranked_key e.0)) e.1) q
    ∙ elim (order q (ranked_key e.0)) as (λ o. order q (ranked_key e.0) ≡ o → cond (is_eq o) (over_entry (get g (ranked_key e.0)) e.1) (get (laid_all g m es) q) ≡ laid_entry (get g q) (get m q) (cond (is_eq o) (Some e.1) (at q es))) [
      | Less ↦ λ p. laid_gets g m es q
      | Equal ↦ λ p. ap (λ (b : List ℕ). over_entry (get g b) e.1) (sym (antisymmetric q (ranked_key e.0) p))
      | Greater ↦ λ p. laid_gets g m es q
    ] refl

pub over_gets : (g : LedgerMap) (es : List (LedgerKey × Overlay)) (q : List ℕ) → get (over g es) q ≡ given (get g q) (at q es)
over_gets g es q = laid_gets g g es q

pub at_lookup : {X : Type 0} (k : LedgerKey) (es : List (LedgerKey × X)) → lookup (is_at (key_cmp k)) es ≡ at (ranked_key k) es
at_lookup k [] = refl
at_lookup k (e ∷ es) =
    elim (eq_by_cmp order (ranked_key k) (ranked_key e.0)) as (λ b. cond b (Some e.1) (lookup (is_at (key_cmp k)) es) ≡ cond b (Some e.1) (at (ranked_key k) es)) [
      | true ↦ refl
      | false ↦ at_lookup k es
    ]

-- ---- one more key in order

pub swap : {X : Type 0} (a b : Bool) (x y z : Option X) → (a ≡ true → b ≡ true → ⊥) → cond a x (cond b y z) ≡ cond b y (cond a x z)
swap true true x y z h = absurd (h refl refl)
swap true false x y z h = refl
swap false true x y z h = refl
swap false false x y z h = refl

twice : {X : Type 0} (b : Bool) (x y z : Option X) → cond b x z ≡ cond b x (cond b y z)
twice true x y z = refl
twice false x y z = refl

pub equal_from : (o : Ordering) → is_eq o ≡ true → o ≡ Equal
equal_from Less e = cc
equal_from Equal e = refl
equal_from Greater e = cc

not_greater : Greater ≡ Equal → ⊥
not_greater e = cc

not_both : (q k x : List ℕ) → order k x ≡ Greater → eq_by_cmp order q x ≡ true → eq_by_cmp order q k ≡ true → ⊥
not_both q k x p a b =
    let same : k ≡ x = sym (antisymmetric q k (equal_from (order q k) b)) ∙ antisymmetric q x (equal_from (order q x) a) in
    not_greater (sym p ∙ ap (order k) (sym same) ∙ tied_itself nat_list_cmp_total k)

pub at_inserted : {X : Type 0} (k : LedgerKey) (c : X) (es : List (LedgerKey × X)) (q : List ℕ)
    → at q (insert_entry key_cmp es k c) ≡ cond (eq_by_cmp order q (ranked_key k)) (Some c) (at q es)
at_inserted {X} k c [] q = refl
at_inserted {X} k c (e ∷ es) q =
    elim (key_cmp k e.0) as (λ o. key_cmp k e.0 ≡ o → at q (match_ordering o ((k, c) ∷ e ∷ es) ((e.0, c) ∷ es) (e ∷ insert_entry key_cmp es k c)) ≡ cond (eq_by_cmp order q (ranked_key k)) (Some c) (at q (e ∷ es))) [
      | Less ↦ λ p. refl
      | Equal ↦ λ p.
          twice (eq_by_cmp order q (ranked_key e.0)) (Some c) (Some e.1) (at q es)
          ∙ ap (λ (b : List ℕ). cond (eq_by_cmp order q b) (Some c) (at q (e ∷ es))) (sym (antisymmetric (ranked_key k) (ranked_key e.0) p))
      | Greater ↦ λ p.
          ap (λ (o : Option X). cond (eq_by_cmp order q (ranked_key e.0)) (Some e.1) o) (at_inserted k c es q)
          ∙ swap (eq_by_cmp order q (ranked_key e.0)) (eq_by_cmp order q (ranked_key k)) (Some e.1) (Some c) (at q es) (not_both q (ranked_key k) (ranked_key e.0) p)
    ] refl

-- ---- overlays that change nothing, and one overlay

-- the entry of the ground over the ground
laid_same : (g : LedgerMap) (k : LedgerKey) → laid g g k Same ≡ g
laid_same g k =
    same_map nat_list_cmp_total antisymmetric _ _ (λ q.
    set_gets g (ranked_key k) (get g (ranked_key k)) q
    ∙ elim (order q (ranked_key k)) as (λ o. order q (ranked_key k) ≡ o → cond (is_eq o) (get g (ranked_key k)) (get g q) ≡ get g q) [
      | Less ↦ λ p. refl
      | Equal ↦ λ p. ap (get g) (sym (antisymmetric q (ranked_key k) p))
      | Greater ↦ λ p. refl
    ] refl)

-- overlays with one more behind them
laid_more : (g m : LedgerMap) (es : List (LedgerKey × Overlay)) (e : LedgerKey × Overlay) → laid_all g m (es ++ e ∷ []) ≡ laid_all g (laid g m e.0 e.1) es
laid_more g m [] e = refl
laid_more g m (x ∷ es) e = ap (λ (y : LedgerMap). laid g y x.0 x.1) (laid_more g m es e)

-- a last key that has the entry of the ground
pub over_more : (g : LedgerMap) (es : List (LedgerKey × Overlay)) (k : LedgerKey) → over g (es ++ (k, Same) ∷ []) ≡ over g es
over_more g es k = laid_more g g es (k, Same) ∙ ap (λ (m : LedgerMap). laid_all g m es) (laid_same g k)

-- overlays in which the key with these bytes alone has another one
pub over_with : (g : LedgerMap) (es fs : List (LedgerKey × Overlay)) (r : List ℕ) (c : Overlay) → ((q : List ℕ) → at q fs ≡ cond (eq_by_cmp order q r) (Some c) (at q es))
    → over g fs ≡ set_at (over g es) r (over_entry (get g r) c)
over_with g es fs r c is =
    same_map nat_list_cmp_total antisymmetric _ _ (λ q.
    over_gets g fs q
    ∙ ap (given (get g q)) (is q)
    ∙ elim (order q r) as (λ o. order q r ≡ o → given (get g q) (cond (is_eq o) (Some c) (at q es)) ≡ cond (is_eq o) (over_entry (get g r) c) (get (over g es) q)) [
      | Less ↦ λ p. sym (over_gets g es q)
      | Equal ↦ λ p. ap (λ (b : List ℕ). over_entry (get g b) c) (antisymmetric q r p)
      | Greater ↦ λ p. sym (over_gets g es q)
    ] refl
    ∙ sym (set_gets (over g es) r (over_entry (get g r) c) q))

-- overlays that are the same at all bytes
pub over_same : (g : LedgerMap) (es fs : List (LedgerKey × Overlay)) → ((q : List ℕ) → at q fs ≡ at q es) → over g fs ≡ over g es
over_same g es fs is =
    same_map nat_list_cmp_total antisymmetric _ _ (λ q. over_gets g fs q ∙ ap (given (get g q)) (is q) ∙ sym (over_gets g es q))

pub after_change : (below : Option Kept) (now : Option Shared) → over_entry below (overlay_of now) ≡ option_map kept_in now
after_change below None = refl
after_change below (Some kept) = refl

-- a change to what is there is none
pub put_again : (m : LedgerMap) (k : List ℕ) (v : Kept) → get m k ≡ Some v → insert m k v ≡ m
put_again m k v e =
    same_map nat_list_cmp_total antisymmetric _ _ (λ q.
    set_gets m k (Some v) q
    ∙ elim (order q k) as (λ o. order q k ≡ o → cond (is_eq o) (Some v) (get m q) ≡ get m q) [
      | Less ↦ λ p. refl
      | Equal ↦ λ p. sym e ∙ ap (get m) (sym (antisymmetric q k p))
      | Greater ↦ λ p. refl
    ] refl)
