-- The touched keys with a write, or those without: the code puts them in the order of the definitions, and they have a spelling.
use Rattle.std.specs.declared.cmp.Ordering.{Ordering}
use Rattle.std.specs.declared.cmp.Ordering.TheVariants.{Less, Equal, Greater}
use Rattle.std.specs.Bool.{beq}
use Rattle.std.specs.BTreeSet.{insert_key}
use Rattle.std.specs.Cmp.Lexicographic.{slice_cmp}
use Rattle.std.specs.List.{AllByRecursion, filter, fold}
use Rattle.std.specs.Ordering.{nat_cmp, match_ordering}
use Rattle.std.proofs.Common.{◌≡◌, ℕ, ◌+◌, ◌<◌, ◌≤◌, ◌^◌, Bool, true, false, cond, List, [], ◌∷◌, suc, length, get_or, drop, map, if◌then◌else◌, refl, sym, ap, ap₂, subst, ◌∙◌, add-one, arith}
use Rattle.std.proofs.Math.Seq.{drop-cons, drop-length}
use Rattle.std.proofs.lemmas.List.Elements.{All-from_recursion, recursion_from_All}
use Rattle.xdr_spec.specs.Format.{list}
use Rattle.ledger_types.specs.Key.{key_format}
use Rattle.ledger_types.specs.KeyOrder.{key_cmp}
use Rattle.ledger_types.specs.declared.key.LedgerKey.{LedgerKey}
use Rattle.ledger_types.proofs.Lemmas.{key_ranked}
use Rattle.tx_xdr.specs.Soroban.{footprint_format}
use Rattle.tx_xdr.specs.declared.transaction.Footprint.{Footprint}
use Rattle.contract_storage.specs.Touched.{AreSpelled}
use Rattle.contract_storage.specs.declared.touched.Touch.{Touch}
use Rattle.call_spec.specs.Laws.{is_write}
use Rattle.apply_spec.specs.Recorded.{Touched, bytes_cmp, keys_where}
use Rattle.apply_spec.proofs.Lemmas.{all_rising_of}
use Rattle.tx_steps.specs.Touched.{kind_in, touched_in, keys_in}

-- ---- the order of keys

abbrev AllFit : List LedgerKey → Type 0
AllFit keys = AllByRecursion (λ key. key_format.fits key) keys

same_order : (k l : LedgerKey) → key_format.fits k → key_format.fits l → key_cmp k l ≡ bytes_cmp k l
same_order k l f g = ap₂ (slice_cmp nat_cmp) (key_ranked k f) (key_ranked l g)

same_inserted : (ks : List LedgerKey) (k : LedgerKey) → AllFit ks → key_format.fits k → insert_key key_cmp ks k ≡ insert_key bytes_cmp ks k
same_inserted [] k h f = refl
same_inserted (x ∷ ks) k h f =
    ap₂ (λ (o : Ordering) (r : List LedgerKey). match_ordering o (k ∷ x ∷ ks) (x ∷ ks) (x ∷ r)) (same_order k x f h.0) (same_inserted ks k h.1 f)

inserted_fit : (ks : List LedgerKey) (k : LedgerKey) → AllFit ks → key_format.fits k → AllFit (insert_key bytes_cmp ks k)
inserted_fit [] k h f = (f, tt)
inserted_fit (x ∷ ks) k h f = at (bytes_cmp k x) (inserted_fit ks k h.1 f)
  where
    at : (o : Ordering) → AllFit (insert_key bytes_cmp ks k) → AllFit (match_ordering o (k ∷ x ∷ ks) (x ∷ ks) (x ∷ insert_key bytes_cmp ks k))
    at Less r = (f, h)
    at Equal r = h
    at Greater r = (h.0, r)

-- keys put one by one into others, in the order of the code
abbrev filled : List LedgerKey → List LedgerKey → List LedgerKey
filled those keys = fold (insert_key key_cmp) those keys

filled_same : (those keys : List LedgerKey) → AllFit those → AllFit keys → filled those keys ≡ fold (insert_key bytes_cmp) those keys
filled_same those [] h g = refl
filled_same those (k ∷ keys) h g =
    ap (λ (xs : List LedgerKey). filled xs keys) (same_inserted those k h g.0) ∙ filled_same (insert_key bytes_cmp those k) keys (inserted_fit those k h g.0) g.1

-- ---- the chosen keys

abbrev chosen : Bool → List Touch → List LedgerKey
chosen w ts = keys_where (λ kind. beq (is_write kind) w) (touched_in ts)

abbrev is_chosen : Bool → Touch → Bool
is_chosen w t = beq (is_write (kind_in t.access)) w

keys_cond : (b : Bool) (x : Touched) (xs : List Touched) → map (λ (y : Touched). y.key) (cond b (x ∷ xs) xs) ≡ cond b (x.key ∷ map (λ (y : Touched). y.key) xs) (map (λ (y : Touched). y.key) xs)
keys_cond true x xs = refl
keys_cond false x xs = refl

chosen_cons : (w : Bool) (t : Touch) (ts : List Touch) → chosen w (t ∷ ts) ≡ cond (is_chosen w t) (t.key ∷ chosen w ts) (chosen w ts)
chosen_cons w t ts = keys_cond (is_chosen w t) (record { key = t.key; kind = kind_in t.access }) (filter (λ (x : Touched). beq (is_write x.kind) w) (touched_in ts))

chosen_fit : (w : Bool) (ts : List Touch) → AllByRecursion (λ (t : Touch). key_format.fits t.key) ts → AllFit (chosen w ts)
chosen_fit w [] h = tt
chosen_fit w (t ∷ ts) h = subst AllFit (sym (chosen_cons w t ts)) (at (is_chosen w t) (chosen_fit w ts h.1))
  where
    at : (b : Bool) → AllFit (chosen w ts) → AllFit (cond b (t.key ∷ chosen w ts) (chosen w ts))
    at true r = (h.0, r)
    at false r = r

-- What a walk over the touched keys still has to do: from the keys so far it comes to those of all.
abbrev pub Fills : Bool → List LedgerKey → ℕ → List Touch → Type 0
Fills w keys i touches = filled keys (chosen w (drop i touches)) ≡ filled [] (chosen w touches)

pub fills_none : (w : Bool) (touches : List Touch) (keys : List LedgerKey) → keys ≡ [] → Fills w keys 0 touches
fills_none w touches keys e = ap (λ (xs : List LedgerKey). filled xs (chosen w touches)) e

filled_cond : (b : Bool) (k : LedgerKey) (old rest : List LedgerKey) → filled (if b then insert_key key_cmp old k else old) rest ≡ filled old (cond b (k ∷ rest) rest)
filled_cond true k old rest = refl
filled_cond false k old rest = refl

pub fills_more : (w : Bool) (touches : List Touch) (i : ℕ) (t : Touch) (old new : List LedgerKey) → i < length touches → t ≡ get_or touches i t
    → new ≡ (if is_chosen w t then insert_key key_cmp old t.key else old) → Fills w old i touches → Fills w new (i + 1) touches
fills_more w touches i t old new lt is put so_far =
    rw add-one
    (ap (λ (xs : List LedgerKey). filled xs (chosen w (drop (suc i) touches))) put ∙ filled_cond (is_chosen w t) t.key old (chosen w (drop (suc i) touches))
    ∙ ap (filled old) (sym (chosen_cons w t (drop (suc i) touches)) ∙ ap (chosen w) (sym here)) ∙ so_far)
  where
    here : drop i touches ≡ t ∷ drop (suc i) touches
    here = drop-cons touches i t lt ∙ ap (λ (x : Touch). x ∷ drop (suc i) touches) (sym is)

pub fills_all : (w : Bool) (touches : List Touch) (keys : List LedgerKey) → AreSpelled touches → Fills w keys (length touches) touches → keys ≡ keys_in w touches
fills_all w touches keys spelled h =
    ap (λ (ts : List Touch). filled keys (chosen w ts)) (sym (drop-length touches)) ∙ h ∙ filled_same [] (chosen w touches) tt (chosen_fit w touches spelled.each)

-- ---- they have a spelling

few_chosen : (w : Bool) (ts : List Touch) → length (chosen w ts) ≤ length ts
few_chosen w [] = omega arith
few_chosen w (t ∷ ts) = subst (λ (ks : List LedgerKey). length ks ≤ suc (length ts)) (sym (chosen_cons w t ts)) (at (is_chosen w t) (few_chosen w ts))
  where
    at : (b : Bool) → length (chosen w ts) ≤ length ts → length (cond b (t.key ∷ chosen w ts) (chosen w ts)) ≤ suc (length ts)
    at true r = omega arith
    at false r = omega arith

few_inserted : (ks : List LedgerKey) (k : LedgerKey) → length (insert_key bytes_cmp ks k) ≤ suc (length ks)
few_inserted [] k = omega arith
few_inserted (x ∷ ks) k = at (bytes_cmp k x) (few_inserted ks k)
  where
    at : (o : Ordering) → length (insert_key bytes_cmp ks k) ≤ suc (length ks) → length (match_ordering o (k ∷ x ∷ ks) (x ∷ ks) (x ∷ insert_key bytes_cmp ks k)) ≤ suc (suc (length ks))
    at Less r = omega arith
    at Equal r = omega arith
    at Greater r = omega arith

few_filled : (those keys : List LedgerKey) → length (fold (insert_key bytes_cmp) those keys) ≤ length those + length keys
few_filled those [] = omega arith
few_filled those (k ∷ keys) = omega (arith, few_filled (insert_key bytes_cmp those k) keys, few_inserted those k)

abbrev AreFit : List LedgerKey → Type 0
AreFit ks = (length ks ≤ 4294967295) × (length ks < 2 ^ 32) × AllFit ks

list_fits : (w : Bool) (touches : List Touch) → AreSpelled touches → AreFit (keys_in w touches)
list_fits w touches spelled =
    let few : length (keys_in w touches) < 2 ^ 32 = omega (arith, few_filled [] (chosen w touches), few_chosen w touches, spelled.few) in (
      omega (arith, few),
      few,
      recursion_from_All (λ key. key_format.fits key) (keys_in w touches)
          (all_rising_of (λ key. key_format.fits key) (chosen w touches) (All-from_recursion (λ key. key_format.fits key) (chosen w touches) (chosen_fit w touches spelled.each))),
    )

pub footprint_fits : (touches : List Touch) (reads writes : List LedgerKey) → AreSpelled touches → reads ≡ keys_in false touches → writes ≡ keys_in true touches
    → (let f : Footprint = record { read_only = reads; read_write = writes } in footprint_format.fits f)
unfolding footprint_format list
footprint_fits touches reads writes spelled r w = (subst AreFit (sym r) (list_fits false touches spelled), subst AreFit (sym w) (list_fits true touches spelled))
