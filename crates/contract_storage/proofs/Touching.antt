-- The touched keys and the marks at their slots.
use Rattle.std.specs.Prelude.{cond, slice_get, slice_set, slice_index_or}
use Rattle.std.specs.List.{AllByRecursion}
use Rattle.std.specs.Option.{option_flatten, option_map}
use Rattle.std.specs.Ordering.{eq_by_cmp}
use Rattle.std.specs.Str.{bytes_eq}
use Rattle.std.proofs.Common.{◌≡◌, ℕ, suc, ◌+◌, ◌-◌, ◌<◌, ◌^◌, Bool, true, false, List, [], ◌∷◌, ◌++◌, length, take, Option, Some, None, refl, sym, ap, ap₂, subst, ◌∙◌, arith}
use Rattle.std.proofs.lemmas.List.{length_push}
use Rattle.std.proofs.lemmas.Slice.Eq.{bytes_eq-Decides}
use Rattle.ledger_types.specs.Key.{key_format}
use Rattle.ledger_types.specs.KeyOrder.{ranked_key}
use Rattle.ledger_types.specs.declared.key.LedgerKey.{LedgerKey}
use Rattle.ledger_spec.specs.LedgerMap.{key_bytes}
use Rattle.contract_storage.specs.Listed.{mark_of, AreMarked}
use Rattle.contract_storage.specs.Places.{at, has_bytes, named, place_in}
use Rattle.contract_storage.specs.Touched.{stronger, is_same_key, touch, touch_as, access_in, index_in}
use Rattle.contract_storage.specs.declared.access.Access.{Access}
use Rattle.contract_storage.specs.declared.touched.Touch.{Touch}
use Rattle.contract_storage.proofs.Laying.{order}
use Rattle.contract_storage.proofs.Placing.{Keys, at_set, either, known, named_more, split, ties}
use Rattle.contract_storage.proofs.Undoing.{all_less}

-- keys that are as a third are as one another
same_keys : (q k t : LedgerKey) → is_same_key q t ≡ true → is_same_key q k ≡ true → is_same_key k t ≡ true
same_keys q k t a b =
    let qt : key_bytes q ≡ key_bytes t = (bytes_eq-Decides (key_bytes q) (key_bytes t)).0 a in
    let qk : key_bytes q ≡ key_bytes k = (bytes_eq-Decides (key_bytes q) (key_bytes k)).0 b in
    (bytes_eq-Decides (key_bytes k) (key_bytes t)).1 (sym qk ∙ qt)

-- ---- a new key

-- it comes last
pub touch_new : (a : Access) (k : LedgerKey) (ts : List Touch) → index_in k ts ≡ None → touch a k ts ≡ ts ++ record { key = k; access = a } ∷ []
touch_new a k [] e = refl
touch_new a k (t ∷ ts) e =
    let f = split (is_same_key k t.key) (index_in k ts) e in
    ap (λ (b : Bool). cond b (record t { access = stronger t.access a } ∷ ts) (t ∷ touch a k ts)) f.0 ∙ ap (λ (x : List Touch). t ∷ x) (touch_new a k ts f.1)

-- no test has both outcomes
no_both : (b : Bool) → b ≡ false → b ≡ true → ⊥
no_both b f t = cc

-- its index is the number of keys before it, and the others keep theirs
index_new : (a : Access) (k q : LedgerKey) (ts : List Touch) → index_in k ts ≡ None
    → index_in q (touch a k ts) ≡ cond (is_same_key q k) (Some (length ts)) (index_in q ts)
index_new a k q [] e = refl
index_new a k q (t ∷ ts) e =
    let f = split (is_same_key k t.key) (index_in k ts) e in
    ap (λ (b : Bool). index_in q (cond b (record t { access = stronger t.access a } ∷ ts) (t ∷ touch a k ts))) f.0
    ∙ ap (λ (o : Option ℕ). cond (is_same_key q t.key) (Some 0) (option_map suc o)) (index_new a k q ts f.1)
    ∙ either (is_same_key q t.key) (is_same_key q k) (length ts) (index_in q ts) (λ x y. no_both (is_same_key k t.key) f.0 (same_keys q k t.key x y))

-- ---- a key that was touched

-- all keys keep their indices
index_found : (a : Access) (k q : LedgerKey) (ts : List Touch) (i : ℕ) → index_in k ts ≡ Some i → index_in q (touch a k ts) ≡ index_in q ts
index_found a k q [] i e = cc
index_found a k q (t ∷ ts) i e =
    elim (is_same_key k t.key) as (λ b. cond b (Some 0) (option_map suc (index_in k ts)) ≡ Some i
    → index_in q (cond b (record t { access = stronger t.access a } ∷ ts) (t ∷ touch a k ts)) ≡ index_in q (t ∷ ts)) [
      | true ↦ λ h. refl
      | false ↦ λ h.
          elim (index_in k ts) as (λ o. index_in k ts ≡ o → option_map suc o ≡ Some i → index_in q (t ∷ touch a k ts) ≡ index_in q (t ∷ ts)) [
            | None ↦ λ p n. cc
            | Some j ↦ λ p n. ap (λ (o : Option ℕ). cond (is_same_key q t.key) (Some 0) (option_map suc o)) (index_found a k q ts j p)
          ] refl h
    ] e

-- there are as many keys as before
length_found : (a : Access) (k : LedgerKey) (ts : List Touch) (i : ℕ) → index_in k ts ≡ Some i → length (touch a k ts) ≡ length ts
length_found a k [] i e = cc
length_found a k (t ∷ ts) i e =
    elim (is_same_key k t.key) as (λ b. cond b (Some 0) (option_map suc (index_in k ts)) ≡ Some i
    → length (cond b (record t { access = stronger t.access a } ∷ ts) (t ∷ touch a k ts)) ≡ length (t ∷ ts)) [
      | true ↦ λ h. refl
      | false ↦ λ h.
          elim (index_in k ts) as (λ o. index_in k ts ≡ o → option_map suc o ≡ Some i → length (t ∷ touch a k ts) ≡ length (t ∷ ts)) [
            | None ↦ λ p n. cc
            | Some j ↦ λ p n. ap suc (length_found a k ts j p)
          ] refl h
    ] e

-- an index is below the number of keys
pub within : (k : LedgerKey) (ts : List Touch) (i : ℕ) → index_in k ts ≡ Some i → i < length ts
within k [] i e = cc
within k (t ∷ ts) i e =
    elim (is_same_key k t.key) as (λ b. cond b (Some 0) (option_map suc (index_in k ts)) ≡ Some i → i < length (t ∷ ts)) [
      | true ↦ λ h. let z : 0 ≡ i = cc in omega arith
      | false ↦ λ h.
          elim (index_in k ts) as (λ o. index_in k ts ≡ o → option_map suc o ≡ Some i → i < length (t ∷ ts)) [
            | None ↦ λ p n. cc
            | Some j ↦ λ p n. let l : j < length ts = within k ts j p in let z : suc j ≡ i = cc in omega arith
          ] refl h
    ] e

-- ---- their spelling

-- all keys are within their XDR formats after one more access
fits_touch : (a : Access) (k : LedgerKey) (ts : List Touch) → key_format.fits k → AllByRecursion (λ t. key_format.fits t.key) ts → AllByRecursion (λ t. key_format.fits t.key) (touch a k ts)
fits_touch a k [] f h = (f, tt)
fits_touch a k (t ∷ ts) f h =
    elim (is_same_key k t.key) as (λ b. AllByRecursion (λ (x : Touch). key_format.fits x.key) (cond b (record t { access = stronger t.access a } ∷ ts) (t ∷ touch a k ts))) [
      | true ↦ h
      | false ↦ (h.0, fits_touch a k ts f h.1)
    ]

-- ---- the marks

flat : (b : Bool) (m : Option ℕ) (o : Option (Option ℕ)) → option_flatten (cond b (Some m) o) ≡ cond b m (option_flatten o)
flat true m o = refl
flat false m o = refl

-- the mark of a key after one was written at the slot of another key
mark_set : (keys : Keys) (marks : List (Option ℕ)) (q k : LedgerKey) (i : ℕ) (m : Option ℕ) → key_format.fits q → key_format.fits k → place_in k keys ≡ Some i → i < length marks
    → mark_of keys (slice_set marks i m) q ≡ cond (is_same_key q k) m (mark_of keys marks q)
mark_set keys marks q k i m f g place w =
    ap option_flatten (at_set (ranked_key q) (ranked_key k) keys marks i m place w)
    ∙ flat (eq_by_cmp order (ranked_key q) (ranked_key k)) m (at (ranked_key q) (named keys marks))
    ∙ ap (λ (b : Bool). cond b m (mark_of keys marks q)) (ties q k f g)

-- a slot's mark is the index of its key
pub mark_is : (keys : Keys) (marks : List (Option ℕ)) (ts : List Touch) (k : LedgerKey) (i : ℕ) (m : Option ℕ) → AreMarked keys marks ts → key_format.fits k → place_in k keys ≡ Some i
    → slice_get marks i ≡ Some m → m ≡ index_in k ts
mark_is keys marks ts k i m is f place there = sym (ap option_flatten (known (ranked_key k) keys marks i m place there)) ∙ is.mark k f

-- a slot without a mark behind the others
flat_more : (q : List ℕ) (es : List (LedgerKey × Option ℕ)) (k : LedgerKey) → option_flatten {T = ℕ} (at q (es ++ (k, None) ∷ [])) ≡ option_flatten {T = ℕ} (at q es)
flat_more q [] k =
    elim (has_bytes q k) as (λ b. option_flatten {T = ℕ} (cond b (Some None) None) ≡ None) [
      | true ↦ refl
      | false ↦ refl
    ]
flat_more q (e ∷ es) k =
    elim (has_bytes q e.0) as (λ b. option_flatten {T = ℕ} (cond b (Some e.1) (at q (es ++ (k, None) ∷ []))) ≡ option_flatten {T = ℕ} (cond b (Some e.1) (at q es))) [
      | true ↦ refl
      | false ↦ flat_more q es k
    ]

pub marks_more : (keys : Keys) (marks : List (Option ℕ)) (ts : List Touch) (k : LedgerKey) (w : Bool) → AreMarked keys marks ts → length marks ≡ length keys
    → AreMarked (keys ++ (k, w) ∷ []) (marks ++ None ∷ []) ts
marks_more keys marks ts k w is e = record {
  mark = λ q f.
      ap (λ (es : List (LedgerKey × Option ℕ)). option_flatten (at (ranked_key q) es)) (named_more keys marks k w None e)
      ∙ flat_more (ranked_key q) (named keys marks) k ∙ is.mark q f;
  spelled = is.spelled;
}

-- the marks and the spelling after an access to a new key
pub marked_new : (keys : Keys) (marks : List (Option ℕ)) (a : Access) (k : LedgerKey) (i : ℕ) (ts : List Touch) → AreMarked keys marks ts → key_format.fits k → place_in k keys ≡ Some i
    → i < length marks → index_in k ts ≡ None → length ts + 1 < 2 ^ 32 → AreMarked keys (slice_set marks i (Some (length ts))) (touch a k ts)
marked_new keys marks a k i ts is f place w first lt = record {
  mark = λ q g.
      mark_set keys marks q k i (Some (length ts)) g f place w
      ∙ ap (λ (o : Option ℕ). cond (is_same_key q k) (Some (length ts)) o) (is.mark q g)
      ∙ sym (index_new a k q ts first);
  spelled = record {
    few = let n : length (touch a k ts) ≡ length ts + 1 = ap length (touch_new a k ts first) ∙ length_push ts (record { key = k; access = a }) in omega (arith, n, lt);
    each = fits_touch a k ts f is.spelled.each;
  };
}

-- the same after an access to a key that was touched
pub marked_found : (keys : Keys) (marks : List (Option ℕ)) (a : Access) (k : LedgerKey) (ts : List Touch) (i : ℕ) → AreMarked keys marks ts → key_format.fits k → index_in k ts ≡ Some i
    → AreMarked keys marks (touch a k ts)
marked_found keys marks a k ts i is f e = record {
  mark = λ q g. is.mark q g ∙ sym (index_found a k q ts i e);
  spelled = record {
    few = let n : length (touch a k ts) ≡ length ts = length_found a k ts i e in omega (arith, n, is.spelled.few);
    each = fits_touch a k ts f is.spelled.each;
  };
}

-- ---- the code's write at an index

-- a write at index n, where both x and y are the touch there, leads to this list
abbrev Writes : Touch → List Touch → Touch → Touch → Access → List Touch → ℕ → Type 0
Writes t ts x y s to n = x ≡ slice_index_or (t ∷ ts) n x → y ≡ slice_index_or (t ∷ ts) n y → slice_set (t ∷ ts) n (record { key = x.key; access = s }) ≡ to

-- The code writes the stronger access at the key's index.
pub touch_at : (a : Access) (k : LedgerKey) (ts : List Touch) (i : ℕ) (x y : Touch) (s : Access) → index_in k ts ≡ Some i → x ≡ slice_index_or ts i x → y ≡ slice_index_or ts i y
    → s ≡ stronger y.access a → slice_set ts i (record { key = x.key; access = s }) ≡ touch a k ts
touch_at a k [] i x y s e p q r = cc
touch_at a k (t ∷ ts) i x y s e p q r =
    elim (is_same_key k t.key) as (λ b. cond b (Some 0) (option_map suc (index_in k ts)) ≡ Some i
    → slice_set (t ∷ ts) i (record { key = x.key; access = s }) ≡ cond b (record t { access = stronger t.access a } ∷ ts) (t ∷ touch a k ts)) [
      | true ↦ λ h. let z : 0 ≡ i = cc in subst (Writes t ts x y s (record t { access = stronger t.access a } ∷ ts)) z first p q
      | false ↦ λ h.
          elim (index_in k ts) as (λ o. index_in k ts ≡ o → option_map suc o ≡ Some i → slice_set (t ∷ ts) i (record { key = x.key; access = s }) ≡ t ∷ touch a k ts) [
            | None ↦ λ f n. cc
            | Some j ↦ λ f n.
                let z : suc j ≡ i = cc in
                subst (Writes t ts x y s (t ∷ touch a k ts)) z (λ u v. ap (λ (l : List Touch). t ∷ l) (touch_at a k ts j x y s f u v r)) p q
          ] refl h
    ] e
  where
    first : Writes t ts x y s (record t { access = stronger t.access a } ∷ ts) 0
    first u v = ap₂ (λ (key : LedgerKey) (access : Access). record { key = key; access = access } ∷ ts) (ap (λ (z : Touch). z.key) u) (r ∙ ap (λ (z : Touch). stronger z.access a) v)

-- the code's list and the marks after an access to a key that was touched
pub found_again : (keys : Keys) (marks : List (Option ℕ)) (a : Access) (k : LedgerKey) (ts : List Touch) (i : ℕ) (x y : Touch) (s : Access) → AreMarked keys marks ts → key_format.fits k
    → index_in k ts ≡ Some i → x ≡ slice_index_or ts i x → y ≡ slice_index_or ts i y → s ≡ stronger y.access a → AreMarked keys marks (slice_set ts i (record { key = x.key; access = s }))
found_again keys marks a k ts i x y s is f e p q r = subst (AreMarked keys marks) (sym (touch_at a k ts i x y s e p q r)) (marked_found keys marks a k ts i is f e)

-- ---- notes that are taken back

-- a key that was not touched has no access
pub no_access : (k : LedgerKey) (ts : List Touch) → index_in k ts ≡ None → access_in k ts ≡ None
no_access k [] e = refl
no_access k (t ∷ ts) e =
    let f = split (is_same_key k t.key) (index_in k ts) e in
    ap (λ (b : Bool). cond b (Some t.access) (access_in k ts)) f.0 ∙ no_access k ts f.1

-- a key without an access was not touched
pub no_index : (k : LedgerKey) (ts : List Touch) → access_in k ts ≡ None → index_in k ts ≡ None
no_index k [] e = refl
no_index k (t ∷ ts) e =
    elim (is_same_key k t.key) as (λ b. cond b (Some t.access) (access_in k ts) ≡ None → cond b (Some 0) (option_map suc (index_in k ts)) ≡ None) [
      | true ↦ λ h. cc
      | false ↦ λ h. ap (option_map suc) (no_index k ts h)
    ] e

pub access_at : (k : LedgerKey) (ts : List Touch) (i : ℕ) (x : Touch) → index_in k ts ≡ Some i → x ≡ slice_index_or ts i x → access_in k ts ≡ Some x.access
access_at k [] i x e p = cc
access_at k (t ∷ ts) i x e p =
    elim (is_same_key k t.key) as (λ b. cond b (Some 0) (option_map suc (index_in k ts)) ≡ Some i → cond b (Some t.access) (access_in k ts) ≡ Some x.access) [
      | true ↦ λ h.
          let z : 0 ≡ i = cc in
          let same : x ≡ t = subst (λ (n : ℕ). x ≡ slice_index_or (t ∷ ts) n x) (sym z) p in
          ap (λ (y : Touch). Some y.access) (sym same)
      | false ↦ λ h.
          elim (index_in k ts) as (λ o. index_in k ts ≡ o → option_map suc o ≡ Some i → access_in k ts ≡ Some x.access) [
            | None ↦ λ f n. cc
            | Some j ↦ λ f n.
                let z : suc j ≡ i = cc in
                access_at k ts j x f (subst (λ (n : ℕ). x ≡ slice_index_or (t ∷ ts) n x) (sym z) p)
          ] refl h
    ] e

-- the touches after an access to a key that was touched, with the access that it had
unstronger : (a b : Access) (k : LedgerKey) (ts : List Touch) → access_in k ts ≡ Some b → touch_as b k (touch a k ts) ≡ ts
unstronger a b k [] e = cc
unstronger a b k (t ∷ ts) e =
    elim (is_same_key k t.key) as (λ c. is_same_key k t.key ≡ c → cond c (Some t.access) (access_in k ts) ≡ Some b
    → touch_as b k (cond c (record t { access = stronger t.access a } ∷ ts) (t ∷ touch a k ts)) ≡ t ∷ ts) [
      | true ↦ λ f h.
          let was : t.access ≡ b = some_access t.access b h in
          ap (λ (c : Bool). cond c (record t { access = b } ∷ ts) (record t { access = stronger t.access a } ∷ touch_as b k ts)) f
          ∙ ap (λ (x : Access). record t { access = x } ∷ ts) (sym was)
      | false ↦ λ f h.
          ap (λ (c : Bool). cond c (record t { access = b } ∷ touch a k ts) (t ∷ touch_as b k (touch a k ts))) f
          ∙ ap (λ (x : List Touch). t ∷ x) (unstronger a b k ts h)
    ] refl e
  where
    some_access : (x y : Access) → Some x ≡ Some y → x ≡ y
    some_access x y e = cc

-- keys with the same bytes have the same index
same_index : (q k : LedgerKey) (ts : List Touch) → is_same_key q k ≡ true → index_in q ts ≡ index_in k ts
same_index q k ts e =
    let bytes : key_bytes q ≡ key_bytes k = (bytes_eq-Decides (key_bytes q) (key_bytes k)).0 e in
    by_bytes ts bytes
  where
    by_bytes : (us : List Touch) → key_bytes q ≡ key_bytes k → index_in q us ≡ index_in k us
    by_bytes [] b = refl
    by_bytes (t ∷ us) b = ap₂ (λ (c : Bool) (o : Option ℕ). cond c (Some 0) (option_map suc o)) (ap (λ (x : List ℕ). bytes_eq x (key_bytes t.key)) b) (by_bytes us b)

-- the marks and the spelling without a key that was touched for the first time
pub untouched : (keys : Keys) (marks : List (Option ℕ)) (a : Access) (k : LedgerKey) (i : ℕ) (before ts : List Touch) → AreMarked keys marks ts → ts ≡ touch a k before → key_format.fits k
    → place_in k keys ≡ Some i → i < length marks → index_in k before ≡ None → AreMarked keys (slice_set marks i None) before
untouched keys marks a k i before ts is e fits place w first = record {
  mark = λ q f.
      mark_set keys marks q k i None f fits place w
      ∙ ap (λ (o : Option ℕ). cond (is_same_key q k) None o) (is.mark q f ∙ ap (index_in q) e ∙ index_new a k q before first)
      ∙ without q;
  spelled = record {
    few = let n : length ts ≡ length before + 1 = ap length (e ∙ touch_new a k before first) ∙ length_push before (record { key = k; access = a }) in omega (arith, n, is.spelled.few);
    each = (all_less (λ t. key_format.fits t.key) before (record { key = k; access = a }) (subst (AllByRecursion (λ t. key_format.fits t.key)) (e ∙ touch_new a k before first) is.spelled.each)).0;
  };
}
  where
    without : (q : LedgerKey) → cond (is_same_key q k) None (cond (is_same_key q k) (Some (length before)) (index_in q before)) ≡ index_in q before
    without q =
        elim (is_same_key q k) as (λ b. is_same_key q k ≡ b → cond b None (cond b (Some (length before)) (index_in q before)) ≡ index_in q before) [
          | true ↦ λ h. sym (same_index q k before h ∙ first)
          | false ↦ λ h. refl
        ] refl

-- ---- the code's list without the last touch, and with the access that a touch had

drop_last : (xs ys : List Touch) (x : Touch) → xs ≡ ys ++ x ∷ [] → take (length xs - 1) xs ≡ ys
drop_last xs ys x e =
    let n : length xs - 1 ≡ length ys = omega (arith, ap length e, length_push ys x) in
    rw (n, e) (front ys x)
  where
    front : (zs : List Touch) (z : Touch) → take (length zs) (zs ++ z ∷ []) ≡ zs
    front [] z = refl
    front (y ∷ zs) z = ap (λ (l : List Touch). y ∷ l) (front zs z)

-- without the touch of a key that was touched for the first time
pub last_touch : (a : Access) (k : LedgerKey) (before ts rest : List Touch) → index_in k before ≡ None → ts ≡ touch a k before → rest ≡ take (length ts - 1) ts → rest ≡ before
last_touch a k before ts rest first e is = is ∙ drop_last ts before (record { key = k; access = a }) (e ∙ touch_new a k before first)

-- a key with an access has an index
has_index : (b : Access) (k : LedgerKey) (ts : List Touch) → access_in k ts ≡ Some b → (i : ℕ) × (index_in k ts ≡ Some i)
has_index b k [] e = cc
has_index b k (t ∷ ts) e =
    elim (is_same_key k t.key) as (λ c. cond c (Some t.access) (access_in k ts) ≡ Some b → (i : ℕ) × (cond c (Some 0) (option_map suc (index_in k ts)) ≡ Some i)) [
      | true ↦ λ h. (0, refl)
      | false ↦ λ h. let r = has_index b k ts h in (suc r.0, ap (option_map suc) r.1)
    ] e

-- the code writes an access at the key's index
abbrev Rewrites : Touch → List Touch → Touch → Access → List Touch → ℕ → Type 0
Rewrites t ts x b to n = x ≡ slice_index_or (t ∷ ts) n x → slice_set (t ∷ ts) n (record { key = x.key; access = b }) ≡ to

pub set_as : (b : Access) (k : LedgerKey) (ts : List Touch) (i : ℕ) (x : Touch) → index_in k ts ≡ Some i → x ≡ slice_index_or ts i x
    → slice_set ts i (record { key = x.key; access = b }) ≡ touch_as b k ts
set_as b k [] i x e p = cc
set_as b k (t ∷ ts) i x e p =
    elim (is_same_key k t.key) as (λ c. cond c (Some 0) (option_map suc (index_in k ts)) ≡ Some i
    → slice_set (t ∷ ts) i (record { key = x.key; access = b }) ≡ cond c (record t { access = b } ∷ ts) (t ∷ touch_as b k ts)) [
      | true ↦ λ h. let z : 0 ≡ i = cc in subst (Rewrites t ts x b (record t { access = b } ∷ ts)) z first p
      | false ↦ λ h.
          elim (index_in k ts) as (λ o. index_in k ts ≡ o → option_map suc o ≡ Some i → slice_set (t ∷ ts) i (record { key = x.key; access = b }) ≡ t ∷ touch_as b k ts) [
            | None ↦ λ f n. cc
            | Some j ↦ λ f n.
                let z : suc j ≡ i = cc in
                subst (Rewrites t ts x b (t ∷ touch_as b k ts)) z (λ u. ap (λ (l : List Touch). t ∷ l) (set_as b k ts j x f u)) p
          ] refl h
    ] e
  where
    first : Rewrites t ts x b (record t { access = b } ∷ ts) 0
    first u = ap (λ (z : Touch). record { key = z.key; access = b } ∷ ts) u

-- all keys were within their XDR formats before an access to a key that was touched
fits_before : (a : Access) (k : LedgerKey) (ts : List Touch) → AllByRecursion (λ t. key_format.fits t.key) (touch a k ts) → AllByRecursion (λ t. key_format.fits t.key) ts
fits_before a k [] h = tt
fits_before a k (t ∷ ts) h =
    elim (is_same_key k t.key) as (λ b. AllByRecursion (λ (x : Touch). key_format.fits x.key) (cond b (record t { access = stronger t.access a } ∷ ts) (t ∷ touch a k ts))
    → AllByRecursion (λ (x : Touch). key_format.fits x.key) (t ∷ ts)) [
      | true ↦ λ p. p
      | false ↦ λ p. (p.0, fits_before a k ts p.1)
    ] h

module _ (a b : Access) (k : LedgerKey) (before ts : List Touch) (e : ts ≡ touch a k before) (had : access_in k before ≡ Some b) where
  -- the touches with the access that the key had are those before
  pub again_as : (i : ℕ) (x : Touch) → index_in k ts ≡ Some i → x ≡ slice_index_or ts i x → slice_set ts i (record { key = x.key; access = b }) ≡ before
  again_as i x at p = set_as b k ts i x at p ∙ ap (touch_as b k) e ∙ unstronger a b k before had

  pub marked_as : (keys : Keys) (marks : List (Option ℕ)) → AreMarked keys marks ts → AreMarked keys marks before
  marked_as keys marks is =
      let j = has_index b k before had in
      record {
        mark = λ q f. is.mark q f ∙ ap (index_in q) e ∙ index_found a k q before j.0 j.1;
        spelled = record {
          few = let n : length ts ≡ length before = ap length e ∙ length_found a k before j.0 j.1 in omega (arith, n, is.spelled.few);
          each = fits_before a k before (subst (AllByRecursion (λ t. key_format.fits t.key)) e is.spelled.each);
        };
      }

  pub has_been : index_in k ts ≡ None → ⊥
  has_been none = let j = has_index b k before had in some_none (sym (ap (index_in k) e ∙ index_found a k k before j.0 j.1 ∙ j.1) ∙ none)
    where
      some_none : {i : ℕ} → Some i ≡ None → ⊥
      some_none h = cc
