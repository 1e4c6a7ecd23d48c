-- The least key on which two clusters conflict is the least of those that the first one declares.
use Rattle.std.specs.Cmp.Lexicographic.{slice_cmp, nat_list_cmp_total}
use Rattle.std.specs.List.{fold, flat_map, AllByRecursion}
use Rattle.std.specs.Ordering.{nat_cmp, is_gt, ordering_reverse}
use Rattle.std.specs.Str.{bytes_eq}
use Rattle.std.specs.declared.cmp.Ordering.{Ordering}
use Rattle.std.specs.declared.cmp.Ordering.TheVariants.{Less, Equal, Greater}
use Rattle.std.proofs.Common.{◌≡◌, Bool, true, false, ◌&&◌, cond, List, [], ◌∷◌, ◌++◌, Option, Some, None, refl, sym, ap, subst, ◌∙◌}
use Rattle.std.proofs.lemmas.List.Elements.{recursion_from_All}
use Rattle.std.proofs.lemmas.Slice.Eq.{bytes_eq-Decides}
use Rattle.ledger_types.specs.Key.{key_format}
use Rattle.ledger_types.specs.KeyOrder.{key_cmp}
use Rattle.stage_runs.specs.Maps.{Bytes, LedgerKey, key_bytes, has_bytes}
use Rattle.stage_runs.specs.Transactions.{Envelope, declared_by, declares}
use Rattle.stage_runs.specs.Runs.{Cluster, writes_in, declares_in}
use Rattle.stage_runs.specs.Conflicts.{meet_at}
use Rattle.stage_runs.proofs.Lemmas.{both_first, both_second, cases, one_true, write_declared}
use Rattle.stage_plan.specs.Spelled.{DeclaresSpelled}
use Rattle.stage_plan.specs.Listed.{meet_at_key, lesser_of, lesser_met}
use Rattle.stage_plan.specs.Least.{IsLeastMeeting}
use Rattle.stage_plan.proofs.Keys.{compared, same_meeting}

-- ---- the order of bytes

abbrev order : Bytes → Bytes → Ordering
order a b = slice_cmp nat_cmp a b

pub not_above_itself : (a : Bytes) → order a a ≡ Greater → ⊥
not_above_itself a e = turned (order a a) e (nat_list_cmp_total.antisymm a a)
  where
    turned : (o : Ordering) → o ≡ Greater → o ≡ ordering_reverse o → ⊥
    turned Less e f = cc
    turned Equal e f = cc
    turned Greater e f = cc

below : (a b : Bytes) → order a b ≡ Greater → order b a ≡ Less
below a b e = nat_list_cmp_total.antisymm b a ∙ ap ordering_reverse e

above : (a b : Bytes) → order a b ≡ Less → order b a ≡ Greater
above a b e = nat_list_cmp_total.antisymm b a ∙ ap ordering_reverse e

-- a key below another one is not above what that one is not above
lower : (x b q : Bytes) → order b x ≡ Greater → (order b q ≡ Greater → ⊥) → order x q ≡ Greater → ⊥
lower x b q e f g = f (above q b (nat_list_cmp_total.trans q x b (below x q g) (below b x e)))

is_above : (o : Ordering) → is_gt o ≡ true → o ≡ Greater
is_above Less e = cc
is_above Equal e = cc
is_above Greater e = refl

not_above : (o : Ordering) → is_gt o ≡ false → o ≡ Greater → ⊥
not_above Less e f = cc
not_above Equal e f = cc
not_above Greater e f = cc

-- ---- all declared keys of a cluster

abbrev pub keys_of : Envelope → List LedgerKey
keys_of tx = (declared_by tx).read_only ++ (declared_by tx).read_write

abbrev pub all_keys : Cluster → List LedgerKey
all_keys c = flat_map keys_of c

each_append : (P : LedgerKey → Type 0) (xs ys : List LedgerKey) → AllByRecursion P xs → AllByRecursion P ys → AllByRecursion P (xs ++ ys)
each_append P [] ys h k = k
each_append P (x ∷ xs) ys h k = (h.0, each_append P xs ys h.1 k)

each_first : (P : LedgerKey → Type 0) (xs ys : List LedgerKey) → AllByRecursion P (xs ++ ys) → AllByRecursion P xs
each_first P [] ys h = tt
each_first P (x ∷ xs) ys h = (h.0, each_first P xs ys h.1)

each_last : (P : LedgerKey → Type 0) (xs ys : List LedgerKey) → AllByRecursion P (xs ++ ys) → AllByRecursion P ys
each_last P [] ys h = h
each_last P (x ∷ xs) ys h = each_last P xs ys h.1

each_both : (P Q : LedgerKey → Type 0) (xs : List LedgerKey) → AllByRecursion P xs → AllByRecursion Q xs → AllByRecursion (λ x. P x × Q x) xs
each_both P Q [] h k = tt
each_both P Q (x ∷ xs) h k = ((h.0, k.0), each_both P Q xs h.1 k.1)

pub all_spelled : (c : Cluster) → AllByRecursion DeclaresSpelled c → AllByRecursion key_format.fits (all_keys c)
all_spelled [] h = tt
all_spelled (tx ∷ c) h =
    each_append key_format.fits (keys_of tx) (all_keys c)
    (each_append key_format.fits (declared_by tx).read_only (declared_by tx).read_write
    (recursion_from_All key_format.fits (declared_by tx).read_only h.0.read_only) (recursion_from_All key_format.fits (declared_by tx).read_write h.0.read_write))
    (all_spelled c h.1)

module _ {A : Type 0} (P : LedgerKey → Type 0) (q : Bytes) (use_key : (k : LedgerKey) → P k → key_bytes k ≡ q → A) where
  found : (keys : List LedgerKey) → has_bytes keys q ≡ true → AllByRecursion P keys → A
  found [] e h = absurd cc
  found (k ∷ keys) e h =
      one_true (bytes_eq q (key_bytes k)) (has_bytes keys q) e
      (λ same. use_key k h.0 (sym ((bytes_eq-Decides q (key_bytes k)).0 same)))
      (λ later. found keys later h.1)

  found_by : (tx : Envelope) → declares tx q ≡ true → AllByRecursion P (keys_of tx) → A
  found_by tx e h =
      one_true (has_bytes (declared_by tx).read_only q) (has_bytes (declared_by tx).read_write q) e
      (λ ro. found (declared_by tx).read_only ro (each_first P (declared_by tx).read_only (declared_by tx).read_write h))
      (λ wr. found (declared_by tx).read_write wr (each_last P (declared_by tx).read_only (declared_by tx).read_write h))

  pub found_in : (c : Cluster) → declares_in c q ≡ true → AllByRecursion P (all_keys c) → A
  found_in [] e h = absurd cc
  found_in (tx ∷ c) e h =
      one_true (declares tx q) (declares_in c q) e
      (λ here. found_by tx here (each_first P (keys_of tx) (all_keys c) h))
      (λ later. found_in c later (each_last P (keys_of tx) (all_keys c) h))

-- the first cluster declares each key on which the two conflict
pub meeting_declared : (c d : Cluster) (q : Bytes) → meet_at c d q ≡ true → declares_in c q ≡ true
meeting_declared c d q e =
    one_true (writes_in c q && declares_in d q) (writes_in d q && declares_in c q) e
    (λ h. write_declared c q (both_first (writes_in c q) (declares_in d q) h))
    (λ h. both_second (writes_in d q) (declares_in c q) h)

-- ---- the least so far

module _ (c d : Cluster) where
  abbrev IsGood : Option LedgerKey → Type 0
  IsGood None = Unit
  IsGood (Some r) = key_format.fits r × (meet_at_key c d r ≡ true)

  abbrev Bounds : Option LedgerKey → Bytes → Type 0
  Bounds None q = ⊥
  Bounds (Some r) q = order (key_bytes r) q ≡ Greater → ⊥

  good_lesser : (o : Option LedgerKey) (x : LedgerKey) → IsGood o → key_format.fits x → meet_at_key c d x ≡ true → IsGood (Some (lesser_of o x))
  good_lesser None x g f m = (f, m)
  good_lesser (Some b) x g f m = at (is_gt (key_cmp b x))
    where
      at : (gt : Bool) → IsGood (Some (cond gt x b))
      at true = (f, m)
      at false = g

  good_step : (o : Option LedgerKey) (x : LedgerKey) → IsGood o → key_format.fits x → IsGood (lesser_met c d o x)
  good_step o x g f =
      elim (meet_at_key c d x) as (λ m. meet_at_key c d x ≡ m → IsGood (cond m (Some (lesser_of o x)) o)) [
        | true ↦ λ is. good_lesser o x g f is
        | false ↦ λ is. g
      ] refl

  good_fold : (xs : List LedgerKey) (o : Option LedgerKey) → IsGood o → AllByRecursion key_format.fits xs → IsGood (fold (lesser_met c d) o xs)
  good_fold [] o g f = g
  good_fold (x ∷ xs) o g f = good_fold xs (lesser_met c d o x) (good_step o x g f.0) f.1

  -- what was bounded stays so
  bounds_lesser : (o : Option LedgerKey) (x : LedgerKey) (q : Bytes) → IsGood o → key_format.fits x → Bounds o q → Bounds (Some (lesser_of o x)) q
  bounds_lesser None x q g f h = absurd h
  bounds_lesser (Some b) x q g f h =
      elim (is_gt (key_cmp b x)) as (λ gt. is_gt (key_cmp b x) ≡ gt → Bounds (Some (cond gt x b)) q) [
        | true ↦ λ is. lower (key_bytes x) (key_bytes b) q (sym (compared b x g.0 f) ∙ is_above (key_cmp b x) is) h
        | false ↦ λ is. h
      ] refl

  bounds_step : (o : Option LedgerKey) (x : LedgerKey) (q : Bytes) → IsGood o → key_format.fits x → Bounds o q → Bounds (lesser_met c d o x) q
  bounds_step o x q g f h = at (meet_at_key c d x)
    where
      at : (m : Bool) → Bounds (cond m (Some (lesser_of o x)) o) q
      at true = bounds_lesser o x q g f h
      at false = h

  bounds_fold : (xs : List LedgerKey) (o : Option LedgerKey) (q : Bytes) → IsGood o → AllByRecursion key_format.fits xs → Bounds o q → Bounds (fold (lesser_met c d) o xs) q
  bounds_fold [] o q g f h = h
  bounds_fold (x ∷ xs) o q g f h = bounds_fold xs (lesser_met c d o x) q (good_step o x g f.0) f.1 (bounds_step o x q g f.0 h)

  -- a key on which they conflict is bounded from then on
  here_lesser : (o : Option LedgerKey) (x : LedgerKey) → IsGood o → key_format.fits x → Bounds (Some (lesser_of o x)) (key_bytes x)
  here_lesser None x g f = not_above_itself (key_bytes x)
  here_lesser (Some b) x g f =
      elim (is_gt (key_cmp b x)) as (λ gt. is_gt (key_cmp b x) ≡ gt → Bounds (Some (cond gt x b)) (key_bytes x)) [
        | true ↦ λ is. not_above_itself (key_bytes x)
        | false ↦ λ is e. not_above (key_cmp b x) is (compared b x g.0 f ∙ e)
      ] refl

  here_step : (o : Option LedgerKey) (x : LedgerKey) → IsGood o → key_format.fits x → meet_at_key c d x ≡ true → Bounds (lesser_met c d o x) (key_bytes x)
  here_step o x g f m = subst (λ (b : Bool). Bounds (cond b (Some (lesser_of o x)) o) (key_bytes x)) (sym m) (here_lesser o x g f)

  each_fold : (xs : List LedgerKey) (o : Option LedgerKey) → IsGood o → AllByRecursion key_format.fits xs
      → AllByRecursion (λ x. meet_at_key c d x ≡ true → Bounds (fold (lesser_met c d) o xs) (key_bytes x)) xs
  each_fold [] o g f = tt
  each_fold (x ∷ xs) o g f = (
    λ m. bounds_fold xs (lesser_met c d o x) (key_bytes x) (good_step o x g f.0) f.1 (here_step o x g f.0 m),
    each_fold xs (lesser_met c d o x) (good_step o x g f.0) f.1,
  )

  -- ---- the least of all

  module _ (spelled : AllByRecursion DeclaresSpelled c) (other : AllByRecursion DeclaresSpelled d) where
    least_bounds : (q : Bytes) → meet_at c d q ≡ true → Bounds (fold (lesser_met c d) None (all_keys c)) q
    least_bounds q m =
        found_in (λ k. key_format.fits k × (meet_at_key c d k ≡ true → Bounds (fold (lesser_met c d) None (all_keys c)) (key_bytes k))) q
        (λ k h same.
        subst (Bounds (fold (lesser_met c d) None (all_keys c))) same
        (h.1 (same_meeting c d k spelled other h.0 ∙ ap (meet_at c d) same ∙ m)))
        c (meeting_declared c d q m)
        (each_both key_format.fits (λ k. meet_at_key c d k ≡ true → Bounds (fold (lesser_met c d) None (all_keys c)) (key_bytes k)) (all_keys c)
        (all_spelled c spelled) (each_fold (all_keys c) None tt (all_spelled c spelled)))

    is_least : (o : Option LedgerKey) → IsGood o → ((q : Bytes) → meet_at c d q ≡ true → Bounds o q) → IsLeastMeeting c d o
    is_least None g h = λ q. cases (meet_at c d q) (λ m. absurd (h q m)) (λ m. m)
    is_least (Some r) g h = record { meet = sym (same_meeting c d r spelled other g.0) ∙ g.1; least = h }

    pub least_of_all : IsLeastMeeting c d (fold (lesser_met c d) None (all_keys c))
    least_of_all = is_least (fold (lesser_met c d) None (all_keys c)) (good_fold (all_keys c) None tt (all_spelled c spelled)) least_bounds
