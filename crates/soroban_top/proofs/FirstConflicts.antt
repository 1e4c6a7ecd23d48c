-- The first conflict that is found stage by stage is the least one.
use Rattle.std.specs.Prelude.{slice_get}
use Rattle.std.specs.List.{AllByRecursion, flat_map}
use Rattle.std.specs.Option.{option_map, option_or}
use Rattle.std.specs.Ordering.{nat_cmp, is_gt, ordering_reverse}
use Rattle.std.specs.Cmp.{tied_itself, upto}
use Rattle.std.specs.Cmp.Lexicographic.{slice_cmp, nat_list_cmp_total}
use Rattle.std.specs.FinMap.{slice_cmp-IsAntisymmetric, nat_cmp-IsAntisymmetric}
use Rattle.std.specs.Str.{bytes_eq}
use Rattle.std.specs.declared.cmp.Ordering.{Ordering}
use Rattle.std.specs.declared.cmp.Ordering.TheVariants.{Less, Equal, Greater}
use Rattle.std.proofs.Common.{◌≡◌, ℕ, zero, suc, ◌<◌, ◌≤◌, Bool, true, false, ◌&&◌, cond, List, [], ◌∷◌, ◌++◌, map, Option, Some, None, refl, sym, ap, subst, ◌∙◌, arith}
use Rattle.std.proofs.lemmas.Slice.Eq.{bytes_eq-Decides}
use Rattle.stage_runs.specs.Maps.{Bytes, LedgerKey, key_bytes, has_bytes}
use Rattle.stage_runs.specs.Transactions.{declared_by, writes, declares}
use Rattle.stage_runs.specs.Runs.{Cluster, Stage, writes_in, declares_in, HasNoConflict}
use Rattle.stage_runs.specs.Conflicts.{meet_at, IsConflict, IsNotAfter, IsLeastConflict, IsFirstConflict}
use Rattle.stage_runs.proofs.Lemmas.{both_first, both_second, free_from, left_true, none_from, one_true, right_true}
use Rattle.soroban_top.specs.FirstConflict.{FoundConflict, first_conflict, first_in, first_with, in_stage, keys_of, bytes_declared, least_meeting, least_of, lesser, stage_later}
use Rattle.soroban_top.specs.ConflictLaws.{FirstConflictLaw, NoConflictLaw}

-- ---- the order of keys

abbrev NotAbove : Bytes → Bytes → Type 0
NotAbove x y = slice_cmp nat_cmp x y ≡ Greater → ⊥

gt_false : (o : Ordering) → (o ≡ Greater → ⊥) → is_gt o ≡ false
gt_false Less h = refl
gt_false Equal h = refl
gt_false Greater h = absurd (h refl)

false_gt : (o : Ordering) → is_gt o ≡ false → o ≡ Greater → ⊥
false_gt Less h e = cc
false_gt Equal h e = cc
false_gt Greater h e = cc

at_most_itself : (x : Bytes) → NotAbove x x
at_most_itself x e = let tied = tied_itself nat_list_cmp_total x in cc

at_most : (x y z : Bytes) → NotAbove x y → NotAbove y z → NotAbove x z
at_most x y z f g = false_gt (slice_cmp nat_cmp x z) (upto nat_list_cmp_total x y z (gt_false (slice_cmp nat_cmp x y) f) (gt_false (slice_cmp nat_cmp y z) g))

other_way : (o p : Ordering) → is_gt o ≡ true → o ≡ ordering_reverse p → p ≡ Greater → ⊥
other_way o Less g e h = cc
other_way o Equal g e h = cc
other_way Less Greater g e h = cc
other_way Equal Greater g e h = cc
other_way Greater Greater g e h = cc

above : (x y : Bytes) → is_gt (slice_cmp nat_cmp x y) ≡ true → NotAbove y x
above x y g = other_way (slice_cmp nat_cmp x y) (slice_cmp nat_cmp y x) g (nat_list_cmp_total.antisymm x y)

both_not : (o p : Ordering) → o ≡ ordering_reverse p → (o ≡ Greater → ⊥) → (p ≡ Greater → ⊥) → o ≡ Equal
both_not Less Less e f g = cc
both_not Less Equal e f g = cc
both_not Less Greater e f g = absurd (g refl)
both_not Equal p e f g = refl
both_not Greater p e f g = absurd (f refl)

one_key : (x y : Bytes) → NotAbove x y → NotAbove y x → x ≡ y
one_key x y f g = slice_cmp-IsAntisymmetric nat_cmp-IsAntisymmetric x y (both_not (slice_cmp nat_cmp x y) (slice_cmp nat_cmp y x) (nat_list_cmp_total.antisymm x y) f g)

-- ---- the least key for which a test holds

module _ (test : Bytes → Bool) where
  abbrev IsLeastOf : List Bytes → Option Bytes → Type 0
  IsLeastOf keys None = AllByRecursion (λ x. test x ≡ true → ⊥) keys
  IsLeastOf keys (Some key) = (test key ≡ true) × AllByRecursion (λ x. test x ≡ true → NotAbove key x) keys

  each_none : (y : Bytes) (keys : List Bytes) → AllByRecursion (λ x. test x ≡ true → ⊥) keys → AllByRecursion (λ x. test x ≡ true → NotAbove y x) keys
  each_none y [] h = tt
  each_none y (x ∷ keys) h = (λ e. absurd (h.0 e), each_none y keys h.1)

  each_above : (y z : Bytes) (keys : List Bytes) → NotAbove y z → AllByRecursion (λ x. test x ≡ true → NotAbove z x) keys → AllByRecursion (λ x. test x ≡ true → NotAbove y x) keys
  each_above y z [] le h = tt
  each_above y z (x ∷ keys) le h = (λ e. at_most y z x le (h.0 e), each_above y z keys le h.1)

  least_step : (x : Bytes) (keys : List Bytes) (o : Option Bytes) → test x ≡ true → IsLeastOf keys o → IsLeastOf (x ∷ keys) (Some (lesser x o))
  least_step x keys None t h = (t, (λ e. at_most_itself x, each_none x keys h))
  least_step x keys (Some y) t h =
      elim (is_gt (slice_cmp nat_cmp x y)) as (λ gt. is_gt (slice_cmp nat_cmp x y) ≡ gt → IsLeastOf (x ∷ keys) (Some (cond gt y x))) [
        | true ↦ λ is. (h.0, (λ e. above x y is, h.1))
        | false ↦ λ is. (t, (λ e. at_most_itself x, each_above x y keys (false_gt (slice_cmp nat_cmp x y) is) h.1))
      ] refl

  least_same : (x : Bytes) (keys : List Bytes) (o : Option Bytes) → test x ≡ false → IsLeastOf keys o → IsLeastOf (x ∷ keys) o
  least_same x keys None t h = (λ e. absurd cc, h)
  least_same x keys (Some y) t h = (h.0, (λ e. absurd cc, h.1))

  least_found : (keys : List Bytes) → IsLeastOf keys (least_of test keys)
  least_found [] = tt
  least_found (x ∷ keys) =
      elim (test x) as (λ b. test x ≡ b → IsLeastOf (x ∷ keys) (cond b (Some (lesser x (least_of test keys))) (least_of test keys))) [
        | true ↦ λ t. least_step x keys (least_of test keys) t (least_found keys)
        | false ↦ λ t. least_same x keys (least_of test keys) t (least_found keys)
      ] refl

-- ---- each key on which two clusters conflict is declared by the first one

has_left : (xs ys : List LedgerKey) (q : Bytes) → has_bytes xs q ≡ true → has_bytes (xs ++ ys) q ≡ true
has_left [] ys q e = absurd cc
has_left (x ∷ xs) ys q e =
    one_true (bytes_eq q (key_bytes x)) (has_bytes xs q) e
    (λ here. left_true (bytes_eq q (key_bytes x)) (has_bytes (xs ++ ys) q) here)
    (λ later. right_true (bytes_eq q (key_bytes x)) (has_bytes (xs ++ ys) q) (has_left xs ys q later))

has_right : (xs ys : List LedgerKey) (q : Bytes) → has_bytes ys q ≡ true → has_bytes (xs ++ ys) q ≡ true
has_right [] ys q e = e
has_right (x ∷ xs) ys q e = right_true (bytes_eq q (key_bytes x)) (has_bytes (xs ++ ys) q) (has_right xs ys q e)

declared_there : (c : Cluster) (q : Bytes) → declares_in c q ≡ true → has_bytes (flat_map keys_of c) q ≡ true
declared_there [] q e = absurd cc
declared_there (tx ∷ c) q e =
    one_true (declares tx q) (declares_in c q) e
    (λ here.
    has_left (keys_of tx) (flat_map keys_of c) q
    (one_true (has_bytes (declared_by tx).read_only q) (has_bytes (declared_by tx).read_write q) here
    (λ ro. has_left (declared_by tx).read_only (declared_by tx).read_write q ro)
    (λ rw. has_right (declared_by tx).read_only (declared_by tx).read_write q rw)))
    (λ later. has_right (keys_of tx) (flat_map keys_of c) q (declared_there c q later))

write_declares : (c : Cluster) (q : Bytes) → writes_in c q ≡ true → declares_in c q ≡ true
write_declares [] q e = absurd cc
write_declares (tx ∷ c) q e =
    one_true (writes tx q) (writes_in c q) e
    (λ here. left_true (declares tx q) (declares_in c q) (right_true (has_bytes (declared_by tx).read_only q) (writes tx q) here))
    (λ later. right_true (declares tx q) (declares_in c q) (write_declares c q later))

meeting_declared : (c d : Cluster) (q : Bytes) → meet_at c d q ≡ true → declares_in c q ≡ true
meeting_declared c d q e =
    one_true (writes_in c q && declares_in d q) (writes_in d q && declares_in c q) e
    (λ h. write_declares c q (both_first (writes_in c q) (declares_in d q) h))
    (λ h. both_second (writes_in d q) (declares_in c q) h)

of_listed : (P : Bytes → Type 0) (q : Bytes) (keys : List LedgerKey) → has_bytes keys q ≡ true → AllByRecursion P (map key_bytes keys) → P q
of_listed P q [] e h = absurd cc
of_listed P q (k ∷ keys) e h =
    one_true (bytes_eq q (key_bytes k)) (has_bytes keys q) e
    (λ same. subst P (sym ((bytes_eq-Decides q (key_bytes k)).0 same)) h.0)
    (λ later. of_listed P q keys later h.1)

abbrev IsLeastMeeting : Cluster → Cluster → Option Bytes → Type 0
IsLeastMeeting c d None = (q : Bytes) → meet_at c d q ≡ true → ⊥
IsLeastMeeting c d (Some key) = (meet_at c d key ≡ true) × ((q : Bytes) → meet_at c d q ≡ true → NotAbove key q)

least_is : (c d : Cluster) (o : Option Bytes) → IsLeastOf (meet_at c d) (bytes_declared c) o → IsLeastMeeting c d o
least_is c d None h = λ q e. of_listed (λ x. meet_at c d x ≡ true → ⊥) q (flat_map keys_of c) (declared_there c q (meeting_declared c d q e)) h e
least_is c d (Some key) h = (
  h.0,
  λ q e. of_listed (λ x. meet_at c d x ≡ true → NotAbove key x) q (flat_map keys_of c) (declared_there c q (meeting_declared c d q e)) h.1 e,
)

meeting_found : (c d : Cluster) → IsLeastMeeting c d (least_meeting c d)
meeting_found c d = least_is c d (least_meeting c d) (least_found (meet_at c d) (bytes_declared c))

-- ---- one cluster with those after it

record IsFirstAfter (c : Cluster) (clusters : List Cluster) (k : ℕ) (key : Bytes) : Type 0 where
  second : Cluster
  at : slice_get clusters k ≡ Some second
  meet : meet_at c second key ≡ true
  least : (l : ℕ) (e : Cluster) (q : Bytes) → slice_get clusters l ≡ Some e → meet_at c e q ≡ true → (k ≤ l) × (k ≡ l → NotAbove key q)

abbrev IsFirstWith : Cluster → List Cluster → Option (ℕ × Bytes) → Type 0
IsFirstWith c clusters None = (l : ℕ) (e : Cluster) (q : Bytes) → slice_get clusters l ≡ Some e → meet_at c e q ≡ true → ⊥
IsFirstWith c clusters (Some f) = IsFirstAfter c clusters f.0 f.1

meet_same : (c d e : Cluster) (q : Bytes) → Some d ≡ Some e → meet_at c e q ≡ true → meet_at c d q ≡ true
meet_same c d e q is t = let same : d ≡ e = cc in ap (λ x. meet_at c x q) same ∙ t

with_step : (c d : Cluster) (clusters : List Cluster) (o : Option Bytes) (r : Option (ℕ × Bytes)) → IsLeastMeeting c d o → IsFirstWith c clusters r
    → IsFirstWith c (d ∷ clusters) (option_or (option_map (λ key. (zero, key)) o) (option_map (λ f. (suc f.0, f.1)) r))
with_step c d clusters (Some key) r m h = record { second = d; at = refl; meet = m.0; least = least }
  where
    least : (l : ℕ) (e : Cluster) (q : Bytes) → slice_get (d ∷ clusters) l ≡ Some e → meet_at c e q ≡ true → (zero ≤ l) × (zero ≡ l → NotAbove key q)
    least zero e q is t = (omega arith, λ z. m.1 q (meet_same c d e q is t))
    least (suc l) e q is t = (omega arith, λ z. absurd (omega arith))
with_step c d clusters None None m h = none
  where
    none : (l : ℕ) (e : Cluster) (q : Bytes) → slice_get (d ∷ clusters) l ≡ Some e → meet_at c e q ≡ true → ⊥
    none zero e q is t = m q (meet_same c d e q is t)
    none (suc l) e q is t = h l e q is t
with_step c d clusters None (Some f) m h = record { second = h.second; at = h.at; meet = h.meet; least = least }
  where
    least : (l : ℕ) (e : Cluster) (q : Bytes) → slice_get (d ∷ clusters) l ≡ Some e → meet_at c e q ≡ true → (suc f.0 ≤ l) × (suc f.0 ≡ l → NotAbove f.1 q)
    least zero e q is t = absurd (m q (meet_same c d e q is t))
    least (suc l) e q is t = let g = h.least l e q is t in let low = g.0 in (omega arith, λ z. g.1 (omega arith))

with_found : (c : Cluster) (clusters : List Cluster) → IsFirstWith c clusters (first_with c clusters)
with_found c [] = λ l e q is t. absurd cc
with_found c (d ∷ clusters) = with_step c d clusters (least_meeting c d) (first_with c clusters) (meeting_found c d) (with_found c clusters)

-- ---- a stage

abbrev IsFirstIn : Stage → Option (ℕ × ℕ × Bytes) → Type 0
IsFirstIn clusters None = HasNoConflict clusters
IsFirstIn clusters (Some f) = IsLeastConflict clusters f.0 f.1 f.2

shifted : (c : Cluster) (clusters : Stage) (a b : ℕ) (q : Bytes) → IsConflict (c ∷ clusters) (suc a) (suc b) q → IsConflict clusters a b q
shifted c clusters a b q h = let lt = h.before in record { before = omega arith; first = h.first; second = h.second; at_a = h.at_a; at_b = h.at_b; meet = h.meet }

not_itself : (c : Cluster) (clusters : Stage) (a : ℕ) (q : Bytes) → IsConflict (c ∷ clusters) a zero q → ⊥
not_itself c clusters a q h = let lt = h.before in absurd (omega arith)

meet_first : (c : Cluster) (clusters : Stage) (b : ℕ) (q : Bytes) (h : IsConflict (c ∷ clusters) zero (suc b) q) → meet_at c h.second q ≡ true
meet_first c clusters b q h = let same : c ≡ h.first = (let is = h.at_a in cc) in ap (λ x. meet_at x h.second q) same ∙ h.meet

in_step : (c : Cluster) (clusters : Stage) (o : Option (ℕ × Bytes)) (r : Option (ℕ × ℕ × Bytes)) → IsFirstWith c clusters o → IsFirstIn clusters r
    → IsFirstIn (c ∷ clusters) (option_or (option_map (λ f. (zero, suc f.0, f.1)) o) (option_map (λ f. (suc f.0, suc f.1, f.2)) r))
in_step c clusters (Some f) r h k = record {
  conflict = record { before = omega arith; first = c; second = h.second; at_a = refl; at_b = h.at; meet = h.meet };
  least = least;
}
  where
    least : (x y : ℕ) (q : Bytes) → IsConflict (c ∷ clusters) x y q → IsNotAfter zero (suc f.0) f.1 x y q
    least x zero q p = absurd (not_itself c clusters x q p)
    least zero (suc y) q p = let g = h.least y p.second q p.at_b (meet_first c clusters y q p) in let low = g.0 in (omega arith, (λ z. omega arith, λ z e. g.1 (omega arith)))
    least (suc x) (suc y) q p = (omega arith, (λ z. absurd (omega arith), λ z e. absurd (omega arith)))
in_step c clusters None None h k = free_from (c ∷ clusters) none
  where
    none : (x y : ℕ) (q : Bytes) → IsConflict (c ∷ clusters) x y q → ⊥
    none x zero q p = not_itself c clusters x q p
    none zero (suc y) q p = h y p.second q p.at_b (meet_first c clusters y q p)
    none (suc x) (suc y) q p = let s = shifted c clusters x y q p in none_from clusters k x y q s.first s.second s.before s.at_a s.at_b s.meet
in_step c clusters None (Some f) h k = record {
  conflict = let lt = k.conflict.before in record { before = omega arith; first = k.conflict.first; second = k.conflict.second; at_a = k.conflict.at_a; at_b = k.conflict.at_b; meet = k.conflict.meet };
  least = least;
}
  where
    least : (x y : ℕ) (q : Bytes) → IsConflict (c ∷ clusters) x y q → IsNotAfter (suc f.0) (suc f.1) f.2 x y q
    least x zero q p = absurd (not_itself c clusters x q p)
    least zero (suc y) q p = absurd (h y p.second q p.at_b (meet_first c clusters y q p))
    least (suc x) (suc y) q p =
        let g = k.least x y q (shifted c clusters x y q p) in
        let low = g.0 in
        (omega arith, (λ z. let next = g.1.0 (omega arith) in omega arith, λ z e. g.1.1 (omega arith) (omega arith)))

in_found : (clusters : Stage) → IsFirstIn clusters (first_in clusters)
in_found [] = tt
in_found (c ∷ clusters) = in_step c clusters (first_with c clusters) (first_in clusters) (with_found c clusters) (in_found clusters)

-- ---- a set

abbrev IsFirstOf : List Stage → Option FoundConflict → Type 0
IsFirstOf stages None = AllByRecursion HasNoConflict stages
IsFirstOf stages (Some f) = IsFirstConflict stages f.stage f.a f.b f.key

of_step : (clusters : Stage) (stages : List Stage) (o : Option (ℕ × ℕ × Bytes)) (r : Option FoundConflict) → IsFirstIn clusters o → IsFirstOf stages r
    → IsFirstOf (clusters ∷ stages) (option_or (option_map (in_stage zero) o) (option_map stage_later r))
of_step clusters stages (Some f) r h k = record { clusters = clusters; at = refl; earlier = λ i before lt is. absurd (omega arith); least = h }
of_step clusters stages None None h k = (h, k)
of_step clusters stages None (Some f) h k = record { clusters = k.clusters; at = k.at; earlier = earlier; least = k.least }
  where
    earlier : (i : ℕ) (before : Stage) → i < suc f.stage → slice_get (clusters ∷ stages) i ≡ Some before → HasNoConflict before
    earlier zero before lt is = let same : clusters ≡ before = cc in subst HasNoConflict same h
    earlier (suc i) before lt is = k.earlier i before (omega arith) is

of_found : (stages : List Stage) → IsFirstOf stages (first_conflict stages)
unfolding first_conflict
of_found [] = tt
of_found (clusters ∷ stages) = of_step clusters stages (first_in clusters) (first_conflict stages) (in_found clusters) (of_found stages)

-- ---- there is one

each_at : (stages : List Stage) → AllByRecursion HasNoConflict stages → (k : ℕ) (clusters : Stage) → slice_get stages k ≡ Some clusters → HasNoConflict clusters
each_at [] h k clusters is = absurd cc
each_at (s ∷ stages) h zero clusters is = let same : s ≡ clusters = cc in subst HasNoConflict same h.0
each_at (s ∷ stages) h (suc k) clusters is = each_at stages h.1 k clusters is

not_free : (clusters : Stage) (a b : ℕ) (key : Bytes) → IsConflict clusters a b key → HasNoConflict clusters → ⊥
not_free clusters a b key p free = none_from clusters free a b key p.first p.second p.before p.at_a p.at_b p.meet

none_found : (stages : List Stage) (s a b : ℕ) (key : Bytes) → IsFirstConflict stages s a b key → AllByRecursion HasNoConflict stages → ⊥
none_found stages s a b key h free = not_free h.clusters a b key h.least.conflict (each_at stages free s h.clusters h.at)

not_earlier : (stages : List Stage) (s a b t c d : ℕ) (key other : Bytes) → IsFirstConflict stages s a b key → IsFirstConflict stages t c d other → s < t → ⊥
not_earlier stages s a b t c d key other h k lt = not_free h.clusters a b key h.least.conflict (k.earlier s h.clusters lt h.at)

found_at : ℕ → ℕ → ℕ → Bytes → FoundConflict
found_at stage a b key = record { stage = stage; a = a; b = b; key = key }

same_found : (s t a c b d : ℕ) (key other : Bytes) → s ≡ t → a ≡ c → b ≡ d → key ≡ other → found_at s a b key ≡ found_at t c d other
same_found s t a c b d key other e f g h = cc

one_stage : (s t : ℕ) → (s < t → ⊥) → (t < s → ⊥) → s ≡ t
one_stage s t f g = omega (arith, f, g)

one_least : (clusters others : Stage) (a b c d : ℕ) (key other : Bytes) → clusters ≡ others → IsLeastConflict clusters a b key → IsLeastConflict others c d other → (a ≡ c) × (b ≡ d) × (key ≡ other)
one_least clusters others a b c d key other same h k =
    let there : IsLeastConflict clusters c d other = subst (λ x. IsLeastConflict x c d other) (sym same) k in
    let f = h.least c d other there.conflict in
    let g = there.least a b key h.conflict in
    let low = f.0 in
    let high = g.0 in
    let first : a ≡ c = omega arith in
    let up = f.1.0 first in
    let down = g.1.0 (sym first) in
    let second : b ≡ d = omega arith in
    (first, second, one_key key other (f.1.1 first second) (g.1.1 (sym first) (sym second)))

one_found : (stages : List Stage) (f g : FoundConflict) → IsFirstConflict stages f.stage f.a f.b f.key → IsFirstConflict stages g.stage g.a g.b g.key → f ≡ g
unfolding found_at
one_found stages f g h k =
    let stage = one_stage f.stage g.stage (not_earlier stages f.stage f.a f.b g.stage g.a g.b f.key g.key h k) (not_earlier stages g.stage g.a g.b f.stage f.a f.b g.key f.key k h) in
    let both : Some h.clusters ≡ Some k.clusters = sym h.at ∙ ap (slice_get stages) stage ∙ k.at in
    let same : h.clusters ≡ k.clusters = cc in
    let least = one_least h.clusters k.clusters f.a f.b g.a g.b f.key g.key same h.least k.least in
    same_found f.stage g.stage f.a g.a f.b g.b f.key g.key stage least.0 least.1 least.2

found_there : (stages : List Stage) (o : Option FoundConflict) (found : FoundConflict) → IsFirstOf stages o → IsFirstConflict stages found.stage found.a found.b found.key → o ≡ Some found
found_there stages None found h k = absurd (none_found stages found.stage found.a found.b found.key k h)
found_there stages (Some f) found h k = ap Some (one_found stages f found h k)

none_there : (stages : List Stage) (o : Option FoundConflict) → IsFirstOf stages o → AllByRecursion HasNoConflict stages → o ≡ None
none_there stages None h free = refl
none_there stages (Some f) h free = absurd (none_found stages f.stage f.a f.b f.key h free)

pub first_conflict_is : FirstConflictLaw
first_conflict_is stages found = (
  λ e. subst (IsFirstOf stages) e (of_found stages),
  λ h. found_there stages (first_conflict stages) found (of_found stages) h,
)

pub no_conflict_is : NoConflictLaw
no_conflict_is stages = (
  λ e. subst (IsFirstOf stages) e (of_found stages),
  λ free. none_there stages (first_conflict stages) (of_found stages) free,
)
