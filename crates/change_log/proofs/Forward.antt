-- The change groups of two maps, played on the first, give the second.
use Rattle.std.specs.declared.cmp.Ordering.{Ordering}
use Rattle.std.specs.declared.cmp.Ordering.TheVariants.{Less, Equal, Greater}
use Rattle.std.specs.Ordering.{eq_by_cmp, is_eq, is_lt}
use Rattle.std.specs.Option.{option_and_then}
use Rattle.std.specs.List.{AllByRecursion, list_any}
use Rattle.std.specs.Cmp.{eq_by_cmp_equiv}
use Rattle.std.specs.Cmp.Lexicographic.{nat_list_cmp_total}
use Rattle.std.specs.FinMap.{get, entries, entries_sorted, is_sorted, from_entries, find as found_at, get-entries}
use Rattle.std.specs.FinMap.{get-from_entries, contains_key-keys}
use Rattle.std.specs.FinMap.Entries.{below_all}
use Rattle.std.specs.Prelude.{is_some, ◌⊎◌, ◌||◌, IfSome}
use Rattle.std.proofs.Common.{◌≡◌, ℕ, Bool, true, false, ◌&&◌, cond, T, List, [], ◌∷◌, ◌++◌, map, Option, Some, None, refl, sym}
use Rattle.std.proofs.Common.{ap, subst, ◌∙◌, inl, inr}
use Rattle.ledger_spec.specs.declared.Kept.{Kept}
use Rattle.ledger_spec.specs.LedgerMap.{LedgerMap, IsKeptAt}
use Rattle.ledger_spec.specs.LedgerFile.{is_above}
use Rattle.change_log.specs.Groups.{Group, made, gone, altered, before_of, after_of, bytes_of, keeps_entry, keeps_life, group_at}
use Rattle.change_log.specs.Groups.{groups_at, keys_of, groups, changes}
use Rattle.change_log.specs.Read.{rise_after, groups_in}
use Rattle.change_log.specs.Keys.{IsAfter, Rise, has_key}
use Rattle.change_log.specs.Play.{is_held, set_to, exchanged, replaced_all, played_list}
use Rattle.change_log.specs.Fits.{IsKept, IsProper, AreKept}
use Rattle.change_log.proofs.Regrouping.{groups_in_written}
use Rattle.change_log.proofs.Back.{order, same_kept, held_itself, get_set, same_maps, antisymmetric}

-- ---- the group at a key

-- the maps have the same at a key, so it has no group
record Same (a b : Option Kept) : Type 0 where
  none : group_at a b ≡ []
  same : a ≡ b

-- the maps differ at a key, so it has this group
record Differ (k : List ℕ) (a b : Option Kept) : Type 0 where
  group : Group
  one : group_at a b ≡ group ∷ []
  bytes : bytes_of group ≡ k
  before : before_of group ≡ a
  after : after_of group ≡ b
  proper : IsProper group

own : (k : List ℕ) (kept : Kept) → IsKeptAt k kept → IsKept kept
own k kept is = record { fits = is.fits; numbered = is.numbered; keyed = refl; hashed = is.hashed }

two_at : (k : List ℕ) (old new : Kept) (b : Bool) → (keeps_entry old new && keeps_life old new) ≡ b → IsKeptAt k old
    → IsKeptAt k new
    → Same (Some old) (Some new) ⊎ Differ k (Some old) (Some new)
two_at k old new true e is too =
    inl (record {
      none = ap (λ (t : Bool). cond t [] (altered old new ∷ [])) e;
      same = ap (λ (x : Kept). Some x) (same_kept old new e);
    })
two_at k old new false e is too =
    inr (record {
      group = altered old new;
      one = ap (λ (t : Bool). cond t [] (altered old new ∷ [])) e;
      bytes = sym is.keyed;
      before = refl;
      after = refl;
      proper = ((own k old is, own k new too, sym is.keyed ∙ too.keyed), e);
    })

at_key : (k : List ℕ) (a b : Option Kept) → IfSome a (IsKeptAt k) → IfSome b (IsKeptAt k) → Same a b ⊎ Differ k a b
at_key k None None is too = inl (record { none = refl; same = refl })
at_key k None (Some new) is too =
    inr (record { group = made new; one = refl; bytes = sym too.keyed; before = refl; after = refl; proper = own k new too })
at_key k (Some old) None is too =
    inr (record { group = gone old; one = refl; bytes = sym is.keyed; before = refl; after = refl; proper = own k old is })
at_key k (Some old) (Some new) is too = two_at k old new (keeps_entry old new && keeps_life old new) refl is too

found_kept : (m : LedgerMap) (k : List ℕ) (a : Option Kept) → AreKept m → get m k ≡ a → IfSome a (IsKeptAt k)
found_kept m k None is e = tt
found_kept m k (Some kept) is e = is k kept e

-- ---- keys that rise

is_true : (b : Bool) → T b → b ≡ true
is_true true h = refl
is_true false h = absurd h

first : (a b : Bool) → (a && b) ≡ true → a ≡ true
first true b e = refl
first false b e = e

second : (a b : Bool) → (a && b) ≡ true → b ≡ true
second true b e = e
second false b e = absurd cc

after_all : (k : List ℕ) (es : List (List ℕ × Kept)) → below_all order k es ≡ true
    → IsAfter (Some k) (map (λ (e : List ℕ × Kept). e.0) es)
after_all k [] h = tt
after_all k (e ∷ es) h =
    (first (is_lt (order k e.0)) (below_all order k es) h, after_all k es (second (is_lt (order k e.0)) (below_all order k es) h))

sorted_rise : (es : List (List ℕ × Kept)) → is_sorted order es ≡ true → Rise (map (λ (e : List ℕ × Kept). e.0) es)
sorted_rise [] h = tt
sorted_rise (e ∷ es) h = (
  after_all e.0 es (first (below_all order e.0 es) (is_sorted order es) h),
  sorted_rise es (second (below_all order e.0 es) (is_sorted order es) h),
)

pub keys_rise : (m n : LedgerMap) → Rise (keys_of m n)
keys_rise m n =
    let both : LedgerMap = from_entries (entries m ++ entries n) in
    sorted_rise (entries both) (is_true (is_sorted order (entries both)) (entries_sorted both))

none_in : (q : List ℕ) (es fs : List (List ℕ × Kept)) → found_at order q (es ++ fs) ≡ None
    → (found_at order q es ≡ None) × (found_at order q fs ≡ None)
none_in q [] fs e = (refl, e)
none_in q (x ∷ es) fs e = by (eq_by_cmp order q x.0) (none_in q es fs) e
  where
    some_none : (v : Kept) → ◌≡◌ {A = Option Kept} (Some v) None → ⊥
    some_none v e = cc

    by : (b : Bool) → (found_at order q (es ++ fs) ≡ None → (found_at order q es ≡ None) × (found_at order q fs ≡ None))
        → cond b (Some x.1) (found_at order q (es ++ fs)) ≡ None
        → (cond b (Some x.1) (found_at order q es) ≡ None) × (found_at order q fs ≡ None)
    by true ih e = absurd (some_none x.1 e)
    by false ih e = ih e

is_none : (o : Option Kept) → is_some o ≡ false → o ≡ None
is_none None e = refl
is_none (Some v) e = absurd cc

-- at other keys both maps have nothing
pub covered : (m n : LedgerMap) (q : List ℕ) → has_key (keys_of m n) q ≡ false → get m q ≡ get n q
covered m n q e =
    let both : LedgerMap = from_entries (entries m ++ entries n) in
    let none : get both q ≡ None = is_none (get both q) (contains_key-keys both q ∙ e) in
    let split = none_in q (entries m) (entries n) (sym (get-from_entries nat_list_cmp_total (entries m ++ entries n) q) ∙ none) in
    get-entries m q ∙ split.0 ∙ sym (get-entries n q ∙ split.1)

module _ (m n : LedgerMap) (is : AreKept m) (too : AreKept n) where
  at : (k : List ℕ) → Same (get m k) (get n k) ⊎ Differ k (get m k) (get n k)
  at k = at_key k (get m k) (get n k) (found_kept m k (get m k) is refl) (found_kept n k (get n k) too refl)

  -- ---- what holds of the groups

  pub proper_at : (ks : List (List ℕ)) → AllByRecursion IsProper (groups_at ks m n)
  proper_at [] = tt
  proper_at (k ∷ ks) =
      elim (at k) [
        | inl s ↦ subst (λ (gs : List Group). AllByRecursion IsProper (gs ++ groups_at ks m n)) (sym s.none) (proper_at ks)
        | inr d ↦ subst (λ (gs : List Group). AllByRecursion IsProper (gs ++ groups_at ks m n)) (sym d.one)
            (d.proper, proper_at ks)
      ]

  rises_at : (ks : List (List ℕ)) (before : Option (List ℕ)) → IsAfter before ks → Rise ks
      → rise_after before (groups_at ks m n) ≡ true
  rises_at [] before a r = refl
  rises_at (k ∷ ks) before a r =
      elim (at k) [
        | inl s ↦ ap (λ (gs : List Group). rise_after before (gs ++ groups_at ks m n)) s.none ∙ rises_at ks before a.1 r.1
        | inr d ↦ ap (λ (gs : List Group). rise_after before (gs ++ groups_at ks m n)) d.one
            ∙ ap (λ (b : List ℕ). is_above before b && rise_after (Some b) (groups_at ks m n)) d.bytes
            ∙ ap (λ (t : Bool). t && rise_after (Some k) (groups_at ks m n)) a.0
            ∙ rises_at ks (Some k) r.0 r.1
      ]

  -- ---- the map that they lead to

  -- a map with what n has at these keys
  laid : LedgerMap → List (List ℕ) → LedgerMap
  laid x [] = x
  laid x (k ∷ ks) = laid (set_to x k (get n k)) ks

  set_same : (x : LedgerMap) (k : List ℕ) (v : Option Kept) → get x k ≡ v → set_to x k v ≡ x
  set_same x k v e = same_maps (set_to x k v) x (λ q. get_set x k v q ∙ same q (order q k) refl)
    where
      same : (q : List ℕ) (o : Ordering) → order q k ≡ o → cond (is_eq o) v (get x q) ≡ get x q
      same q Less p = refl
      same q Greater p = refl
      same q Equal p = sym e ∙ ap (get x) (sym (antisymmetric q k p))

  -- a map that has at these keys what m has
  abbrev Agrees : LedgerMap → List (List ℕ) → Type 0
  Agrees x ks = AllByRecursion (λ (k : List ℕ). get x k ≡ get m k) ks

  not_equal : (o : Ordering) → is_lt o ≡ true → is_eq o ≡ false
  not_equal Less e = refl
  not_equal Equal e = absurd cc
  not_equal Greater e = refl

  still : (x : LedgerMap) (k : List ℕ) (v : Option Kept) (ks : List (List ℕ)) → IsAfter (Some k) ks → Agrees x ks
      → Agrees (set_to x k v) ks
  still x k v [] a h = tt
  still x k v (q ∷ ks) a h =
      (get_set x k v q ∙ ap (λ (b : Bool). cond b v (get x q)) (turn q ∙ not_equal (order k q) a.0) ∙ h.0, still x k v ks a.1 h.1)
    where
      turn : (q : List ℕ) → eq_by_cmp order q k ≡ eq_by_cmp order k q
      turn q = (eq_by_cmp_equiv nat_list_cmp_total).symm q k

  abbrev Go : Option LedgerMap → List Group → Option LedgerMap
  Go x gs = option_and_then (λ (y : LedgerMap). replaced_all false y gs) x

  goes : (x : LedgerMap) (k : List ℕ) (d : Differ k (get m k) (get n k)) → get x k ≡ get m k → (gs : List Group)
      → replaced_all false x (d.group ∷ gs) ≡ replaced_all false (set_to x k (get n k)) gs
  goes x k d e gs =
      ap (λ (b : List ℕ). Go (exchanged x b (before_of d.group) (after_of d.group)) gs) d.bytes
      ∙ ap (λ (o : Option Kept). Go (exchanged x k o (after_of d.group)) gs) d.before
      ∙ ap (λ (o : Option Kept). Go (exchanged x k (get m k) o) gs) d.after
      ∙ ap (λ (t : Bool). Go (cond t (Some (set_to x k (get n k))) None) gs)
      (ap (λ (o : Option Kept). is_held o (get m k)) e ∙ held_itself (get m k))

  replaced_keys : (ks : List (List ℕ)) (x : LedgerMap) → Rise ks → Agrees x ks
      → replaced_all false x (groups_at ks m n) ≡ Some (laid x ks)
  unfolding laid
  replaced_keys [] x r h = refl
  replaced_keys (k ∷ ks) x r h =
      elim (at k) [
        | inl s ↦ ap (λ (gs : List Group). replaced_all false x (gs ++ groups_at ks m n)) s.none
            ∙ replaced_keys ks x r.1 h.1
            ∙ ap (λ (y : LedgerMap). Some (laid y ks)) (sym (set_same x k (get n k) (h.0 ∙ s.same)))
        | inr d ↦ ap (λ (gs : List Group). replaced_all false x (gs ++ groups_at ks m n)) d.one
            ∙ goes x k d h.0 (groups_at ks m n)
            ∙ replaced_keys ks (set_to x k (get n k)) r.1 (still x k (get n k) ks r.0 h.1)
      ]

  -- ---- the map that it is

  laid_at : (ks : List (List ℕ)) (x : LedgerMap) (q : List ℕ) → (has_key ks q ≡ false → get x q ≡ get n q)
      → get (laid x ks) q ≡ get n q
  unfolding laid
  laid_at [] x q h = h refl
  laid_at (k ∷ ks) x q h =
      laid_at ks (set_to x k (get n k)) q (λ e. get_set x k (get n k) q ∙ here (order q k) refl e)
    where
      here : (o : Ordering) → order q k ≡ o → list_any (eq_by_cmp order q) ks ≡ false
          → cond (is_eq o) (get n k) (get x q) ≡ get n q
      here Equal p e = ap (get n) (sym (antisymmetric q k p))
      here Less p e = h (ap (λ (o : Ordering). is_eq o || list_any (eq_by_cmp order q) ks) p ∙ e)
      here Greater p e = h (ap (λ (o : Ordering). is_eq o || list_any (eq_by_cmp order q) ks) p ∙ e)

  agrees_itself : (ks : List (List ℕ)) → Agrees m ks
  agrees_itself [] = tt
  agrees_itself (k ∷ ks) = (refl, agrees_itself ks)

  leads : replaced_all false m (groups m n) ≡ Some n
  leads =
      replaced_keys (keys_of m n) m (keys_rise m n) (agrees_itself (keys_of m n))
      ∙ ap (λ (x : LedgerMap). Some x)
      (same_maps (laid m (keys_of m n)) n (λ q. laid_at (keys_of m n) m q (covered m n q)))

  after_none : (ks : List (List ℕ)) → IsAfter None ks
  after_none [] = tt
  after_none (k ∷ ks) = (refl, after_none ks)

  read : groups_in (changes m n) ≡ Some (groups m n)
  read =
      groups_in_written (groups m n) (proper_at (keys_of m n))
      (rises_at (keys_of m n) None (after_none (keys_of m n)) (keys_rise m n))

  pub lead : played_list false m (changes m n) ≡ Some n
  lead =
      ap (λ (r : Option (List Group)). option_and_then (λ (gs : List Group). replaced_all false m gs) r) read ∙ leads
