-- The sides of two maps as they are listed, in the order of their keys' bytes, and the change log of them.
use Rattle.std.specs.declared.cmp.Ordering.{Ordering}
use Rattle.std.specs.declared.cmp.Ordering.TheVariants.{Less}
use Rattle.std.specs.BTreeMap.{BTreeMap, IsOrdered, is_at}
use Rattle.std.specs.Cmp.Lexicographic.{slice_cmp}
use Rattle.std.specs.FinMap.{get, retain_keys}
use Rattle.std.specs.List.{AllByRecursion, flat_map}
use Rattle.std.specs.List.Sorted.{IsStrictlySortedBy}
use Rattle.std.specs.Map.{keys_of, lookup}
use Rattle.std.specs.Option.{option_map}
use Rattle.std.specs.Ordering.{nat_cmp, eq_by_cmp, is_lt, is_eq}
use Rattle.std.specs.Prelude.{IfSome}
use Rattle.std.proofs.Common.{◌≡◌, ℕ, ◌<◌, ◌^◌, Vec, Bool, true, false, cond, List, [], ◌∷◌, ◌++◌, length, map, Option, Some, None, refl, sym, ap, ap₂, subst, ◌∙◌}
use Rattle.std.proofs.lemmas.Map.Text.{is_eq-slice_cmp}
use Rattle.std.proofs.lemmas.Slice.Eq.{bytes_eq-Decides}
use Rattle.entry_lookup.specs.Found.{kept_of}
use Rattle.entry_lookup.specs.declared.ground.Found.{Found}
use Rattle.ledger_spec.specs.LedgerMap.{IsKeptAt}
use Rattle.stage_runs.specs.Maps.{Bytes, Kept, LedgerMap}
use Rattle.stage_runs.proofs.Lemmas.{cases, found_kept, left_false, right_false}
use Rattle.change_log.specs.Log.{Changes}
use Rattle.change_log.specs.Fits.{AreKept}
use Rattle.change_log.specs.Groups.{Group, changes, changes_of, group_at, groups_at}
use Rattle.change_log.specs.Keys.{IsAfter, Rise, has_key}
use Rattle.change_log.specs.Views.{all_groups_in, IsChanged, IsChangedBy}
use Rattle.change_log.specs.declared.groups.Changed.{Changed}
use Rattle.change_log.proofs.Lemmas.{at_keys, same_none_at}
use Rattle.set_steps.specs.Sides.{sides_in, AreSides, Having, IsListOf, IsSide, Tells}
use Rattle.set_steps.proofs.Waiting.{symmetric}

-- ---- pairs in order

abbrev order : Bytes → Bytes → Ordering
order = slice_cmp nat_cmp

abbrev Pairs : Type 0 → Type 0
Pairs Z = List (Vec ℕ Z × Changed)

less_differs : (a b : Bytes) → order a b ≡ Less → is_eq (order b a) ≡ false
less_differs a b e = is_eq-slice_cmp b a ∙ symmetric b a ∙ sym (is_eq-slice_cmp a b) ∙ ap is_eq e

module _ {Z : Type 0} where
  abbrev by_bytes : Vec ℕ Z → Vec ℕ Z → Ordering
  by_bytes x y = order x.items y.items

  abbrev bytes_in : Pairs Z → List Bytes
  bytes_in pairs = map (λ p. p.0.items) pairs

  below : (k : Vec ℕ Z) (ks : List (Vec ℕ Z)) → AllByRecursion (λ l. by_bytes k l ≡ Less) ks
      → IsAfter (Some k.items) (map (λ (l : Vec ℕ Z). l.items) ks)
  below k [] h = tt
  below k (l ∷ ks) h = (ap is_lt h.0, below k ks h.1)

  keys_rise : (ks : List (Vec ℕ Z)) → IsStrictlySortedBy by_bytes ks → Rise (map (λ (l : Vec ℕ Z). l.items) ks)
  unfolding IsStrictlySortedBy
  keys_rise [] h = tt
  keys_rise (k ∷ ks) h = (below k ks h.0, keys_rise ks h.1)

  same_keys : (pairs : Pairs Z) → map (λ (l : Vec ℕ Z). l.items) (keys_of pairs) ≡ bytes_in pairs
  same_keys [] = refl
  same_keys (p ∷ pairs) = ap (λ (bs : List Bytes). p.0.items ∷ bs) (same_keys pairs)

  pairs_rise : (pairs : Pairs Z) → IsStrictlySortedBy by_bytes (keys_of pairs) → Rise (bytes_in pairs)
  pairs_rise pairs h = subst Rise (same_keys pairs) (keys_rise (keys_of pairs) h)

  -- ---- each pair is found

  abbrev at_bytes : Bytes → Pairs Z → Option Changed
  at_bytes q pairs = lookup (is_at (λ (k : Vec ℕ Z). order q k.items)) pairs

  found_later : (p : Vec ℕ Z × Changed) (es pairs : Pairs Z) → AllByRecursion (λ l. by_bytes p.0 l ≡ Less) (keys_of es)
      → AllByRecursion (λ (e : Vec ℕ Z × Changed). at_bytes e.0.items pairs ≡ Some e.1) es
      → AllByRecursion (λ (e : Vec ℕ Z × Changed). at_bytes e.0.items (p ∷ pairs) ≡ Some e.1) es
  found_later p [] pairs less all = tt
  found_later p (e ∷ es) pairs less all = (
    ap (λ (b : Bool). cond b (Some p.1) (at_bytes e.0.items pairs)) (less_differs p.0.items e.0.items less.0) ∙ all.0,
    found_later p es pairs less.1 all.1,
  )

  each_found : (pairs : Pairs Z) → IsStrictlySortedBy by_bytes (keys_of pairs)
      → AllByRecursion (λ (e : Vec ℕ Z × Changed). at_bytes e.0.items pairs ≡ Some e.1) pairs
  unfolding IsStrictlySortedBy
  each_found [] h = tt
  each_found (p ∷ pairs) h = (
    ap (λ (b : Bool). cond b (Some p.1) (at_bytes p.0.items pairs))
        (is_eq-slice_cmp p.0.items p.0.items ∙ (bytes_eq-Decides p.0.items p.0.items).1 refl),
    found_later p pairs pairs h.0 (each_found pairs h.1),
  )

  -- a key that no pair has is not found
  not_found : (pairs : Pairs Z) (q : Bytes) → has_key (bytes_in pairs) q ≡ false → at_bytes q pairs ≡ None
  not_found [] q e = refl
  not_found (p ∷ pairs) q e =
      ap (λ (b : Bool). cond b (Some p.1) (at_bytes q pairs)) (left_false (eq_by_cmp order q p.0.items) (has_key (bytes_in pairs) q) e)
      ∙ not_found pairs q (right_false (eq_by_cmp order q p.0.items) (has_key (bytes_in pairs) q) e)

  -- ---- the sides of two maps

  module _ (before after now : Having) (sides : BTreeMap (Vec ℕ Z) Changed) (are : AreSides before after now (sides_in sides)) where
    abbrev Side : Vec ℕ Z × Changed → Type 0
    Side p = IsSide (before p.0.items) (after p.0.items) p.1

    each_side : (es : Pairs Z) → AllByRecursion (λ (e : Vec ℕ Z × Changed). sides_in sides e.0.items ≡ Some e.1) es → AllByRecursion Side es
    each_side [] all = tt
    each_side (e ∷ es) all = (
      subst (Tells (before e.0.items) (after e.0.items) (now e.0.items)) all.0 (are.each e.0.items),
      each_side es all.1,
    )

    all_sides : IsOrdered by_bytes sides → AllByRecursion Side sides.entries
    all_sides ordered = each_side sides.entries (each_found sides.entries ordered)

    -- what is found at a key differs from what was there as a group says, and both are at the key
    changed_fits : (x y : Option Found) (q : Bytes) → IfSome (option_map kept_of x) (IsKeptAt q) → IfSome (option_map kept_of y) (IsKeptAt q)
        → IsChangedBy x y
    changed_fits None None q h g = tt
    changed_fits None (Some new) q h g = g.fits
    changed_fits (Some old) None q h g = h.fits
    changed_fits (Some old) (Some new) q h g = (h.fits, sym h.keyed ∙ g.keyed)

    side_fits : (p : Vec ℕ Z × Changed) → Side p → IsChanged p.1
    side_fits p side =
        changed_fits p.1.before p.1.after p.0.items
        (subst (λ (o : Option Kept). IfSome o (IsKeptAt p.0.items)) (sym side.before) (are.before_kept p.0.items))
        (subst (λ (o : Option Kept). IfSome o (IsKeptAt p.0.items)) (sym side.after) (are.after_kept p.0.items))

    sides_fit : (es : Pairs Z) → AllByRecursion Side es → AllByRecursion IsChanged (map (λ p. p.1) es)
    sides_fit [] all = tt
    sides_fit (e ∷ es) all = (side_fits e all.0, sides_fit es all.1)

    -- the groups of what is listed are those of the two maps at the keys
    same_groups : (es : Pairs Z) → AllByRecursion Side es
        → all_groups_in (map (λ p. p.1) es) ≡ flat_map (λ (q : Bytes). group_at (before q) (after q)) (bytes_in es)
    same_groups [] all = refl
    same_groups (e ∷ es) all =
        ap₂ (λ (gs hs : List Group). gs ++ hs) (ap₂ group_at all.0.before all.0.after) (same_groups es all.1)

    pub list_fits : (list : List Changed) → list ≡ map (λ p. p.1) sides.entries → IsOrdered by_bytes sides → AllByRecursion IsChanged list
    list_fits list e ordered = subst (AllByRecursion IsChanged) (sym e) (sides_fit sides.entries (all_sides ordered))

    -- the change log of what is listed is that of the two maps
    pub list_is : (list : List Changed) (made : Changes) → list ≡ map (λ p. p.1) sides.entries → IsOrdered by_bytes sides
        → made ≡ flat_map changes_of (all_groups_in list) → length made < 2 ^ 32 → IsListOf before after made
    list_is list made e ordered is few = record {
      bytes = bytes_in sides.entries;
      rise = pairs_rise sides.entries ordered;
      elsewhere = λ q none.
          let here : (now q ≡ before q) × (now q ≡ after q) =
          subst (Tells (before q) (after q) (now q)) (not_found sides.entries q none) (are.each q) in
          sym here.0 ∙ here.1;
      list = is
          ∙ ap (λ (cs : List Changed). flat_map changes_of (all_groups_in cs)) e
          ∙ ap (flat_map changes_of) (same_groups sides.entries (all_sides ordered));
      before_kept = are.before_kept;
      after_kept = are.after_kept;
      few = few;
    }

-- ---- the list of two maps

none_some : (k : Kept) → ◌≡◌ {A = Option Kept} None (Some k) → ⊥
none_some k e = cc

kept_by : (has : Having) (m : LedgerMap) → ((q : Bytes) → has q ≡ get m q) → ((q : Bytes) → IfSome (has q) (IsKeptAt q)) → AreKept m
kept_by has m is all q kept e = subst (λ (o : Option Kept). IfSome o (IsKeptAt q)) (is q ∙ e) (all q)

module _ (before after : Having) (list : Changes) (made : IsListOf before after list) (m n : LedgerMap)
    (is : (q : Bytes) → before q ≡ get m q) (is' : (q : Bytes) → after q ≡ get n q) where
  -- the whole maps
  pub whole_list : list ≡ changes m n
  whole_list =
      made.list
      ∙ ap (flat_map changes_of)
      (same made.bytes ∙ at_keys m n made.bytes made.rise (λ q none. sym (is q) ∙ made.elsewhere q none ∙ is' q))
    where
      same : (qs : List Bytes) → flat_map (λ (q : Bytes). group_at (before q) (after q)) qs ≡ groups_at qs m n
      same [] = refl
      same (q ∷ qs) = ap₂ (λ (gs hs : List Group). gs ++ hs) (ap₂ group_at (is q) (is' q)) (same qs)

  pub whole_before : AreKept m
  whole_before = kept_by before m is made.before_kept

  pub whole_after : AreKept n
  whole_after = kept_by after n is' made.after_kept

  -- The maps at some keys. They differ at no other one.
  module _ (keys : Bytes → Bool) (off : (q : Bytes) → keys q ≡ false → get m q ≡ get n q) where
    abbrev part : LedgerMap → LedgerMap
    part x = retain_keys x keys

    at_part : (x : LedgerMap) (q : Bytes) (b : Bool) → keys q ≡ b → get (part x) q ≡ cond b (get x q) None
    at_part x q b e = found_kept x keys q ∙ ap (λ (h : Bool). cond h (get x q) None) e

    group_in_part : (q : Bytes) → group_at (before q) (after q) ≡ group_at (get (part m) q) (get (part n) q)
    group_in_part q = cases (keys q)
        (λ e. ap₂ group_at (is q ∙ sym (at_part m q true e)) (is' q ∙ sym (at_part n q true e)))
        (λ e. same_none_at (before q) (after q) (is q ∙ off q e ∙ sym (is' q))
        ∙ sym (same_none_at (get (part m) q) (get (part n) q) (at_part m q false e ∙ sym (at_part n q false e))))

    same_in_part : (q : Bytes) → before q ≡ after q → get (part m) q ≡ get (part n) q
    same_in_part q e = cases (keys q)
        (λ h. at_part m q true h ∙ sym (is q) ∙ e ∙ is' q ∙ sym (at_part n q true h))
        (λ h. at_part m q false h ∙ sym (at_part n q false h))

    pub part_list : list ≡ changes (part m) (part n)
    part_list =
        made.list
        ∙ ap (flat_map changes_of)
        (same made.bytes ∙ at_keys (part m) (part n) made.bytes made.rise (λ q none. same_in_part q (made.elsewhere q none)))
      where
        same : (qs : List Bytes) → flat_map (λ (q : Bytes). group_at (before q) (after q)) qs ≡ groups_at qs (part m) (part n)
        same [] = refl
        same (q ∷ qs) = ap₂ (λ (gs hs : List Group). gs ++ hs) (group_in_part q) (same qs)

    kept_in_part : (x : LedgerMap) → AreKept x → AreKept (part x)
    kept_in_part x all q kept e = cases (keys q)
        (λ h. all q kept (sym (at_part x q true h) ∙ e))
        (λ h. absurd (none_some kept (sym (at_part x q false h) ∙ e)))

    pub part_before : AreKept (part m)
    part_before = kept_in_part m whole_before

    pub part_after : AreKept (part n)
    part_after = kept_in_part n whole_after
