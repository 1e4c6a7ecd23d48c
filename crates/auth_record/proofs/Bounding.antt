-- What is tested of each item of a row holds of the row.
use Rattle.std.proofs.Common.{◌≡◌, ℕ, zero, suc, ◌+◌, ◌-◌, ◌<◌, ◌≤◌, ◌^◌, ◌≢◌, ◌==◌, Bool, true, ◌&&◌, List, [], ◌∷◌, length, get_or, take, refl, sym, ap, ◌∙◌, subst, arith}
use Rattle.std.specs.List.{AllByRecursion}
use Rattle.std.proofs.lemmas.Bool.{and_parts, eqb-true}
use Rattle.std.proofs.lemmas.List.{length-map, nil_from_length, take_all}
use Rattle.std.proofs.lemmas.List.Elements.{All-from_recursion, All-more, recursion_from_All}
use Rattle.xdr_spec.specs.Format.{Format, list}
use Rattle.value_types.specs.Datum.{items_of, members_of, list_of_items, list_of_members, vec, map}
use Rattle.value_types.specs.Views.{datum, datums, datum_pair, datum_pairs}
use Rattle.value_types.proofs.Lemmas.{items_there, members_there}
use Rattle.value_types.specs.declared.value.ScVal.{ScVal}
use Rattle.value_types.specs.declared.value.Entry.{Entry}
use Rattle.value_xdr.specs.Bytes.{IsBounded, AreItemsBounded, AreMembersBounded}
use Rattle.auth_types.specs.Tree.{Tree}
use Rattle.auth_types.specs.Views.{tree_of as tree_in, forest_of}
use Rattle.auth_types.specs.Invocation.{one_level, tree_format, subs_format}
use Rattle.auth_types.specs.InvocationLaws.{invocation_of-tree}
use Rattle.auth_types.specs.declared.invocation.Invocation.{Invocation}

-- ---- rows

-- one item more
pub row_more : {A : Type 0} (P : A → Type 0) (xs : List A) (k : ℕ) (x : A) → k < length xs → x ≡ get_or xs k x → AllByRecursion P (take k xs) → P x → AllByRecursion P (take (k + 1) xs)
row_more P xs k x lt is so_far good = recursion_from_All P (take (k + 1) xs) (All-more P xs k x lt (All-from_recursion P (take k xs) so_far) (subst P is good))

-- all items
pub row_whole : {A : Type 0} (P : A → Type 0) (xs : List A) (k : ℕ) → length xs ≤ k → AllByRecursion P (take k xs) → AllByRecursion P xs
row_whole P xs k le h = subst (AllByRecursion P) (take_all k xs le) h

pub row_fits : {A : Type 0} (F : Format A) (xs : List A) → length xs < 2 ^ 32 → AllByRecursion F.fits xs → (list 4294967295 F).fits xs
unfolding list
row_fits F xs few h = (omega arith, few, h)

-- ---- values

abbrev pub IsGood : ScVal → Type 0
IsGood v = IsBounded (datum v)

abbrev pub IsGoodPair : Entry → Type 0
IsGoodPair e = IsBounded (datum e.key) × IsBounded (datum e.val)

pub both_good : (e : Entry) (key val : Bool) → (key ≡ true → IsBounded (datum e.key)) → (val ≡ true → IsBounded (datum e.val)) → key && val ≡ true → IsGoodPair e
both_good e key val k v h = let both = and_parts key val h in (k both.0, v both.1)

items_length : (vs : List ScVal) → length (list_of_items (items_of (datums vs))) ≡ length vs
items_length vs = ap length (items_there (datums vs)) ∙ length-map vs datum

each_item : (vs : List ScVal) → AllByRecursion IsGood vs → AreItemsBounded (items_of (datums vs))
each_item [] h = tt
each_item (v ∷ vs) h = (h.0, each_item vs h.1)

pub items_bounded : (vs : List ScVal) → length vs < 2 ^ 32 → AllByRecursion IsGood vs → IsBounded (vec (items_of (datums vs)))
items_bounded vs few h = (omega (arith, items_length vs), each_item vs h)

members_length : (es : List Entry) → length (list_of_members (members_of (datum_pairs es))) ≡ length es
members_length es = ap length (members_there (datum_pairs es)) ∙ length-map es datum_pair

each_member : (es : List Entry) → AllByRecursion IsGoodPair es → AreMembersBounded (members_of (datum_pairs es))
each_member [] h = tt
each_member (e ∷ es) h = (h.0.0, h.0.1, each_member es h.1)

pub entries_bounded : (es : List Entry) → length es < 2 ^ 32 → AllByRecursion IsGoodPair es → IsBounded (map (members_of (datum_pairs es)))
entries_bounded es few h = (omega (arith, members_length es), each_member es h)

-- ---- trees

each_tree : (subs : Format (List Tree)) (is : List Invocation) → AllByRecursion (one_level subs).fits is → AllByRecursion (tree_format subs).fits (forest_of is)
each_tree subs [] h = tt
each_tree subs (i ∷ is) h = (subst (λ (j : Invocation). (one_level subs).fits j) (sym (invocation_of-tree i)) h.0, each_tree subs is h.1)

-- the sub-invocations at a level, if each fits the next one
pub trees_fit : (levels : ℕ) (is : List Invocation) → levels ≢ 0 → length is < 2 ^ 32 → AllByRecursion (one_level (subs_format (levels - 1))).fits is → (subs_format levels).fits (forest_of is)
unfolding subs_format
trees_fit zero is more few h = absurd (more refl)
trees_fit (suc n) is more few h =
    let below : suc n - 1 ≡ n = omega arith in
    (omega (arith, length-map is tree_in), each_tree (subs_format n) is (subst (λ (m : ℕ). AllByRecursion (one_level (subs_format m)).fits is) below h))

-- a row without items is empty
pub none_in : (is : List Invocation) → (length is == 0) ≡ true → is ≡ []
none_in is e = nil_from_length is (eqb-true (length is) 0 e)

-- at the last level there are none
pub no_trees_fit : (levels : ℕ) (is : List Invocation) → levels ≡ 0 → is ≡ [] → (subs_format levels).fits (forest_of is)
unfolding subs_format
no_trees_fit levels is last none = subst (λ (n : ℕ). (subs_format n).fits (forest_of is)) (sym last) (ap forest_of none)
