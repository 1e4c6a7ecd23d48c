-- The node that the program finds is the node that the definition chooses.
use Rattle.std.proofs.Common.{◌≡◌, ℕ, zero, suc, ◌+◌, ◌<◌, Bool, true, false, cond, not, ◌&&◌, ◌||◌, eqb, List, [], ◌∷◌, ◌++◌, length, map, get_or, filter, fold, Option, Some, None, slice_get, slice_index, nat_lt, bytes_eq, refl, sym, ap, ap₂, ◌∙◌, subst, arith}
use Rattle.std.specs.List.{AllByRecursion}
use Rattle.std.specs.Option.{option_map, option_and_then, option_or}
use Rattle.std.proofs.lemmas.Option.{same_Some, slice_get_within}
use Rattle.std.proofs.lemmas.Bool.{and_parts, and_from}
use Rattle.std.proofs.lemmas.Bool.Decides.{Decides-eqb, same_from_decides}
use Rattle.std.proofs.lemmas.Slice.Eq.{bytes_eq-Decides}
use Rattle.std.proofs.lemmas.List.{length-map}
use Rattle.value_types.specs.declared.account_id.AccountId.{AccountId}
use Rattle.value_types.specs.declared.address.ScAddress.{ScAddress}
use Rattle.invoke_types.specs.declared.function.Function.{Function}
use Rattle.auth_types.specs.Tree.{Tree, Trees, trees_of, list_of_trees, size}
use Rattle.auth_types.specs.Views.{tree_of}
use Rattle.auth_types.specs.InvocationLaws.{trees_there}
use Rattle.auth_types.specs.declared.auth_entry.AuthEntry.{AuthEntry}
use Rattle.auth_trees.specs.declared.records.Record.{Record}
use Rattle.auth_trees.specs.declared.tables.Deepest.{Deepest}
use Rattle.auth_trees.specs.declared.tables.Tables.{Tables}
use Rattle.auth_trees.specs.declared.search.Found.{Found}
use Rattle.auth_spec.specs.Pairs.{Pair, has_pair, is_paired, is_below, deeper, deepest}
use Rattle.auth_spec.specs.Demands.{Marked, children, function_of, node_at, has_asset, signer, same_address, same_function, authorises, first_from, open_child, open_below, by_child, by_root, chosen, is_root}
use Rattle.auth_trees.specs.Listed.{Spot, listed_row, roots, spots, Kept, kept, kept_of, nodes_of_row}
use Rattle.auth_trees.specs.Flat.{authoriser, is_known, has_record, has_entry, flat, known, deepest_record, first_open, child_in, root_in}
use Rattle.auth_trees.specs.Flat as program
use Rattle.auth_trees.specs.Ready.{IsReady, IsMarked, child_found, root_found, found}
use Rattle.auth_trees.specs.Kept.{place_of, pair_of, pairs_of, marked, IsFit}
use Rattle.auth_trees.proofs.Lists.{map_map, get_map, all_map, filter_map_same, filter_all}
use Rattle.list_laws.proofs.Lemmas.{all_same}
use Rattle.auth_trees.proofs.Listing.{length-nodes_of_row}
use Rattle.auth_trees.proofs.Spots.{Row, RootAt, ChildAt, roots_at, children_in, one_index, there, kept_at, length-listed_row}
use Rattle.auth_trees.proofs.Walking.{root_test}

-- ---- a record's node

some_of : (o : Option Spot) (e : ℕ) → option_map (λ spot. spot.entry) o ≡ Some e → (s : Spot) × (o ≡ Some s) × (s.entry ≡ e)
some_of None e h = absurd cc
some_of (Some s) e h = (s, refl, same_Some s.entry e h)

one_test : (ts : Trees) (r : Record) (id : ℕ) (s : Spot) → IsFit (listed_row ts) r → slice_get (listed_row ts) id ≡ Some s
    → eqb r.node id ≡ (eqb r.entry s.entry && bytes_eq (place_of (slice_get (listed_row ts) r.node)) s.place)
one_test ts r id s fit at =
    let nodes = listed_row ts in
    let u = some_of (slice_get nodes r.node) r.entry fit in
    let place : place_of (slice_get nodes r.node) ≡ u.0.place = ap place_of u.1 in
    same_from_decides (eqb r.node id) (eqb r.entry s.entry && bytes_eq (place_of (slice_get nodes r.node)) s.place) (Decides-eqb r.node id) (
      λ e.
          let parts = and_parts (eqb r.entry s.entry) (bytes_eq (place_of (slice_get nodes r.node)) s.place) e in
          let same_entry : r.entry ≡ s.entry = (Decides-eqb r.entry s.entry).0 parts.0 in
          let same_place : place_of (slice_get nodes r.node) ≡ s.place = (bytes_eq-Decides (place_of (slice_get nodes r.node)) s.place).0 parts.1 in
          one_index ts r.node id u.0 s u.1 at (u.2 ∙ same_entry) (sym place ∙ same_place),
      λ e.
          let same : u.0 ≡ s = same_Some u.0 s (sym u.1 ∙ ap (slice_get nodes) e ∙ at) in
          and_from (eqb r.entry s.entry) (bytes_eq (place_of (slice_get nodes r.node)) s.place) ((Decides-eqb r.entry s.entry).1 (sym u.2 ∙ ap (λ (x : Spot). x.entry) same))
          ((bytes_eq-Decides (place_of (slice_get nodes r.node)) s.place).1 (place ∙ ap (λ (x : Spot). x.place) same)),
    )

pub same_record : (ts : Trees) (rs : List Record) (id : ℕ) (s : Spot) → AllByRecursion (IsFit (listed_row ts)) rs → slice_get (listed_row ts) id ≡ Some s
    → has_record rs id ≡ is_paired (map (pair_of (listed_row ts)) rs) s.entry s.place
same_record ts [] id s fits at = refl
same_record ts (r ∷ rs) id s fits at = ap₂ (λ (x y : Bool). x || y) (one_test ts r id s fits.0 at) (same_record ts rs id s fits.1 at)

same_entry : (nodes : List Spot) (rs : List Record) (e : ℕ) → has_entry rs e ≡ has_pair (map (pair_of nodes) rs) e
same_entry nodes [] e = refl
same_entry nodes (r ∷ rs) e = ap (λ b. eqb r.entry e || b) (same_entry nodes rs e)

or_parts : (x y : Bool) → (x || y) ≡ false → (x ≡ false) × (y ≡ false)
or_parts true y e = absurd cc
or_parts false y e = (refl, e)

unpaired : (ps : List Pair) (e : ℕ) (place : List ℕ) → has_pair ps e ≡ false → is_paired ps e place ≡ false
unpaired [] e place h = refl
unpaired (p ∷ ps) e place h =
    let parts = or_parts (eqb p.entry e) (has_pair ps e) h in
    ap₂ (λ (x y : Bool). (x && bytes_eq p.node place) || y) parts.0 (unpaired ps e place parts.1)

-- ---- the deepest record

abbrev unflat : List Spot → Pair → Pair
unflat nodes p = record { entry = p.entry; node = place_of (slice_get nodes (slice_index p.node 0)); path = p.path }

pairs_flat : (nodes : List Spot) (rs : List Record) → map (pair_of nodes) rs ≡ map (unflat nodes) (map flat rs)
pairs_flat nodes rs = sym (map_map (unflat nodes) flat rs)

deeper_map : (nodes : List Spot) (o : Option Pair) (p : Pair) → deeper (option_map (unflat nodes) o) (unflat nodes p) ≡ option_map (unflat nodes) (deeper o p)
deeper_map nodes None p = refl
deeper_map nodes (Some q) p =
    elim (nat_lt (length p.path) (length q.path)) as (λ b. cond b (Some (unflat nodes q)) (Some (unflat nodes p)) ≡ option_map (unflat nodes) (cond b (Some q) (Some p))) [ true ↦ refl | false ↦ refl ]

fold_map : (nodes : List Spot) (o : Option Pair) (ps : List Pair) → fold deeper (option_map (unflat nodes) o) (map (unflat nodes) ps) ≡ option_map (unflat nodes) (fold deeper o ps)
fold_map nodes o [] = refl
fold_map nodes o (p ∷ ps) = ap (λ (x : Option Pair). fold deeper x (map (unflat nodes) ps)) (deeper_map nodes o p) ∙ fold_map nodes (deeper o p) ps

deepest_map : (nodes : List Spot) (rs : List Record) (path : List ℕ) (e : ℕ) → deepest (map (pair_of nodes) rs) path e ≡ option_map (unflat nodes) (deepest (map flat rs) path e)
deepest_map nodes rs path e =
    let test : Pair → Bool = λ pair. eqb pair.entry e && is_below path pair.path in
    ap (λ (ps : List Pair). fold deeper None (filter test ps)) (pairs_flat nodes rs)
    ∙ ap (fold deeper None) (filter_map_same test (unflat nodes) (λ p. refl) (map flat rs))
    ∙ fold_map nodes None (filter test (map flat rs))

abbrev OfIt : (Pair → Type 0) → Option Pair → Type 0
OfIt Q None = Unit {0}
OfIt Q (Some p) = Q p

deeper_keeps : (Q : Pair → Type 0) (o : Option Pair) (p : Pair) → OfIt Q o → Q p → OfIt Q (deeper o p)
deeper_keeps Q None p h q = q
deeper_keeps Q (Some b) p h q = elim (nat_lt (length p.path) (length b.path)) as (λ x. OfIt Q (cond x (Some b) (Some p))) [ true ↦ h | false ↦ q ]

fold_keeps : (Q : Pair → Type 0) (o : Option Pair) (ps : List Pair) → OfIt Q o → AllByRecursion Q ps → OfIt Q (fold deeper o ps)
fold_keeps Q o [] h all = h
fold_keeps Q o (p ∷ ps) h all = fold_keeps Q (deeper o p) ps (deeper_keeps Q o p h all.0) all.1

-- what is known of the deepest record of an entry
abbrev IsOf : List Spot → ℕ → Pair → Type 0
IsOf nodes e p = (p.entry ≡ e) × (option_map (λ spot. spot.entry) (slice_get nodes (slice_index p.node 0)) ≡ Some e)

deepest_fits : (nodes : List Spot) (rs : List Record) (path : List ℕ) (e : ℕ) → AllByRecursion (IsFit nodes) rs → OfIt (IsOf nodes e) (deepest (map flat rs) path e)
deepest_fits nodes rs path e fits =
    let test : Pair → Bool = λ pair. eqb pair.entry e && is_below path pair.path in
    let each : AllByRecursion (λ r. test (flat r) ≡ true → IsOf nodes e (flat r)) rs =
    all_same (IsFit nodes) (λ r. test (flat r) ≡ true → IsOf nodes e (flat r)) (λ r fit t.
    let parts = and_parts (eqb r.entry e) (is_below path r.path) t in
    let same : r.entry ≡ e = (Decides-eqb r.entry e).0 parts.0 in
    (same, fit ∙ ap Some same)) rs fits in
    fold_keeps (IsOf nodes e) None (filter test (map flat rs)) tt
    (filter_all test (IsOf nodes e) (map flat rs) (all_map (λ p. test p ≡ true → IsOf nodes e p) flat rs each))

-- ---- what the program finds, and what is chosen

pub record Hits (nodes : List Spot) (rs : List Record) (x : Found) (q : Option (ℕ × List ℕ)) : Type 0 where
  pub spot : Spot
  pub at : slice_get nodes x.node ≡ Some spot
  pub entry : spot.entry ≡ x.entry
  pub choice : q ≡ Some (x.entry, spot.place)
  pub free : has_record rs x.node ≡ false
  pub first : is_root spot.place ≡ x.first

abbrev pub Finds : List Spot → List Record → Option Found → Option (ℕ × List ℕ) → Type 0
Finds nodes rs None q = q ≡ None
Finds nodes rs (Some x) q = Hits nodes rs x q

module _ (nodes : List Spot) (rs : List Record) where
  finds_same : (a b : Option Found) (c d : Option (ℕ × List ℕ)) → a ≡ b → c ≡ d → Finds nodes rs a c → Finds nodes rs b d
  finds_same a b c d e f h = subst (λ (x : Option Found). Finds nodes rs x d) e (subst (λ (y : Option (ℕ × List ℕ)). Finds nodes rs a y) f h)

  finds_or : (a b : Option Found) (c d : Option (ℕ × List ℕ)) → Finds nodes rs a c → Finds nodes rs b d → Finds nodes rs (option_or a b) (option_or c d)
  finds_or None b c d h k = subst (λ (y : Option (ℕ × List ℕ)). Finds nodes rs b (option_or y d)) (sym h) k
  finds_or (Some x) b c d h k = record { spot = h.spot; at = h.at; entry = h.entry; choice = ap (λ (y : Option (ℕ × List ℕ)). option_or y d) h.choice; free = h.free; first = h.first }

  finds_if : (y z : Bool) (a : Option Found) (c : Option (ℕ × List ℕ)) → z ≡ y → Finds nodes rs a c → Finds nodes rs (cond y a None) (cond z c None)
  finds_if true z a c e h = subst (λ b. Finds nodes rs a (cond b c None)) (sym e) h
  finds_if false z a c e h = ap (λ b. cond b c None) e

  -- the first of a row is found, or the rest is gone through
  finds_first : (y z : Bool) (x : Found) (p : ℕ × List ℕ) (a : Option Found) (c : Option (ℕ × List ℕ)) → z ≡ y → (y ≡ true → Hits nodes rs x (Some p)) → Finds nodes rs a c
      → Finds nodes rs (cond y (Some x) a) (option_or (cond z (Some p) None) c)
  finds_first true z x p a c e hit rest =
      let h = hit refl in
      record { spot = h.spot; at = h.at; entry = h.entry; choice = ap (λ b. option_or (cond b (Some p) None) c) e ∙ h.choice; free = h.free; first = h.first }
  finds_first false z x p a c e hit rest = subst (λ b. Finds nodes rs a (option_or (cond b (Some p) None) c)) (sym e) rest

  finds_all : (F : ℕ → Option ScAddress → Option Found) (G : ℕ → AuthEntry → Option (ℕ × List ℕ)) (m : AuthEntry → Option ScAddress) (j : ℕ) (es : List AuthEntry)
      → ((k : ℕ) (e : AuthEntry) → slice_get es k ≡ Some e → Finds nodes rs (F (j + k) (m e)) (G (j + k) e))
      → Finds nodes rs (first_from F j (map m es)) (first_from G j es)
  finds_all F G m j [] h = refl
  finds_all F G m j (e ∷ es) h =
      let now : j + 0 ≡ j = omega arith in
      finds_or (F j (m e)) (first_from F (suc j) (map m es)) (G j e) (first_from G (suc j) es) (subst (λ n. Finds nodes rs (F n (m e)) (G n e)) now (h 0 e refl))
      (finds_all F G m (suc j) es (λ k x at. let later : j + suc k ≡ suc j + k = omega arith in subst (λ n. Finds nodes rs (F n (m x)) (G n x)) later (h (suc k) x at)))

not_true : (b : Bool) → not b ≡ true → b ≡ false
not_true true e = absurd cc
not_true false e = refl

not_root : (p : List ℕ) (j : ℕ) → is_root (p ++ j ∷ []) ≡ false
not_root [] j = refl
not_root (x ∷ p) j = refl

-- ---- children

abbrev child_of : ℕ → ℕ → Found
child_of e id = record { entry = e; node = id; first = false }

abbrev of_entry : ℕ → List ℕ → ℕ × List ℕ
of_entry e place = (e, place)

if_map : (b : Bool) (e id : ℕ) (o : Option ℕ) → option_map (child_of e) (cond b (Some id) o) ≡ cond b (Some (child_of e id)) (option_map (child_of e) o)
if_map true e id o = refl
if_map false e id o = refl

or_map : (b : Bool) (e : ℕ) (p : List ℕ) (o : Option (List ℕ)) → option_map (of_entry e) (option_or (cond b (Some p) None) o) ≡ option_or (cond b (Some (e, p)) None) (option_map (of_entry e) o)
or_map true e p o = refl
or_map false e p o = refl

abbrev Agree : List Spot → List Record → List Bool → Type 0
Agree nodes rs taken = (id : ℕ) (s : Spot) → slice_get nodes id ≡ Some s → get_or taken id false ≡ has_record rs id

children_found : (ts : Trees) (rs : List Record) (taken : List Bool) (f : Function) (e : ℕ) (p : List ℕ) → AllByRecursion (IsFit (listed_row ts)) rs → Agree (listed_row ts) rs taken
    → (j id : ℕ) (us : List Tree) → Row (ChildAt (listed_row ts) e p) j id us
    → Finds (listed_row ts) rs (option_map (child_of e) (first_open taken f id us)) (option_map (of_entry e) (first_from (open_child (map (pair_of (listed_row ts)) rs) e p f) j us))
unfolding first_open
children_found ts rs taken f e p fits agree j id [] row = refl
children_found ts rs taken f e p fits agree j id (u ∷ us) row =
    let nodes = listed_row ts in
    let pairs = map (pair_of nodes) rs in
    let s : Spot = record { entry = e; place = p ++ j ∷ []; tree = u } in
    let y = not (get_or taken id false) && same_function (function_of u) f in
    let z = not (is_paired pairs e (p ++ j ∷ [])) && same_function (function_of u) f in
    let same : z ≡ y = ap (λ b. not b && same_function (function_of u) f) (sym (agree id s row.0 ∙ same_record ts rs id s fits row.0)) in
    let hit : y ≡ true → Hits nodes rs (child_of e id) (Some (e, p ++ j ∷ [])) =
    λ t. record {
      spot = s;
      at = row.0;
      entry = refl;
      choice = refl;
      free = sym (agree id s row.0) ∙ not_true (get_or taken id false) (and_parts (not (get_or taken id false)) (same_function (function_of u) f) t).0;
      first = not_root p j;
    } in
    let rest = children_found ts rs taken f e p fits agree (suc j) (id + size u) us row.1 in
    finds_same nodes rs _ _ _ _ (sym (if_map y e id (first_open taken f (id + size u) us))) (sym (or_map z e (p ++ j ∷ []) (first_from (open_child pairs e p f) (suc j) us)))
    (finds_first nodes rs y z (child_of e id) (e, p ++ j ∷ []) _ _ same hit rest)

-- below the deepest node of an entry
deepest_found : (ts : Trees) (rs : List Record) (taken : List Bool) (f : Function) (e : ℕ) (root : Tree) (d : Option Pair) → AllByRecursion (IsFit (listed_row ts)) rs → Agree (listed_row ts) rs taken
    → slice_get (list_of_trees ts) e ≡ Some root → OfIt (IsOf (listed_row ts) e) d
    → Finds (listed_row ts) rs (option_map (child_of e) (option_and_then (program.open_below (nodes_of_row ts) taken f) (option_map known d)))
    (option_map (of_entry e) (option_and_then (open_below (map (pair_of (listed_row ts)) rs) f root) (option_map (unflat (listed_row ts)) d)))
unfolding program.open_below
deepest_found ts rs taken f e root None fits agree there_root h = refl
deepest_found ts rs taken f e root (Some p) fits agree there_root h =
    let nodes = listed_row ts in
    let pairs = map (pair_of nodes) rs in
    let g = slice_index p.node 0 in
    let u = some_of (slice_get nodes g) e h.1 in
    let s = u.0 in
    let kept_there : slice_get (nodes_of_row ts) g ≡ Some (kept_of s.tree) = kept_at ts g s u.1 in
    let in_entry : node_at root s.place ≡ Some s.tree =
    ap (option_and_then (λ (r : Tree). node_at r s.place)) (sym there_root ∙ ap (slice_get (list_of_trees ts)) (sym u.2)) ∙ there ts g s u.1 in
    let row : Row (ChildAt nodes e s.place) 0 (suc g) (children s.tree) = subst (λ n. Row (ChildAt nodes n s.place) 0 (suc g) (children s.tree)) u.2 (children_in ts g s u.1) in
    let base = children_found ts rs taken f e s.place fits agree 0 (suc g) (children s.tree) row in
    let left : first_open taken f (suc g) (children s.tree) ≡ option_and_then (λ (k : Kept). first_open taken f (suc g) (children k.tree)) (slice_get (nodes_of_row ts) g) =
    ap (option_and_then (λ (k : Kept). first_open taken f (suc g) (children k.tree))) (sym kept_there) in
    let at_entry : open_below pairs f root (record { entry = e; node = s.place; path = p.path }) ≡ first_from (open_child pairs e s.place f) 0 (children s.tree) =
    ap (option_and_then (λ (t : Tree). first_from (open_child pairs e s.place f) 0 (children t))) in_entry in
    let right : first_from (open_child pairs e s.place f) 0 (children s.tree) ≡ open_below pairs f root (unflat nodes p) =
    sym at_entry ∙ ap₂ (λ (n : ℕ) (pl : List ℕ). open_below pairs f root (record { entry = n; node = pl; path = p.path })) (sym h.0) (sym (ap place_of u.1)) in
    finds_same nodes rs _ _ _ _ (ap (option_map (child_of e)) left) (ap (option_map (of_entry e)) right) base

known_same : (source : AccountId) (address : ScAddress) (entry : AuthEntry) → is_known address (authoriser source entry) ≡ authorises source address entry
known_same source address entry =
    elim (has_asset (tree_of entry.root_invocation)) as (λ b. is_known address (cond b None (Some (signer source entry.credentials))) ≡ (not b && same_address (signer source entry.credentials) address)) [ true ↦ refl | false ↦ refl ]

-- ---- roots

roots_found : (ts : Trees) (rs : List Record) (used : List Bool) (addresses : List (Option ScAddress)) (s : Marked) (address : ScAddress) (f : Function) → s.pairs ≡ map (pair_of (listed_row ts)) rs
    → AllByRecursion (IsFit (listed_row ts)) rs → (j id : ℕ) (es : List AuthEntry) → Row (RootAt (listed_row ts)) j id (roots es)
    → ((k : ℕ) (e : AuthEntry) → slice_get es k ≡ Some e → (get_or used (j + k) false ≡ has_pair s.pairs (j + k)) × (get_or addresses (j + k) None ≡ authoriser s.source e))
    → Finds (listed_row ts) rs (root_in used addresses address f j id es) (first_from (by_root s address f) j es)
unfolding root_in
roots_found ts rs used addresses s address f made fits j id [] row facts = refl
roots_found ts rs used addresses s address f made fits j id (e ∷ es) row facts =
    let nodes = listed_row ts in
    let now : j + 0 ≡ j = omega arith in
    let fact = facts 0 e refl in
    let is_used : get_or used j false ≡ has_pair s.pairs j = subst (λ n. get_or used n false ≡ has_pair s.pairs n) now fact.0 in
    let address_is : get_or addresses j None ≡ authoriser s.source e = subst (λ n. get_or addresses n None ≡ authoriser s.source e) now fact.1 in
    let same_f = same_function e.root_invocation.function f in
    let y = root_test used addresses address f j e in
    let z = not (has_pair s.pairs j) && authorises s.source address e && same_f in
    let same : z ≡ y =
    ap₂ (λ (a b : Bool). not a && b && same_f) (sym is_used) (sym (ap (is_known address) address_is ∙ known_same s.source address e)) in
    let spot : Spot = record { entry = j; place = []; tree = tree_of e.root_invocation } in
    let hit : y ≡ true → Hits nodes rs (record { entry = j; node = id; first = true }) (Some (j, [])) =
    λ t.
    let parts = and_parts (not (get_or used j false) && is_known address (get_or addresses j None)) same_f t in
    let unused : has_pair s.pairs j ≡ false = sym is_used ∙ not_true (get_or used j false) (and_parts (not (get_or used j false)) (is_known address (get_or addresses j None)) parts.0).0 in
    record {
      spot = spot;
      at = row.0;
      entry = refl;
      choice = refl;
      free = same_record ts rs id spot fits row.0 ∙ unpaired (map (pair_of nodes) rs) j [] (sym (ap (λ (ps : List Pair). has_pair ps j) made) ∙ unused);
      first = refl;
    } in
    let rest = roots_found ts rs used addresses s address f made fits (suc j) (id + size (tree_of e.root_invocation)) es row.1 (λ k x at.
    let later : j + suc k ≡ suc j + k = omega arith in
    let h = facts (suc k) x at in
    (subst (λ n. get_or used n false ≡ has_pair s.pairs n) later h.0, subst (λ n. get_or addresses n None ≡ authoriser s.source x) later h.1)) in
    finds_first nodes rs y z (record { entry = j; node = id; first = true }) (j, []) _ _ same hit rest

-- ---- both

get_map_or : (m : AuthEntry → Option ScAddress) (es : List AuthEntry) (k : ℕ) (e : AuthEntry) → slice_get es k ≡ Some e → get_or (map m es) k None ≡ m e
get_map_or m [] k e h = absurd cc
get_map_or m (x ∷ es) zero e h = ap m (same_Some x e h)
get_map_or m (x ∷ es) (suc k) e h = get_map_or m es k e h

pub finds_it : (t : Tables) (source : AccountId) (rs : List Record) (path : List ℕ) (address : ScAddress) (f : Function) → IsReady t → IsMarked rs path t
    → t.addresses.items ≡ map (authoriser source) t.entries.now → AllByRecursion (IsFit (spots t.entries.now)) rs
    → Finds (spots t.entries.now) rs (found t address f) (chosen (marked t source rs) path address f)
unfolding deepest_record child_in pairs_of
finds_it t source rs path address f ready marks addresses fits =
    let es = t.entries.now in
    let ts = trees_of (roots es) in
    let nodes = listed_row ts in
    let pairs = map (pair_of nodes) rs in
    let s = marked t source rs in
    let long : length nodes ≡ length t.taken.items =
    length-listed_row ts ∙ sym (length-nodes_of_row ts) ∙ ap length (sym ready.nodes) ∙ length-map t.nodes.items kept ∙ sym ready.taken in
    let agree : Agree nodes rs t.taken.items = λ id spot at. marks.taken id (omega (arith, slice_get_within nodes id spot at, long)) in
    let child : Finds nodes rs (child_found t address f) (first_from (by_child s path address f) 0 es) =
    subst (λ (known : List (Option ScAddress)). Finds nodes rs (first_from (child_in (map kept t.nodes.items) t.taken.items t.deepest.items address f) 0 known) (first_from (by_child s path address f) 0 es)) (sym addresses)
    (finds_all nodes rs (child_in (map kept t.nodes.items) t.taken.items t.deepest.items address f) (by_child s path address f) (authoriser source) 0 es (λ k e at.
    let i : 0 + k ≡ k = omega arith in
    let there_root : slice_get (list_of_trees ts) k ≡ Some (tree_of e.root_invocation) =
    ap (λ (xs : List Tree). slice_get xs k) (trees_there (roots es)) ∙ get_map (λ (x : AuthEntry). tree_of x.root_invocation) es k e at in
    let within : k < length t.deepest.items = omega (arith, slice_get_within es k e at, ready.deepest) in
    let base = deepest_found ts rs t.taken.items f k (tree_of e.root_invocation) (deepest (map flat rs) path k) fits agree there_root (deepest_fits nodes rs path k fits) in
    let inner = finds_same nodes rs _ _ _ _
    (ap (option_map (child_of k)) (ap₂ (λ (ks : List Kept) (o : Option Deepest). option_and_then (program.open_below ks t.taken.items f) o) (sym ready.nodes) (sym (marks.deepest k within))))
    (ap (λ (o : Option Pair). option_map (of_entry k) (option_and_then (open_below pairs f (tree_of e.root_invocation)) o)) (sym (deepest_map nodes rs path k))) base in
    subst (λ n. Finds nodes rs (child_in (map kept t.nodes.items) t.taken.items t.deepest.items address f n (authoriser source e)) (by_child s path address f n e)) (sym i)
    (finds_if nodes rs (is_known address (authoriser source e)) (authorises source address e) _ _ (sym (known_same source address e)) inner))) in
    let at_roots : Row (RootAt nodes) 0 0 (roots es) = subst (λ (xs : List Tree). Row (RootAt nodes) 0 0 xs) (trees_there (roots es)) (roots_at ts) in
    let root : Finds nodes rs (root_found t address f) (first_from (by_root s address f) 0 es) =
    roots_found ts rs t.used.items t.addresses.items s address f refl fits 0 0 es at_roots (λ k e at.
    let i : 0 + k ≡ k = omega arith in
    let within : k < length t.used.items = omega (arith, slice_get_within es k e at, ready.used) in (
      subst (λ n. get_or t.used.items n false ≡ has_pair pairs n) (sym i) (marks.used k within ∙ same_entry nodes rs k),
      subst (λ n. get_or t.addresses.items n None ≡ authoriser source e) (sym i) (ap (λ (xs : List (Option ScAddress)). get_or xs k None) addresses ∙ get_map_or (authoriser source) es k e at),
    )) in
    finds_or nodes rs (child_found t address f) (root_found t address f) (first_from (by_child s path address f) 0 es) (first_from (by_root s address f) 0 es) child root

-- the deepest nodes are nodes
pub are_within : (t : Tables) (rs : List Record) (path : List ℕ) → IsReady t → IsMarked rs path t → AllByRecursion (IsFit (spots t.entries.now)) rs
    → (entry : ℕ) (best : Deepest) → entry < length t.deepest.items → get_or t.deepest.items entry None ≡ Some best → best.node < length t.nodes.items
unfolding deepest_record
are_within t rs path ready marks fits entry best within e =
    let ts = trees_of (roots t.entries.now) in
    let nodes = listed_row ts in
    let long : length nodes ≡ length t.nodes.items = length-listed_row ts ∙ sym (length-nodes_of_row ts) ∙ ap length (sym ready.nodes) ∙ length-map t.nodes.items kept in
    let go : (d : Option Pair) → OfIt (IsOf nodes entry) d → option_map known d ≡ Some best → best.node < length t.nodes.items =
    λ d. elim d as (λ d. OfIt (IsOf nodes entry) d → option_map known d ≡ Some best → best.node < length t.nodes.items) [
      | None ↦ λ h f. absurd cc
      | Some p ↦ λ h f.
          let u = some_of (slice_get nodes (slice_index p.node 0)) entry h.1 in
          let same : slice_index p.node 0 ≡ best.node = ap (λ (x : Deepest). x.node) (same_Some (known p) best f) in
          omega (arith, slice_get_within nodes (slice_index p.node 0) u.0 u.1, long)
    ] in
    go (deepest (map flat rs) path entry) (deepest_fits nodes rs path entry fits) (sym (marks.deepest entry within) ∙ e)
