-- What meets a demand in the run with the recorded entries is the node that the recorder noted.
use Rattle.std.proofs.Common.{◌≡◌, ℕ, suc, ◌+◌, ◌-◌, ◌<◌, Bool, true, false, cond, not, ◌&&◌, eqb, List, [], ◌∷◌, ◌++◌, length, map}
use Rattle.std.proofs.Common.{take, filter, Option, Some, None, option_map, slice_get, bytes_eq, inl, inr, refl, sym, ap, ap₂}
use Rattle.std.proofs.Common.{◌∙◌, subst, arith}
use Rattle.std.specs.Option.{option_and_then, option_or}
use Rattle.std.proofs.lemmas.Bool.{and_parts, and_from, false_from_ne_true}
use Rattle.std.proofs.lemmas.Bool.Decides.{Decides-eqb}
use Rattle.std.proofs.lemmas.List.{length_push, same_from_push}
use Rattle.std.proofs.lemmas.List.Elements.{filter-append}
use Rattle.std.proofs.lemmas.Map.Keys.{any_passes_from_place}
use Rattle.std.proofs.lemmas.Option.{slice_get_within}
use Rattle.std.proofs.lemmas.Slice.Eq.{bytes_eq-Decides}
use Rattle.value_types.specs.declared.account_id.AccountId.{AccountId}
use Rattle.value_types.specs.declared.address.ScAddress.{ScAddress}
use Rattle.invoke_types.specs.declared.function.Function.{Function}
use Rattle.auth_types.specs.InvocationLaws.{tree_of-invocation}
use Rattle.auth_types.specs.Tree.{Tree}
use Rattle.auth_types.specs.declared.auth_entry.AuthEntry.{AuthEntry}
use Rattle.auth_spec.specs.Pairs.{Pair, has_pair, is_paired, deepest}
use Rattle.auth_spec.specs.Demands.{same_address, same_function, function_of, children, Marked, first_from}
use Rattle.auth_spec.specs.Demands.{open_child, open_below, by_child, by_root, chosen}
use Rattle.auth_spec.specs.Noted.{Note, MOST_LEVELS, pairs_in, roots_in, is_child}
use Rattle.list_laws.proofs.Lemmas.{get_left}
use Rattle.record_spec.specs.Trees.{Terms, children_of, tree_below, tree_of, credentials_by, entry_of, entries_of, terms_after}
use Rattle.record_spec.proofs.Lists.{split_at, get_here, get_first, get_map, mapped, filter_here, kept_at, any_found}
use Rattle.record_spec.proofs.Lists.{first_is, nothing_first}
use Rattle.record_spec.proofs.Same.{own_address, own_function}
use Rattle.record_spec.proofs.Grown.{Grown, IsNewRoot, IsNewChild, NoneAbove, child_count, grown_before, grown_at, deepest_is, stood}
use Rattle.record_spec.proofs.Grown.{roots_append, root_here, root_still, entry_below, root_at, child_parts, is_child_of, child_at}
use Rattle.record_spec.proofs.Placed.{below_children, below_function, invoked, authorised, entry_is}
use Rattle.record_spec.proofs.Placed.{root_entry, node_of_tree}

-- ---- nodes with pairs

-- whether a pair is of this node of a tree
abbrev is_of : ℕ → List ℕ → Pair → Bool
is_of tree place pair = eqb pair.entry tree && bytes_eq pair.node place

-- a node that was noted has a pair
is_noted : (ns : List Note) (i : ℕ) (m : Note) (tree : ℕ) (place : List ℕ) → slice_get ns i ≡ Some m → m.pair.entry ≡ tree
    → m.pair.node ≡ place → is_paired (pairs_in ns) tree place ≡ true
is_noted ns i m tree place at entry node =
    any_passes_from_place (is_of tree place) (pairs_in ns) i m.pair (get_map (λ (n : Note). n.pair) ns i m at)
    (and_from (eqb m.pair.entry tree) (bytes_eq m.pair.node place) ((Decides-eqb m.pair.entry tree).1 entry)
    ((bytes_eq-Decides m.pair.node place).1 node))

-- the children that were noted so far have pairs
child_paired : (ns : List Note) (p : Pair) (j : ℕ) (m : Note) → Grown ns
    → slice_get (filter (λ (n : Note). is_child p n.pair) ns) j ≡ Some m → is_paired (pairs_in ns) p.entry (p.node ++ j ∷ []) ≡ true
child_paired ns p j m grown at =
    let h = kept_at (λ (n : Note). is_child p n.pair) ns j m at in
    let node : m.pair.node ≡ p.node ++ j ∷ [] =
    child_at ns h.before h.after m p grown h.whole h.passes ∙ ap (λ (k : ℕ). p.node ++ k ∷ []) (sym h.index) in
    let here : slice_get ns (length h.before) ≡ Some m =
    ap (λ xs. slice_get xs (length h.before)) h.whole ∙ get_here h.before h.after m in
    is_noted ns (length h.before) m p.entry (p.node ++ j ∷ []) here (child_parts p m.pair h.passes).entry node

-- no node stands where the next child will
none_there : (ns : List Note) (p : Pair) (m : Note) (i : ℕ) → Grown ns → slice_get ns i ≡ Some m → m.pair.entry ≡ p.entry
    → m.pair.node ≡ p.node ++ child_count ns p ∷ [] → ⊥
none_there ns p m i grown here entry node =
    let test : Note → Bool = λ n. is_child p n.pair in
    let child : is_child p m.pair ≡ true = is_child_of p m.pair (child_count ns p) entry node in
    let s = split_at ns i m here in
    let its : m.pair.node ≡ p.node ++ child_count s.before p ∷ [] = child_at ns s.before s.after m p grown s.whole child in
    let same : child_count ns p ≡ child_count s.before p = (same_from_push p.node p.node (child_count ns p) (child_count s.before p) (sym node ∙ its)).1 in
    let less : child_count s.before p < child_count (s.before ++ m ∷ s.after) p =
    slice_get_within (filter test (s.before ++ m ∷ s.after)) (child_count s.before p) m (filter_here test s.before s.after m child) in
    let whole : child_count (s.before ++ m ∷ s.after) p ≡ child_count ns p = ap (λ (xs : List Note). child_count xs p) (sym s.whole) in
    omega (arith, same, less, whole)

-- the next child has none
child_unpaired : (ns : List Note) (p : Pair) → Grown ns → is_paired (pairs_in ns) p.entry (p.node ++ child_count ns p ∷ []) ≡ false
child_unpaired ns p grown =
    let place = p.node ++ child_count ns p ∷ [] in
    false_from_ne_true (is_paired (pairs_in ns) p.entry place) (λ t.
    let f = any_found (is_of p.entry place) (pairs_in ns) t in
    let m = mapped (λ (n : Note). n.pair) ns f.index f.item f.here in
    let parts = and_parts (eqb f.item.entry p.entry) (bytes_eq f.item.node place) f.passes in
    let entry = (Decides-eqb f.item.entry p.entry).0 parts.0 in
    let node = (bytes_eq-Decides f.item.node place).0 parts.1 in
    none_there ns p m.item f.index grown m.here (ap (λ (q : Pair). q.entry) m.is ∙ entry) (ap (λ (q : Pair). q.node) m.is ∙ node))

-- ---- open children

-- a child with a pair is not open
taken : (pairs : List Pair) (entry : ℕ) (parent : List ℕ) (function : Function) (index : ℕ) (child : Tree)
    → is_paired pairs entry (parent ++ index ∷ []) ≡ true → open_child pairs entry parent function index child ≡ None
taken pairs entry parent function index child e =
    ap (λ b. cond (not b && same_function (function_of child) function) (Some (parent ++ index ∷ [])) None) e

-- a child without one is open to its function
untaken : (pairs : List Pair) (entry : ℕ) (parent : List ℕ) (function : Function) (index : ℕ) (child : Tree)
    → is_paired pairs entry (parent ++ index ∷ []) ≡ false → same_function (function_of child) function ≡ true
    → open_child pairs entry parent function index child ≡ Some (parent ++ index ∷ [])
untaken pairs entry parent function index child e f =
    ap₂ (λ (a b : Bool). cond (not a && b) (Some (parent ++ index ∷ [])) None) e f

-- the first open child of a node is the one that is noted next
row_finds : (final ns more : List Note) (n : Note) (p : Pair) (levels : ℕ) → Grown ns → final ≡ ns ++ n ∷ more → is_child p n.pair ≡ true
    → first_from (open_child (pairs_in ns) p.entry p.node n.function) 0
    (map (tree_below levels final) (filter (λ (m : Note). is_child p m.pair) final))
    ≡ Some (p.node ++ child_count ns p ∷ [])
row_finds final ns more n p levels grown whole child =
    let test : Note → Bool = λ (m : Note). is_child p m.pair in
    let c = child_count ns p in
    let there : slice_get (filter test final) c ≡ Some n =
    ap (λ xs. slice_get (filter test xs) c) whole ∙ filter_here test ns more n child in
    let split : filter test final ≡ filter test ns ++ filter test (n ∷ more) = ap (filter test) whole ∙ filter-append test ns (n ∷ more) in
    first_is (open_child (pairs_in ns) p.entry p.node n.function) (map (tree_below levels final) (filter test final)) (p.node ++ c ∷ [])
    (record {
      index = c;
      item = tree_below levels final n;
      here = get_map (tree_below levels final) (filter test final) c n there;
      gives = untaken (pairs_in ns) p.entry p.node n.function c (tree_below levels final n) (child_unpaired ns p grown)
          (ap (λ f. same_function f n.function) (below_function levels final n) ∙ own_function n.function);
      earlier = λ j t lt at.
          let m = mapped (tree_below levels final) (filter test final) j t at in
          let old : slice_get (filter test ns) j ≡ Some m.item =
          get_first (filter test ns) (filter test (n ∷ more)) j m.item lt (ap (λ xs. slice_get xs j) (sym split) ∙ m.here) in
          taken (pairs_in ns) p.entry p.node n.function j t (child_paired ns p j m.item grown old);
    })

-- once all nodes have pairs, no child is open
row_fails : (final : List Note) (p : Pair) (levels : ℕ) (function : Function) → Grown final
    → first_from (open_child (pairs_in final) p.entry p.node function) 0
    (map (tree_below levels final) (filter (λ (m : Note). is_child p m.pair) final))
    ≡ None
row_fails final p levels function grown =
    let test : Note → Bool = λ (m : Note). is_child p m.pair in
    nothing_first (open_child (pairs_in final) p.entry p.node function) (map (tree_below levels final) (filter test final)) (λ k t at.
    let m = mapped (tree_below levels final) (filter test final) k t at in
    taken (pairs_in final) p.entry p.node function k t (child_paired final p k m.item grown m.here))

-- the search below a node is one over its children
searched : (final : List Note) (q root : Note) (i levels : ℕ) (pairs : List Pair) (function : Function) → Grown final
    → slice_get final i ≡ Some q → slice_get (roots_in final) q.pair.entry ≡ Some root → MOST_LEVELS - length q.pair.node ≡ suc levels
    → open_below pairs function (tree_of final root) q.pair
    ≡ first_from (open_child pairs q.pair.entry q.pair.node function) 0 (map (tree_below levels final) (children_of final q))
searched final q root i levels pairs function grown at tree deep =
    let find : Tree → Option (List ℕ) = λ t. first_from (open_child pairs q.pair.entry q.pair.node function) 0 (children t) in
    ap (option_and_then find) (node_of_tree final q root i grown at tree ∙ ap (λ l. Some (tree_below l final q)) deep)
    ∙ ap (λ (ts : List Tree). first_from (open_child pairs q.pair.entry q.pair.node function) 0 ts) (below_children levels final q)

-- below the parent of a noted node that node is found
opens : (final ns more : List Note) (n q root : Note) (i : ℕ) → Grown final → final ≡ ns ++ n ∷ more → slice_get final i ≡ Some q
    → slice_get (roots_in final) q.pair.entry ≡ Some root → length n.pair.node < MOST_LEVELS → n.pair.entry ≡ q.pair.entry
    → n.pair.node ≡ q.pair.node ++ child_count ns q.pair ∷ []
    → open_below (pairs_in ns) n.function (tree_of final root) q.pair ≡ Some n.pair.node
opens final ns more n q root i grown whole at tree level entry node =
    let c = child_count ns q.pair in
    let long : length n.pair.node ≡ length q.pair.node + 1 = ap length node ∙ length_push q.pair.node c in
    let deep : MOST_LEVELS - length q.pair.node ≡ suc (MOST_LEVELS - length n.pair.node) = omega (arith, long, level) in
    let before : Grown ns = grown_before ns (n ∷ more) (subst Grown whole grown) in
    searched final q root i (MOST_LEVELS - length n.pair.node) (pairs_in ns) n.function grown at tree deep
    ∙ row_finds final ns more n q.pair (MOST_LEVELS - length n.pair.node) before whole (is_child_of q.pair n.pair c entry node)
    ∙ ap (λ (xs : List ℕ). Some xs) (sym node)

-- once all nodes have pairs, nothing is found below a node
closed : (final : List Note) (q root : Note) (i : ℕ) (function : Function) → Grown final → slice_get final i ≡ Some q
    → slice_get (roots_in final) q.pair.entry ≡ Some root
    → open_below (pairs_in final) function (tree_of final root) q.pair ≡ None
closed final q root i function grown at tree =
    let s = split_at final i q at in
    let stands = grown_at final s.before s.after q grown s.whole in
    let deep : MOST_LEVELS - length q.pair.node ≡ suc (MOST_LEVELS - (length q.pair.node + 1)) = omega (arith, stands.level) in
    searched final q root i (MOST_LEVELS - (length q.pair.node + 1)) (pairs_in final) function grown at tree deep
    ∙ row_fails final q.pair (MOST_LEVELS - (length q.pair.node + 1)) function grown

-- ---- the search for a child

-- the state of the run with the recorded entries
abbrev pub marked_by : Terms → AccountId → List Note → List Pair → Marked
marked_by terms source final pairs = record { entries = entries_of terms source final; source = source; pairs = pairs }

-- what is found below the deepest pair, in a tree of the address
abbrev found_below : Bool → (Pair → Option (List ℕ)) → Option Pair → ℕ → Option (ℕ × List ℕ)
found_below b find o index = cond b (option_map (λ (place : List ℕ). (index, place)) (option_and_then find o)) None

below_nothing : (b : Bool) (find : Pair → Option (List ℕ)) (o : Option Pair) (index : ℕ)
    → (b ≡ true → option_and_then find o ≡ None) → found_below b find o index ≡ None
below_nothing true find o index h = ap (option_map (λ (place : List ℕ). (index, place))) (h refl)
below_nothing false find o index h = refl

-- the search in an entry is one in the tree of its root
child_search : (terms other : Terms) (source : AccountId) (final : List Note) (pairs : List Pair) (path : List ℕ) (address : ScAddress)
    (function : Function) (k index : ℕ) (root : Note) → Grown final → slice_get (roots_in final) k ≡ Some root
    → by_child (marked_by terms source final pairs) path address function index
    (entry_of final (credentials_by other source root.address) root)
    ≡ found_below (same_address root.address address) (open_below pairs function (tree_of final root)) (deepest pairs path index) index
child_search terms other source final pairs path address function k index root grown at =
    ap₂ (λ (b : Bool) (t : Tree). found_below b (open_below pairs function t) (deepest pairs path index) index)
    (authorised other source final k root address grown at) (tree_of-invocation (tree_of final root))

-- no node of a tree is above the path, if none is above it among the first trees, and the others have no nodes yet
deepest_none : (ns rest : List Note) (path : List ℕ) (address : ScAddress) (first k : ℕ) (root : Note) → Grown ns
    → NoneAbove ns path address first → (k < length (roots_in ns) → k < first)
    → slice_get (roots_in ns ++ rest) k ≡ Some root → same_address root.address address ≡ true
    → deepest (pairs_in ns) path k ≡ None
deepest_none ns rest path address first k root grown above early at same =
    let go : (o : Option Pair) → deepest (pairs_in ns) path k ≡ o → deepest (pairs_in ns) path k ≡ None =
    λ o. elim o as (λ o. deepest (pairs_in ns) path k ≡ o → deepest (pairs_in ns) path k ≡ None) [
      | None ↦ λ e. e
      | Some p ↦ λ e.
          let d = deepest_is ns path k p e in
          let entry : d.node.pair.entry ≡ k = ap (λ (q : Pair). q.entry) d.pair ∙ d.entry in
          let within : d.node.pair.entry < length (roots_in ns) = entry_below ns d.node d.index grown d.here in
          let below : k < length (roots_in ns) = omega (arith, within, entry) in
          above k root (early below) (get_first (roots_in ns) rest k root below at) same
    ] in
    go (deepest (pairs_in ns) path k) refl

-- such a tree gives no child
child_fails : (terms : Terms) (source : AccountId) (ns : List Note) (n : Note) (more final : List Note) (path : List ℕ) (address : ScAddress)
    (function : Function) (first k : ℕ) (entry : AuthEntry) → Grown final → final ≡ ns ++ n ∷ more
    → NoneAbove ns path address first → (k < length (roots_in ns) → k < first)
    → slice_get (entries_of terms source final) k ≡ Some entry
    → by_child (marked_by terms source final (pairs_in ns)) path address function k entry ≡ None
child_fails terms source ns n more final path address function first k entry grown whole above early at =
    let h = entry_is terms source final (roots_in final) k entry at in
    let before : Grown ns = grown_before ns (n ∷ more) (subst Grown whole grown) in
    let there : slice_get (roots_in ns ++ roots_in (n ∷ more)) k ≡ Some h.root =
    ap (λ rs. slice_get rs k) (sym (ap roots_in whole ∙ roots_append ns n more)) ∙ h.here in
    let find = open_below (pairs_in ns) function (tree_of final h.root) in
    ap (by_child (marked_by terms source final (pairs_in ns)) path address function k) h.is
    ∙ child_search terms h.terms source final (pairs_in ns) path address function k k h.root grown h.here
    ∙ below_nothing (same_address h.root.address address) find (deepest (pairs_in ns) path k) k (λ same.
    ap (option_and_then find) (deepest_none ns (roots_in (n ∷ more)) path address first k h.root before above early there same))

-- ---- the search for a root

abbrev found_root : Bool → Bool → Bool → ℕ → Option (ℕ × List ℕ)
found_root used is_signer is_function index = cond (not used && is_signer && is_function) (Some (index, [])) None

-- a root is found by its address and its function
root_search : (terms other : Terms) (source : AccountId) (final : List Note) (pairs : List Pair) (address : ScAddress) (function : Function)
    (k index : ℕ) (root : Note) → Grown final → slice_get (roots_in final) k ≡ Some root
    → by_root (marked_by terms source final pairs) address function index
    (entry_of final (credentials_by other source root.address) root)
    ≡ found_root (has_pair pairs index) (same_address root.address address) (same_function root.function function) index
root_search terms other source final pairs address function k index root grown at =
    ap₂ (λ (b : Bool) (f : Function). found_root (has_pair pairs index) b (same_function f function) index)
    (authorised other source final k root address grown at) (invoked final root)

-- the trees so far have pairs
root_paired : (ns : List Note) (root : Note) (k : ℕ) → Grown ns → slice_get (roots_in ns) k ≡ Some root → has_pair (pairs_in ns) k ≡ true
root_paired ns root k grown at =
    let h = kept_at _ ns k root at in
    let here : slice_get ns (length h.before) ≡ Some root =
    ap (λ xs. slice_get xs (length h.before)) h.whole ∙ get_here h.before h.after root in
    any_passes_from_place (λ (p : Pair). eqb p.entry k) (pairs_in ns) (length h.before) root.pair (get_map (λ (n : Note). n.pair) ns (length h.before) root here)
    ((Decides-eqb root.pair.entry k).1 (root_at ns root k grown at).0)

-- the next tree has none
root_unpaired : (ns : List Note) → Grown ns → has_pair (pairs_in ns) (length (roots_in ns)) ≡ false
root_unpaired ns grown =
    let k = length (roots_in ns) in
    false_from_ne_true (has_pair (pairs_in ns) k) (λ t.
    let f = any_found (λ (p : Pair). eqb p.entry k) (pairs_in ns) t in
    let m = mapped (λ (n : Note). n.pair) ns f.index f.item f.here in
    let entry : m.item.pair.entry ≡ k = ap (λ (q : Pair). q.entry) m.is ∙ (Decides-eqb f.item.entry k).0 f.passes in
    let below : m.item.pair.entry < k = entry_below ns m.item f.index grown m.here in
    omega (arith, entry, below))

-- a tree that has a pair gives no root
root_fails : (terms : Terms) (source : AccountId) (final : List Note) (pairs : List Pair) (address : ScAddress) (function : Function) (k : ℕ)
    (entry : AuthEntry) → Grown final → slice_get (entries_of terms source final) k ≡ Some entry → has_pair pairs k ≡ true
    → by_root (marked_by terms source final pairs) address function k entry ≡ None
root_fails terms source final pairs address function k entry grown at used =
    let h = entry_is terms source final (roots_in final) k entry at in
    ap (by_root (marked_by terms source final pairs) address function k) h.is
    ∙ root_search terms h.terms source final pairs address function k k h.root grown h.here
    ∙ ap (λ b. found_root b (same_address h.root.address address) (same_function h.root.function function) k) used

-- ---- the choice

-- a node of a tree that is there is found below its parent
child_chosen : (terms : Terms) (source : AccountId) (ns : List Note) (n : Note) (more final : List Note) → Grown final
    → final ≡ ns ++ n ∷ more → length n.pair.node < MOST_LEVELS → IsNewChild ns n
    → first_from (by_child (marked_by terms source final (pairs_in ns)) n.pair.path n.address n.function) 0 (entries_of terms source final)
    ≡ Some (n.pair.entry, n.pair.node)
child_chosen terms source ns n more final grown whole level c =
    let path = n.pair.path in
    let k = n.pair.entry in
    let tree : slice_get (roots_in final) k ≡ Some c.root =
    ap (λ xs. slice_get (roots_in xs) k) whole ∙ root_still ns more n c.root k c.tree in
    let parent_tree : slice_get (roots_in final) c.parent.pair.entry ≡ Some c.root = ap (slice_get (roots_in final)) (sym c.entry) ∙ tree in
    let here : slice_get final c.index ≡ Some c.parent =
    ap (λ xs. slice_get xs c.index) whole ∙ get_left ns (n ∷ more) c.index c.parent c.here in
    let before : Grown ns = grown_before ns (n ∷ more) (subst Grown whole grown) in
    let other = terms_after terms source (take k (roots_in final)) in
    let find = open_below (pairs_in ns) n.function (tree_of final c.root) in
    first_is (by_child (marked_by terms source final (pairs_in ns)) path n.address n.function) (entries_of terms source final) (k, n.pair.node)
    (record {
      index = k;
      item = entry_of final (credentials_by other source c.root.address) c.root;
      here = root_entry terms source final k c.root tree;
      gives = child_search terms other source final (pairs_in ns) path n.address n.function k k c.root grown tree
          ∙ ap₂ (λ (b : Bool) (o : Option Pair). found_below b find o k) c.address c.deep
          ∙ ap (option_map (λ (place : List ℕ). (k, place)))
          (opens final ns more n c.parent c.root c.index grown whole here parent_tree level c.entry c.node);
      earlier = λ j entry lt at.
          child_fails terms source ns n more final path n.address n.function k j entry grown whole c.above (λ _. lt) at;
    })

-- the root of a new tree is found after all children
root_chosen : (terms : Terms) (source : AccountId) (ns : List Note) (n : Note) (more final : List Note) → Grown final
    → final ≡ ns ++ n ∷ more → IsNewRoot ns n
    → first_from (by_root (marked_by terms source final (pairs_in ns)) n.address n.function) 0 (entries_of terms source final)
    ≡ Some (n.pair.entry, n.pair.node)
root_chosen terms source ns n more final grown whole r =
    let k = n.pair.entry in
    let tree : slice_get (roots_in final) k ≡ Some n = ap (λ xs. slice_get (roots_in xs) k) whole ∙ root_here ns more n r in
    let before : Grown ns = grown_before ns (n ∷ more) (subst Grown whole grown) in
    let other = terms_after terms source (take k (roots_in final)) in
    let split : roots_in final ≡ roots_in ns ++ roots_in (n ∷ more) = ap roots_in whole ∙ roots_append ns n more in
    let unused : has_pair (pairs_in ns) k ≡ false = ap (has_pair (pairs_in ns)) r.entry ∙ root_unpaired ns before in
    first_is (by_root (marked_by terms source final (pairs_in ns)) n.address n.function) (entries_of terms source final) (k, n.pair.node)
    (record {
      index = k;
      item = entry_of final (credentials_by other source n.address) n;
      here = root_entry terms source final k n tree;
      gives = root_search terms other source final (pairs_in ns) n.address n.function k k n grown tree
          ∙ ap (λ b. found_root b (same_address n.address n.address) (same_function n.function n.function) k) unused
          ∙ ap₂ (λ (a b : Bool). found_root false a b k) (own_address n.address) (own_function n.function)
          ∙ ap (λ (xs : List ℕ). Some (k, xs)) (sym r.node);
      earlier = λ j entry lt at.
          let h = entry_is terms source final (roots_in final) j entry at in
          let below : j < length (roots_in ns) = omega (arith, lt, r.entry) in
          let there : slice_get (roots_in ns) j ≡ Some h.root =
          get_first (roots_in ns) (roots_in (n ∷ more)) j h.root below (ap (λ rs. slice_get rs j) (sym split) ∙ h.here) in
          root_fails terms source final (pairs_in ns) n.address n.function j entry grown at (root_paired ns h.root j before there);
    })

-- for the root of a new tree no child is found
no_child : (terms : Terms) (source : AccountId) (ns : List Note) (n : Note) (more final : List Note) → Grown final
    → final ≡ ns ++ n ∷ more → IsNewRoot ns n
    → first_from (by_child (marked_by terms source final (pairs_in ns)) n.pair.path n.address n.function) 0 (entries_of terms source final) ≡ None
no_child terms source ns n more final grown whole r =
    nothing_first (by_child (marked_by terms source final (pairs_in ns)) n.pair.path n.address n.function) (entries_of terms source final) (λ k entry at.
    child_fails terms source ns n more final n.pair.path n.address n.function (length (roots_in ns)) k entry grown whole r.above (λ lt. lt) at)

-- each noted node is chosen again, at its own demand
pub next_is_chosen : (terms : Terms) (source : AccountId) (ns : List Note) (n : Note) (more final : List Note) → Grown final
    → final ≡ ns ++ n ∷ more
    → chosen (record { entries = entries_of terms source final; source = source; pairs = pairs_in ns }) n.pair.path n.address n.function
    ≡ Some (n.pair.entry, n.pair.node)
next_is_chosen terms source ns n more final grown whole =
    let s = grown_at final ns more n grown whole in
    let marked = marked_by terms source final (pairs_in ns) in
    let auth = entries_of terms source final in
    elim (stood ns n s) [
      | inl r ↦
          ap (λ o. option_or o (first_from (by_root marked n.address n.function) 0 auth)) (no_child terms source ns n more final grown whole r)
          ∙ root_chosen terms source ns n more final grown whole r
      | inr c ↦
          ap (λ o. option_or o (first_from (by_root marked n.address n.function) 0 auth))
          (child_chosen terms source ns n more final grown whole s.level c)
    ]

-- ---- no choice

-- once all nodes have pairs, no child is found
none_below : (terms : Terms) (source : AccountId) (final : List Note) (path : List ℕ) (address : ScAddress) (function : Function) (k : ℕ)
    (entry : AuthEntry) → Grown final → slice_get (entries_of terms source final) k ≡ Some entry
    → by_child (marked_by terms source final (pairs_in final)) path address function k entry ≡ None
none_below terms source final path address function k entry grown at =
    let h = entry_is terms source final (roots_in final) k entry at in
    let find = open_below (pairs_in final) function (tree_of final h.root) in
    let deep = deepest (pairs_in final) path k in
    let go : (o : Option Pair) → deep ≡ o → option_and_then find o ≡ None =
    λ o. elim o as (λ o. deep ≡ o → option_and_then find o ≡ None) [
      | None ↦ λ e. refl
      | Some p ↦ λ e.
          let d = deepest_is final path k p e in
          let tree : slice_get (roots_in final) d.node.pair.entry ≡ Some h.root =
          ap (slice_get (roots_in final)) (ap (λ (q : Pair). q.entry) d.pair ∙ d.entry) ∙ h.here in
          ap find (sym d.pair) ∙ closed final d.node h.root d.index function grown d.here tree
    ] in
    ap (by_child (marked_by terms source final (pairs_in final)) path address function k) h.is
    ∙ child_search terms h.terms source final (pairs_in final) path address function k k h.root grown h.here
    ∙ below_nothing (same_address h.root.address address) find deep k (λ same. go deep refl)

-- once all nodes have pairs, nothing is chosen
pub none_is_chosen : (terms : Terms) (source : AccountId) (final : List Note) (path : List ℕ) (address : ScAddress) (function : Function)
    → Grown final
    → chosen (record { entries = entries_of terms source final; source = source; pairs = pairs_in final }) path address function ≡ None
none_is_chosen terms source final path address function grown =
    let marked = marked_by terms source final (pairs_in final) in
    let auth = entries_of terms source final in
    ap₂ (λ (a b : Option (ℕ × List ℕ)). option_or a b)
    (nothing_first (by_child marked path address function) auth (λ k entry at.
    none_below terms source final path address function k entry grown at))
    (nothing_first (by_root marked address function) auth (λ k entry at.
    let h = entry_is terms source final (roots_in final) k entry at in
    root_fails terms source final (pairs_in final) address function k entry grown at (root_paired final h.root k grown h.here)))
