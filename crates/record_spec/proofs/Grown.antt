-- Lists of nodes as a recorder makes them: each node stands where the nodes before it put it.
use Rattle.std.proofs.Common.{◌≡◌, ℕ, suc, ◌+◌, ◌<◌, Bool, true, false, cond, ◌&&◌, eqb, List, [], ◌∷◌, ◌++◌, length, take}
use Rattle.std.proofs.Common.{filter, fold, Option, Some, None, option_map, slice_get, nat_lt, ◌⊎◌, inl, inr, refl, sym, ap, ap₂}
use Rattle.std.proofs.Common.{◌∙◌, subst, append_assoc, arith}
use Rattle.std.specs.List.{starts_with}
use Rattle.std.specs.Option.{unwrap_or}
use Rattle.std.proofs.lemmas.Option.{same_Some, slice_get_within}
use Rattle.std.proofs.lemmas.Bool.{and_parts, and_from}
use Rattle.std.proofs.lemmas.Bool.Decides.{Decides-eqb, Decides-ltb}
use Rattle.std.proofs.lemmas.List.{append-nil, length_push, take_at}
use Rattle.std.proofs.lemmas.List.Elements.{filter-append}
use Rattle.std.proofs.lemmas.List.Sums.{length-filter}
use Rattle.std.proofs.lemmas.Slice.Eq.{bytes_eq-Decides}
use Rattle.value_types.specs.declared.address.ScAddress.{ScAddress}
use Rattle.invoke_types.specs.declared.function.Function.{Function}
use Rattle.auth_spec.specs.Pairs.{Pair, is_below, deeper, deepest}
use Rattle.auth_spec.specs.Demands.{same_address, creates_asset, is_caller, is_root, ByNote, ByCaller, ByNothing}
use Rattle.auth_spec.specs.Noted.{Note, MOST_LEVELS, pairs_in, roots_in, is_child, last_child, below_noted, new_place, noted_at}
use Rattle.auth_spec.specs.Noted.{noting, is_account, with_note}
use Rattle.list_laws.proofs.Lemmas.{get_left, get_right}
use Rattle.record_spec.proofs.Lists.{split_at, mapped, filter_here, kept_at, First, fails, finds, search_first}
use Rattle.record_spec.proofs.Lists.{first_is, nothing_first}

-- ---- what it is

-- The node stands where a demand of its path and address is noted. It is an account's, and creates no asset.
pub record Stands (before : List Note) (n : Note) : Type 0 where
  pub place : (n.pair.entry, n.pair.node) ≡ new_place before n.pair.path n.address
  pub level : length n.pair.node < MOST_LEVELS
  pub account : is_account n.address ≡ true
  pub plain : creates_asset n.function ≡ false

-- the nodes behind others
abbrev pub GrownFrom : List Note → List Note → Type 0
GrownFrom before [] = Unit {0}
GrownFrom before (n ∷ more) = Stands before n × GrownFrom (before ++ n ∷ []) more

abbrev pub Grown : List Note → Type 0
Grown notes = GrownFrom [] notes

-- ---- parts of such a list

grown_at_from : (start before after : List Note) (n : Note) → GrownFrom start (before ++ n ∷ after) → Stands (start ++ before) n
grown_at_from start [] after n h = subst (λ ns. Stands ns n) (sym (append-nil start)) h.0
grown_at_from start (m ∷ before) after n h =
    subst (λ ns. Stands ns n) (append_assoc start (m ∷ []) before) (grown_at_from (start ++ m ∷ []) before after n h.1)

grown_before_from : (start ns more : List Note) → GrownFrom start (ns ++ more) → GrownFrom start ns
grown_before_from start [] more h = tt
grown_before_from start (n ∷ ns) more h = (h.0, grown_before_from (start ++ n ∷ []) ns more h.1)

grown_push_from : (start ns : List Note) (n : Note) → GrownFrom start ns → Stands (start ++ ns) n → GrownFrom start (ns ++ n ∷ [])
grown_push_from start [] n h s = (subst (λ ns. Stands ns n) (append-nil start) s, tt)
grown_push_from start (m ∷ ns) n h s =
    (h.0, grown_push_from (start ++ m ∷ []) ns n h.1 (subst (λ ns. Stands ns n) (sym (append_assoc start (m ∷ []) ns)) s))

-- the first nodes have grown
pub grown_before : (ns more : List Note) → Grown (ns ++ more) → Grown ns
grown_before ns more h = grown_before_from [] ns more h

-- each node stands where those before it put it
pub grown_at : (ns before after : List Note) (n : Note) → Grown ns → ns ≡ before ++ n ∷ after → Stands before n
grown_at ns before after n h e = grown_at_from [] before after n (subst Grown e h)

-- ---- one demand more

-- a new node at a place
grown_noted : (notes : List Note) (path : List ℕ) (address : ScAddress) (function : Function) (place : ℕ × List ℕ) (b : Bool)
    → place ≡ new_place notes path address → nat_lt (length place.1) MOST_LEVELS ≡ b → is_account address ≡ true → Grown notes
    → creates_asset function ≡ false
    → Grown (with_note path address function (cond b (ByNote place.0 place.1) ByNothing) notes)
grown_noted notes path address function place true e less account h plain =
    grown_push_from [] notes (record { address = address; function = function; pair = record { entry = place.0; node = place.1; path = path } }) h
    (record { place = e; level = (Decides-ltb (length place.1) MOST_LEVELS).0 less; account = account; plain = plain })
grown_noted notes path address function place false e less account h plain = h

grown_account : (notes : List Note) (path : List ℕ) (address : ScAddress) (function : Function) (b : Bool)
    → is_account address ≡ b → Grown notes → creates_asset function ≡ false
    → Grown (with_note path address function (cond b (noted_at (new_place notes path address)) ByNothing) notes)
grown_account notes path address function true account h plain =
    grown_noted notes path address function (new_place notes path address) (nat_lt (length (new_place notes path address).1) MOST_LEVELS)
    refl refl account h plain
grown_account notes path address function false account h plain = h

grown_caller : (notes : List Note) (path : List ℕ) (address : ScAddress) (function : Function) (b : Bool) → Grown notes
    → creates_asset function ≡ false
    → Grown (with_note path address function
    (cond b ByCaller (cond (is_account address) (noted_at (new_place notes path address)) ByNothing)) notes)
grown_caller notes path address function true h plain = h
grown_caller notes path address function false h plain =
    grown_account notes path address function (is_account address) refl h plain

-- what a demand leaves has grown
pub grown_next : (notes : List Note) (path : List ℕ) (caller : Option ScAddress) (address : ScAddress) (function : Function)
    → Grown notes → creates_asset function ≡ false
    → Grown (with_note path address function (noting notes path caller address) notes)
grown_next notes path caller address function h plain = grown_caller notes path address function (is_caller address caller) h plain

-- ---- the deepest pair is one of the pairs

deeper_is : (o : Option Pair) (q p : Pair) → deeper o q ≡ Some p → (o ≡ Some p) ⊎ (q ≡ p)
deeper_is None q p e = inr (same_Some q p e)
deeper_is (Some best) q p e =
    let go : (b : Bool) → cond b (Some best) (Some q) ≡ Some p → (Some best ≡ Some p) ⊎ (q ≡ p) =
    λ b. elim b as (λ b. cond b (Some best) (Some q) ≡ Some p → (Some best ≡ Some p) ⊎ (q ≡ p)) [
      | true ↦ λ e. inl e
      | false ↦ λ e. inr (same_Some q p e)
    ] in
    go (nat_lt (length q.path) (length best.path)) e

fold_is : (o : Option Pair) (ps : List Pair) (p : Pair) → fold deeper o ps ≡ Some p → (o ≡ Some p) ⊎ ((i : ℕ) × (slice_get ps i ≡ Some p))
fold_is o [] p e = inl e
fold_is o (q ∷ ps) p e =
    elim (fold_is (deeper o q) ps p e) [
      | inl h ↦ elim (deeper_is o q p h) [ inl k ↦ inl k | inr k ↦ inr (0, ap Some k) ]
      | inr h ↦ inr (suc h.0, h.1)
    ]

-- a node whose pair is the deepest one
pub record IsDeepest (ns : List Note) (path : List ℕ) (tree : ℕ) (p : Pair) : Type 0 where
  pub index : ℕ
  pub node : Note
  pub here : slice_get ns index ≡ Some node
  pub pair : node.pair ≡ p
  pub entry : p.entry ≡ tree

deepest_at : (ns : List Note) (path : List ℕ) (tree : ℕ) (p : Pair) (i : ℕ)
    → slice_get (filter (λ (pair : Pair). eqb pair.entry tree && is_below path pair.path) (pairs_in ns)) i ≡ Some p
    → IsDeepest ns path tree p
deepest_at ns path tree p i at =
    let test : Pair → Bool = λ pair. eqb pair.entry tree && is_below path pair.path in
    let kept = kept_at test (pairs_in ns) i p at in
    let here : slice_get (pairs_in ns) (length kept.before) ≡ Some p =
    ap (λ ps. slice_get ps (length kept.before)) kept.whole
    ∙ (let none_more : length kept.before ≡ length kept.before + 0 = omega arith in get_right kept.before (p ∷ kept.after) (length kept.before) 0 none_more) in
    let m = mapped (λ (n : Note). n.pair) ns (length kept.before) p here in
    record {
      index = length kept.before;
      node = m.item;
      here = m.here;
      pair = m.is;
      entry = (Decides-eqb p.entry tree).0 (and_parts (eqb p.entry tree) (is_below path p.path) kept.passes).0;
    }

-- the deepest pair is one of a node
pub deepest_is : (ns : List Note) (path : List ℕ) (tree : ℕ) (p : Pair) → deepest (pairs_in ns) path tree ≡ Some p → IsDeepest ns path tree p
deepest_is ns path tree p e =
    elim (fold_is None (filter (λ (pair : Pair). eqb pair.entry tree && is_below path pair.path) (pairs_in ns)) p e) [
      | inl h ↦ absurd cc
      | inr h ↦ deepest_at ns path tree p h.0 h.1
    ]

-- ---- a new place

-- no tree has a node above this path for the address
abbrev pub NoneAbove : List Note → List ℕ → ScAddress → ℕ → Type 0
NoneAbove before path address below =
    (k : ℕ) (root : Note) → k < below → slice_get (roots_in before) k ≡ Some root → same_address root.address address ≡ true
    → deepest (pairs_in before) path k ≡ None

-- the root of a new tree
pub record IsNewRoot (before : List Note) (n : Note) : Type 0 where
  pub entry : n.pair.entry ≡ length (roots_in before)
  pub node : n.pair.node ≡ []
  pub above : NoneAbove before n.pair.path n.address (length (roots_in before))

-- how many children a node has
abbrev pub child_count : List Note → Pair → ℕ
child_count notes parent = length (filter (λ (n : Note). is_child parent n.pair) notes)

-- a new last child of a node in a tree of its address
pub record IsNewChild (before : List Note) (n : Note) : Type 0 where
  pub root : Note
  pub tree : slice_get (roots_in before) n.pair.entry ≡ Some root
  pub address : same_address root.address n.address ≡ true
  pub index : ℕ
  pub parent : Note
  pub here : slice_get before index ≡ Some parent
  pub deep : deepest (pairs_in before) n.pair.path n.pair.entry ≡ Some parent.pair
  pub entry : n.pair.entry ≡ parent.pair.entry
  pub node : n.pair.node ≡ parent.pair.node ++ child_count before parent.pair ∷ []
  pub above : NoneAbove before n.pair.path n.address n.pair.entry

none_above : (b : Bool) {A B : Type 0} (f : A → B) (o : Option A) → cond b (option_map f o) None ≡ None → b ≡ true → o ≡ None
none_above true f None e t = refl
none_above true f (Some x) e t = absurd cc
none_above false f o e t = absurd cc

some_above : (b : Bool) {A B : Type 0} (f : A → B) (o : Option A) (v : B) → cond b (option_map f o) None ≡ Some v
    → (b ≡ true) × ((x : A) × ((o ≡ Some x) × (f x ≡ v)))
some_above true f None v e = absurd cc
some_above true f (Some x) v e = (refl, (x, (refl, same_Some (f x) v e)))
some_above false f o v e = absurd cc

new_root : (before : List Note) (n : Note) → Stands before n
    → ((k : ℕ) (root : Note) → slice_get (roots_in before) k ≡ Some root → below_noted before n.pair.path n.address k root ≡ None)
    → IsNewRoot before n
new_root before n s h =
    let place : (n.pair.entry, n.pair.node) ≡ (length (roots_in before), []) =
    s.place ∙ ap (λ o. unwrap_or o (length (roots_in before), [])) (nothing_first (below_noted before n.pair.path n.address) (roots_in before) h) in
    record {
      entry = ap (λ (x : ℕ × List ℕ). x.0) place;
      node = ap (λ (x : ℕ × List ℕ). x.1) place;
      above = λ k root lt at same.
          none_above (same_address root.address n.address) (last_child before) (deepest (pairs_in before) n.pair.path k) (h k root at) same;
    }

new_child : (before : List Note) (n : Note) (v : ℕ × List ℕ) → Stands before n
    → First (below_noted before n.pair.path n.address) (roots_in before) v → IsNewChild before n
new_child before n v s h =
    let path = n.pair.path in
    let place : (n.pair.entry, n.pair.node) ≡ v =
    s.place ∙ ap (λ o. unwrap_or o (length (roots_in before), [])) (first_is (below_noted before path n.address) (roots_in before) v h) in
    let found = some_above (same_address h.item.address n.address) (last_child before) (deepest (pairs_in before) path h.index) v h.gives in
    let p = found.1.0 in
    let deep : deepest (pairs_in before) path h.index ≡ Some p = found.1.1.0 in
    let d = deepest_is before path h.index p deep in
    let stands : (n.pair.entry, n.pair.node) ≡ last_child before p = place ∙ sym found.1.1.1 in
    let entry : n.pair.entry ≡ p.entry = ap (λ (x : ℕ × List ℕ). x.0) stands in
    let tree : n.pair.entry ≡ h.index = entry ∙ d.entry in
    record {
      root = h.item;
      tree = ap (slice_get (roots_in before)) tree ∙ h.here;
      address = found.0;
      index = d.index;
      parent = d.node;
      here = d.here;
      deep = ap (deepest (pairs_in before) path) tree ∙ deep ∙ ap Some (sym d.pair);
      entry = entry ∙ ap (λ (q : Pair). q.entry) (sym d.pair);
      node = ap (λ (x : ℕ × List ℕ). x.1) stands
          ∙ ap (λ (c : ℕ). p.node ++ c ∷ []) (sym (length-filter (λ (m : Note). is_child p m.pair) before))
          ∙ ap (λ (q : Pair). q.node ++ child_count before q ∷ []) (sym d.pair);
      above = λ k root lt at same.
          none_above (same_address root.address n.address) (last_child before) (deepest (pairs_in before) path k)
          (h.earlier k root (subst (λ t. k < t) tree lt) at) same;
    }

-- a node is the root of a new tree, or a new last child
pub stood : (before : List Note) (n : Note) → Stands before n → IsNewRoot before n ⊎ IsNewChild before n
stood before n s =
    elim (search_first (below_noted before n.pair.path n.address) (roots_in before)) [
      | fails h ↦ inl (new_root before n s h)
      | finds v h ↦ inr (new_child before n v s h)
    ]

-- ---- roots

-- a place with an index of a child is no root's
pub not_root : (xs : List ℕ) (k : ℕ) → is_root (xs ++ k ∷ []) ≡ false
not_root [] k = refl
not_root (x ∷ xs) k = refl

-- the roots of two lists of nodes
pub roots_append : (before : List Note) (n : Note) (after : List Note) → roots_in (before ++ n ∷ after) ≡ roots_in before ++ roots_in (n ∷ after)
roots_append before n after = filter-append (λ (n : Note). is_root n.pair.node) before (n ∷ after)

-- a new root is the next one
pub root_here : (before after : List Note) (n : Note) → IsNewRoot before n → slice_get (roots_in (before ++ n ∷ after)) n.pair.entry ≡ Some n
root_here before after n h =
    ap (slice_get (roots_in (before ++ n ∷ after))) h.entry
    ∙ filter_here (λ (n : Note). is_root n.pair.node) before after n (ap is_root h.node)

-- a root of the nodes before is a root still
pub root_still : (before after : List Note) (n root : Note) (k : ℕ) → slice_get (roots_in before) k ≡ Some root
    → slice_get (roots_in (before ++ n ∷ after)) k ≡ Some root
root_still before after n root k at =
    ap (λ rs. slice_get rs k) (roots_append before n after) ∙ get_left (roots_in before) (roots_in (n ∷ after)) k root at

-- the tree of each node has a root
pub entry_below : (ns : List Note) (m : Note) (i : ℕ) → Grown ns → slice_get ns i ≡ Some m → m.pair.entry < length (roots_in ns)
entry_below ns m i grown at =
    let h = split_at ns i m at in
    let same : length (roots_in (h.before ++ m ∷ h.after)) ≡ length (roots_in ns) = ap (λ xs. length (roots_in xs)) (sym h.whole) in
    let below : m.pair.entry < length (roots_in (h.before ++ m ∷ h.after)) =
    elim (stood h.before m (grown_at ns h.before h.after m grown h.whole)) [
      | inl r ↦ slice_get_within (roots_in (h.before ++ m ∷ h.after)) m.pair.entry m (root_here h.before h.after m r)
      | inr c ↦ slice_get_within (roots_in (h.before ++ m ∷ h.after)) m.pair.entry c.root (root_still h.before h.after m c.root m.pair.entry c.tree)
    ] in
    omega (arith, same, below)

-- the roots are numbered
pub root_at : (ns : List Note) (root : Note) (k : ℕ) → Grown ns → slice_get (roots_in ns) k ≡ Some root
    → (root.pair.entry ≡ k) × (root.pair.node ≡ [])
root_at ns root k grown at =
    let h = kept_at (λ (n : Note). is_root n.pair.node) ns k root at in
    elim (stood h.before root (grown_at ns h.before h.after root grown h.whole)) [
      | inl r ↦ (r.entry ∙ sym h.index, r.node)
      | inr c ↦ absurd (let no : is_root root.pair.node ≡ false = ap is_root c.node ∙ not_root c.parent.pair.node (child_count h.before c.parent.pair) in
          let yes = h.passes in cc)
    ]

-- ---- children

-- the second pair is of a child of the first pair's node
pub record ChildOf (p c : Pair) : Type 0 where
  pub entry : c.entry ≡ p.entry
  pub front : p.node ≡ take (length p.node) c.node
  pub long : length c.node ≡ length p.node + 1

pub child_parts : (p c : Pair) → is_child p c ≡ true → ChildOf p c
child_parts p c e =
    let both = and_parts (eqb c.entry p.entry && starts_with eqb c.node p.node) (eqb (length c.node) (length p.node + 1)) e in
    let first = and_parts (eqb c.entry p.entry) (starts_with eqb c.node p.node) both.0 in
    record {
      entry = (Decides-eqb c.entry p.entry).0 first.0;
      front = (bytes_eq-Decides p.node (take (length p.node) c.node)).0 first.1;
      long = (Decides-eqb (length c.node) (length p.node + 1)).0 both.1;
    }

pub is_child_of : (p c : Pair) (k : ℕ) → c.entry ≡ p.entry → c.node ≡ p.node ++ k ∷ [] → is_child p c ≡ true
is_child_of p c k entry node =
    let front : p.node ≡ take (length p.node) c.node =
    sym (ap (take (length p.node)) node ∙ take_at p.node (k ∷ []) (length p.node) refl) in
    let long : length c.node ≡ length p.node + 1 = ap length node ∙ length_push p.node k in
    and_from (eqb c.entry p.entry && starts_with eqb c.node p.node) (eqb (length c.node) (length p.node + 1))
    (and_from (eqb c.entry p.entry) (starts_with eqb c.node p.node) ((Decides-eqb c.entry p.entry).1 entry)
    ((bytes_eq-Decides p.node (take (length p.node) c.node)).1 front))
    ((Decides-eqb (length c.node) (length p.node + 1)).1 long)

-- the children of a node are numbered
pub child_at : (ns before after : List Note) (m : Note) (p : Pair) → Grown ns → ns ≡ before ++ m ∷ after → is_child p m.pair ≡ true
    → m.pair.node ≡ p.node ++ child_count before p ∷ []
child_at ns before after m p grown whole child =
    let parts = child_parts p m.pair child in
    elim (stood before m (grown_at ns before after m grown whole)) [
      | inl r ↦ absurd (let none : length m.pair.node ≡ 0 = ap length r.node in omega (arith, none, parts.long))
      | inr c ↦
          let q = c.parent.pair in
          let k = child_count before q in
          let long : length m.pair.node ≡ length q.node + 1 = ap length c.node ∙ length_push q.node k in
          let same_length : length q.node ≡ length p.node = omega (arith, long, parts.long) in
          let node : q.node ≡ p.node = sym (parts.front ∙ ap (take (length p.node)) c.node ∙ take_at q.node (k ∷ []) (length p.node) same_length) in
          let entry : q.entry ≡ p.entry = sym c.entry ∙ parts.entry in
          let count : child_count before q ≡ child_count before p =
          ap₂ (λ (e : ℕ) (xs : List ℕ). child_count before (record { entry = e; node = xs; path = [] })) entry node in
          c.node ∙ ap₂ (λ (xs : List ℕ) (n : ℕ). xs ++ n ∷ []) node count
    ]
