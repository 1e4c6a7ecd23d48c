-- The steps of the program's walks over rows of nodes and over entries.
use Rattle.std.proofs.Common.{◌≡◌, ℕ, suc, ◌+◌, ◌<◌, ◌≤◌, Bool, true, false, cond, not, ◌&&◌, List, [], ◌∷◌, length, map, drop, get_or, Option, Some, None, slice_get, refl, sym, ap, ap₂, ◌∙◌, subst, arith}
use Rattle.std.specs.Option.{option_or, option_map, option_and_then}
use Rattle.std.proofs.lemmas.Option.{same_Some, slice_get_within, slice_get-get_or}
use Rattle.std.proofs.lemmas.List.{drop_more, drop_all, get_or-map, get_or_default, length-map}
use Rattle.invoke_types.specs.declared.function.Function.{Function}
use Rattle.auth_types.specs.Tree.{Tree, size}
use Rattle.auth_types.specs.Views.{tree_of, forest_of}
use Rattle.auth_types.specs.declared.invocation.Invocation.{Invocation}
use Rattle.auth_trees.specs.declared.nodes.Node.{Node}
use Rattle.auth_spec.specs.Demands.{same_function, first_from, children}
use Rattle.auth_trees.specs.Listed.{Kept, kept, kept_of, roots}
use Rattle.auth_types.specs.declared.auth_entry.AuthEntry.{AuthEntry}
use Rattle.auth_types.specs.Tree.{trees_of}
use Rattle.auth_types.specs.InvocationLaws.{trees_there}
use Rattle.value_types.specs.declared.address.ScAddress.{ScAddress}
use Rattle.auth_trees.specs.declared.tables.Deepest.{Deepest}
use Rattle.auth_trees.specs.declared.tables.Tables.{Tables}
use Rattle.auth_trees.specs.declared.search.Found.{Found}
use Rattle.auth_trees.specs.Flat.{IsRowAt, first_open, is_known, open_below, child_in, root_in}
use Rattle.auth_trees.specs.Ready.{IsReady, HaveChildren}
use Rattle.auth_trees.proofs.Spots.{children_row, roots_row}

-- the kept node at an index
pub node_is : (nodes : List Node) (id : ℕ) (n : Node) (k : Kept) → slice_get (map kept nodes) id ≡ Some k → n ≡ get_or nodes id n → kept n ≡ k
node_is nodes id n k e r =
    let lt : id < length nodes = omega (arith, slice_get_within (map kept nodes) id k e, length-map nodes kept) in
    let long : id < length (map kept nodes) = slice_get_within (map kept nodes) id k e in
    ap kept r ∙ sym (get_or-map kept nodes id n k lt) ∙ same_Some _ _ (sym (slice_get-get_or (map kept nodes) id k long) ∙ e)

chosen_there : (b : Bool) (o p answer : Option ℕ) → cond b o p ≡ answer → b ≡ true → o ≡ answer
chosen_there b o p answer e t = ap (λ x. cond x o p) (sym t) ∙ e

passed_by : (b : Bool) (o p answer : Option ℕ) → cond b o p ≡ answer → b ≡ false → p ≡ answer
passed_by b o p answer e f = ap (λ x. cond x o p) (sym f) ∙ e

-- the first tree of the rest is the answer
pub found_here : (taken : List Bool) (f : Function) (id : ℕ) (i : Invocation) (is : List Invocation) (answer : Option ℕ)
    → first_open taken f id (forest_of (i ∷ is)) ≡ answer → (not (get_or taken id false) && same_function i.function f) ≡ true → Some id ≡ answer
unfolding first_open
found_here taken f id i is answer e t = chosen_there _ _ _ answer e t

pub not_here : (taken : List Bool) (f : Function) (id : ℕ) (i : Invocation) (is : List Invocation) (answer : Option ℕ)
    → first_open taken f id (forest_of (i ∷ is)) ≡ answer → (not (get_or taken id false) && same_function i.function f) ≡ false
    → first_open taken f (id + size (tree_of i)) (forest_of is) ≡ answer
unfolding first_open
not_here taken f id i is answer e t = passed_by _ _ _ answer e t

pub none_left : (taken : List Bool) (f : Function) (id : ℕ) (answer : Option ℕ) → first_open taken f id [] ≡ answer → None ≡ answer
unfolding first_open
none_left taken f id answer e = e

-- what is known of the tree at which the program's walk stands
pub record Next (nodes : List Node) (taken : List Bool) (f : Function) (id : ℕ) (i : Invocation) (is : List Invocation) (answer : Option ℕ) : Type 0 where
  pub here : slice_get (map kept nodes) id ≡ Some (kept_of (tree_of i))
  pub fits : id + size (tree_of i) ≤ length nodes
  pub row : IsRowAt (map kept nodes) (id + size (tree_of i)) (forest_of is)
  pub whole : first_open taken f id (forest_of (i ∷ is)) ≡ answer

pub next_of : (nodes : List Node) (taken : List Bool) (f : Function) (id : ℕ) (row : List Invocation) (k : ℕ) (i : Invocation) (answer : Option ℕ)
    → k < length row → i ≡ get_or row k i → IsRowAt (map kept nodes) id (forest_of (drop k row)) → first_open taken f id (forest_of (drop k row)) ≡ answer
    → Next nodes taken f id i (drop (k + 1) row) answer
next_of nodes taken f id row k i answer lt is at same =
    let split : drop k row ≡ i ∷ drop (k + 1) row = drop_more row k i lt ∙ ap (λ (x : Invocation). x ∷ drop (k + 1) row) (sym is) in
    let h : IsRowAt (map kept nodes) id (forest_of (i ∷ drop (k + 1) row)) = subst (λ (xs : List Invocation). IsRowAt (map kept nodes) id (forest_of xs)) split at in
    record {
      here = h.0;
      fits = omega (arith, h.1, length-map nodes kept);
      row = h.2;
      whole = subst (λ (xs : List Invocation). first_open taken f id (forest_of xs) ≡ answer) split same;
    }

-- the size of the kept node at an index
pub size_is : (nodes : List Node) (id : ℕ) (n : Node) (t : Tree) → slice_get (map kept nodes) id ≡ Some (kept_of t) → n ≡ get_or nodes id n → (get_or nodes id n).size ≡ size t
size_is nodes id n t e r = ap (λ (m : Node). m.size) (sym r) ∙ ap (λ (k : Kept). k.size) (node_is nodes id n (kept_of t) e r)

-- ---- the rows that the tables have

pub have_children : (t : Tables) → IsReady t → HaveChildren (map kept t.nodes.items)
have_children t ready = subst (λ (ks : List Kept). HaveChildren ks) (sym ready.nodes) (children_row (trees_of (roots t.entries.now)))

pub have_roots : (t : Tables) → IsReady t → IsRowAt (map kept t.nodes.items) 0 (roots t.entries.now)
have_roots t ready = subst (λ (ks : List Kept). IsRowAt ks 0 (roots t.entries.now)) (sym ready.nodes) (roots_row (roots t.entries.now))

-- ---- below the deepest node

pub row_below : (nodes : List Node) (taken : List Bool) (f : Function) (best : Deepest) (n : Node) (row : List Tree) → best.node < length nodes → n ≡ get_or nodes best.node n
    → row ≡ n.tree.now.sub_invocations → HaveChildren (map kept nodes) → IsRowAt (map kept nodes) (suc best.node) row
row_below nodes taken f best n row within is same rows =
    let long : best.node < length (map kept nodes) = omega (arith, length-map nodes kept) in
    let there : slice_get (map kept nodes) best.node ≡ Some (kept n) =
    slice_get-get_or (map kept nodes) best.node (kept n) long ∙ ap Some (get_or-map kept nodes best.node n (kept n) within ∙ ap kept (sym is)) in
    subst (λ (ts : List Tree). IsRowAt (map kept nodes) (suc best.node) ts) (trees_there n.tree.now.sub_invocations ∙ sym same) (rows best.node (kept n) there)

pub is_below_it : (nodes : List Node) (taken : List Bool) (f : Function) (best : Deepest) (n : Node) (row : List Tree) → best.node < length nodes → n ≡ get_or nodes best.node n
    → row ≡ n.tree.now.sub_invocations → first_open taken f (suc best.node) row ≡ open_below (map kept nodes) taken f best
unfolding open_below
is_below_it nodes taken f best n row within is same =
    let long : best.node < length (map kept nodes) = omega (arith, length-map nodes kept) in
    let there : slice_get (map kept nodes) best.node ≡ Some (kept n) =
    slice_get-get_or (map kept nodes) best.node (kept n) long ∙ ap Some (get_or-map kept nodes best.node n (kept n) within ∙ ap kept (sym is)) in
    ap (first_open taken f (suc best.node)) (same ∙ sym (trees_there n.tree.now.sub_invocations))
    ∙ sym (ap (option_and_then (λ (k : Kept). first_open taken f (suc best.node) (children k.tree))) there)

-- ---- the child of an entry

pub unknown : (nodes : List Kept) (taken : List Bool) (deepest : List (Option Deepest)) (address : ScAddress) (f : Function) (entry : ℕ) (known : Option ScAddress)
    → is_known address known ≡ false → None ≡ child_in nodes taken deepest address f entry known
unfolding child_in
unknown nodes taken deepest address f entry known e =
    sym (ap (λ b. cond b (option_map (λ id. record { entry = entry; node = id; first = false }) (option_and_then (open_below nodes taken f) (get_or deepest entry None))) None) e)

pub known_in : (nodes : List Kept) (taken : List Bool) (deepest : List (Option Deepest)) (address : ScAddress) (f : Function) (entry : ℕ) (known : Option ScAddress) (best : Option Deepest)
    → is_known address known ≡ true → get_or deepest entry None ≡ best
    → option_map (λ id. record { entry = entry; node = id; first = false }) (option_and_then (open_below nodes taken f) best) ≡ child_in nodes taken deepest address f entry known
unfolding child_in
known_in nodes taken deepest address f entry known best e d =
    ap (λ (o : Option Deepest). option_map (λ id. record { entry = entry; node = id; first = false }) (option_and_then (open_below nodes taken f) o)) (sym d)
    ∙ sym (ap (λ b. cond b (option_map (λ id. record { entry = entry; node = id; first = false }) (option_and_then (open_below nodes taken f) (get_or deepest entry None))) None) e)

nothing_of : (b : Bool) (o : Option Found) → o ≡ None → cond b o None ≡ None
nothing_of true o e = e
nothing_of false o e = refl

pub no_deepest : (nodes : List Kept) (taken : List Bool) (deepest : List (Option Deepest)) (address : ScAddress) (f : Function) (entry : ℕ) (known : Option ScAddress)
    → get_or deepest entry None ≡ None → child_in nodes taken deepest address f entry known ≡ None
unfolding child_in
no_deepest nodes taken deepest address f entry known none =
    nothing_of (is_known address known) (option_map (λ id. record { entry = entry; node = id; first = false }) (option_and_then (open_below nodes taken f) (get_or deepest entry None)))
    (ap (λ (o : Option Deepest). option_map (λ id. record { entry = entry; node = id; first = false }) (option_and_then (open_below nodes taken f) o)) none)

pub no_child : (nodes : List Kept) (taken : List Bool) (deepest : List (Option Deepest)) (address : ScAddress) (f : Function) (j : ℕ) (xs : List (Option ScAddress))
    → ((k : ℕ) → k < length xs → get_or deepest (j + k) None ≡ None) → first_from (child_in nodes taken deepest address f) j xs ≡ None
no_child nodes taken deepest address f j [] none = refl
no_child nodes taken deepest address f j (x ∷ xs) none =
    let now : j + 0 ≡ j = omega arith in
    let here : get_or deepest j None ≡ None = subst (λ n. get_or deepest n None ≡ None) now (none 0 (omega arith)) in
    ap (λ (o : Option Found). option_or o (first_from (child_in nodes taken deepest address f) (suc j) xs)) (no_deepest nodes taken deepest address f j x here)
    ∙ no_child nodes taken deepest address f (suc j) xs (λ k lt.
    let later : j + suc k ≡ suc j + k = omega arith in subst (λ n. get_or deepest n None ≡ None) later (none (suc k) (omega (arith, lt))))

-- ---- the first of all

pub first_next : {A B : Type 0} (f : ℕ → A → Option B) (xs : List A) (k : ℕ) (x : A) → k < length xs → x ≡ get_or xs k x
    → first_from f k (drop k xs) ≡ option_or (f k x) (first_from f (k + 1) (drop (k + 1) xs))
first_next f xs k x lt is =
    let next : suc k ≡ k + 1 = omega arith in
    ap (first_from f k) (drop_more xs k x lt ∙ ap (λ y. y ∷ drop (k + 1) xs) (sym is)) ∙ ap (λ n. option_or (f k x) (first_from f n (drop (k + 1) xs))) next

pub first_here : {A B : Type 0} (f : ℕ → A → Option B) (xs : List A) (k : ℕ) (x : A) (y : B) (answer : Option B) → k < length xs → x ≡ get_or xs k x
    → first_from f k (drop k xs) ≡ answer → Some y ≡ f k x → Some y ≡ answer
first_here f xs k x y answer lt is so h = ap (λ o. option_or o (first_from f (k + 1) (drop (k + 1) xs))) h ∙ sym (first_next f xs k x lt is) ∙ so

pub first_later : {A B : Type 0} (f : ℕ → A → Option B) (xs : List A) (k : ℕ) (x : A) (answer : Option B) → k < length xs → x ≡ get_or xs k x
    → first_from f k (drop k xs) ≡ answer → None ≡ f k x → first_from f (k + 1) (drop (k + 1) xs) ≡ answer
first_later f xs k x answer lt is so h = ap (λ o. option_or o (first_from f (k + 1) (drop (k + 1) xs))) h ∙ sym (first_next f xs k x lt is) ∙ so

pub first_here_at : {A B : Type 0} (f : ℕ → A → Option B) (xs : List A) (k : ℕ) (d : A) (y : B) (answer : Option B) → k < length xs
    → first_from f k (drop k xs) ≡ answer → Some y ≡ f k (get_or xs k d) → Some y ≡ answer
first_here_at f xs k d y answer lt so h = first_here f xs k (get_or xs k d) y answer lt (get_or_default xs k d (get_or xs k d) lt) so h

pub first_later_at : {A B : Type 0} (f : ℕ → A → Option B) (xs : List A) (k : ℕ) (d : A) (answer : Option B) → k < length xs
    → first_from f k (drop k xs) ≡ answer → None ≡ f k (get_or xs k d) → first_from f (k + 1) (drop (k + 1) xs) ≡ answer
first_later_at f xs k d answer lt so h = first_later f xs k (get_or xs k d) answer lt (get_or_default xs k d (get_or xs k d) lt) so h

pub first_none : {A B : Type 0} (f : ℕ → A → Option B) (xs : List A) (k : ℕ) (answer : Option B) → length xs ≤ k → first_from f k (drop k xs) ≡ answer → None ≡ answer
first_none f xs k answer past so = ap (first_from f k) (sym (drop_all k xs past)) ∙ so

-- ---- roots

found_there : (b : Bool) (o p answer : Option Found) → cond b o p ≡ answer → b ≡ true → o ≡ answer
found_there b o p answer e t = ap (λ x. cond x o p) (sym t) ∙ e

past_it : (b : Bool) (o p answer : Option Found) → cond b o p ≡ answer → b ≡ false → p ≡ answer
past_it b o p answer e f = ap (λ x. cond x o p) (sym f) ∙ e

abbrev pub root_test : List Bool → List (Option ScAddress) → ScAddress → Function → ℕ → AuthEntry → Bool
root_test used addresses address f entry e = not (get_or used entry false) && is_known address (get_or addresses entry None) && same_function e.root_invocation.function f

pub record NextRoot (nodes : List Node) (used : List Bool) (addresses : List (Option ScAddress)) (address : ScAddress) (f : Function) (entry id : ℕ) (e : AuthEntry) (es : List AuthEntry) (answer : Option Found) : Type 0 where
  pub here : slice_get (map kept nodes) id ≡ Some (kept_of (tree_of e.root_invocation))
  pub fits : id + size (tree_of e.root_invocation) ≤ length nodes
  pub row : IsRowAt (map kept nodes) (id + size (tree_of e.root_invocation)) (roots es)
  pub found : root_test used addresses address f entry e ≡ true → Some (record { entry = entry; node = id; first = true }) ≡ answer
  pub passed : root_test used addresses address f entry e ≡ false → root_in used addresses address f (entry + 1) (id + size (tree_of e.root_invocation)) es ≡ answer

pub next_root : (nodes : List Node) (used : List Bool) (addresses : List (Option ScAddress)) (address : ScAddress) (f : Function) (entry id : ℕ) (es : List AuthEntry) (e : AuthEntry) (answer : Option Found)
    → entry < length es → e ≡ get_or es entry e → IsRowAt (map kept nodes) id (roots (drop entry es)) → root_in used addresses address f entry id (drop entry es) ≡ answer
    → NextRoot nodes used addresses address f entry id e (drop (entry + 1) es) answer
unfolding root_in
next_root nodes used addresses address f entry id es e answer lt is at same =
    let rest = drop (entry + 1) es in
    let split : drop entry es ≡ e ∷ rest = drop_more es entry e lt ∙ ap (λ (x : AuthEntry). x ∷ rest) (sym is) in
    let h : IsRowAt (map kept nodes) id (roots (e ∷ rest)) = subst (λ (xs : List AuthEntry). IsRowAt (map kept nodes) id (roots xs)) split at in
    let whole : root_in used addresses address f entry id (e ∷ rest) ≡ answer = subst (λ (xs : List AuthEntry). root_in used addresses address f entry id xs ≡ answer) split same in
    let next : suc entry ≡ entry + 1 = omega arith in
    record {
      here = h.0;
      fits = omega (arith, h.1, length-map nodes kept);
      row = h.2;
      found = λ t. found_there _ _ _ answer whole t;
      passed = λ t. subst (λ n. root_in used addresses address f n (id + size (tree_of e.root_invocation)) rest ≡ answer) next (past_it _ _ _ answer whole t);
    }

pub test_is : (u v : Bool) (k l : Option ScAddress) (address : ScAddress) (m : Bool) → u ≡ v → k ≡ l → (not u && is_known address k && m) ≡ (not v && is_known address l && m)
test_is u v k l address m e d = ap₂ (λ (u : Bool) (k : Option ScAddress). not u && is_known address k && m) e d

pub no_root : (used : List Bool) (addresses : List (Option ScAddress)) (address : ScAddress) (f : Function) (entry id : ℕ) (es : List AuthEntry) (answer : Option Found)
    → length es ≤ entry → root_in used addresses address f entry id (drop entry es) ≡ answer → None ≡ answer
unfolding root_in
no_root used addresses address f entry id es answer past so = ap (root_in used addresses address f entry id) (sym (drop_all entry es past)) ∙ so
