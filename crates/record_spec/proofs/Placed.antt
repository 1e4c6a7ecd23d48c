-- The trees of grown nodes: where each node stands in them, and the entries that are made of them.
use Rattle.std.proofs.Common.{◌≡◌, ℕ, zero, suc, ◌+◌, ◌-◌, Bool, true, false, cond, not, ◌&&◌, ◌||◌, List, [], ◌∷◌, ◌++◌, length}
use Rattle.std.proofs.Common.{take, map, Option, Some, None, slice_get, inl, inr, refl, sym, ap, ap₂, ◌∙◌, subst, append_assoc, arith}
use Rattle.std.specs.List.{AllByRecursion}
use Rattle.std.specs.Option.{option_and_then}
use Rattle.std.proofs.lemmas.Option.{same_Some}
use Rattle.std.proofs.lemmas.List.{append-nil, length_push}
use Rattle.value_types.specs.declared.account_id.AccountId.{AccountId}
use Rattle.value_types.specs.declared.address.ScAddress.{ScAddress}
use Rattle.value_types.specs.declared.address.ScAddress.TheVariants.{Account}
use Rattle.auth_types.specs.InvocationLaws.{trees_there, tree_of-invocation}
use Rattle.auth_types.specs.Tree.{Tree, node, trees_of}
use Rattle.auth_types.specs.Views.{tree_of as viewed, invocation_of}
use Rattle.auth_types.specs.declared.credentials.Credentials.TheVariants.{SourceAccount}
use Rattle.auth_types.specs.declared.auth_entry.AuthEntry.{AuthEntry}
use Rattle.auth_spec.specs.Demands.{same_address, function_of, children, node_at, creates_asset, has_asset, have_asset, signer}
use Rattle.auth_spec.specs.Demands.{authorises}
use Rattle.auth_spec.specs.Noted.{Note, MOST_LEVELS, roots_in, is_child, is_account}
use Rattle.list_laws.proofs.Lemmas.{all_push, all_same}
use Rattle.record_spec.specs.Trees.{Terms, children_of, tree_below, tree_of, signed_by, credentials_by, next_terms, entry_of}
use Rattle.record_spec.specs.Trees.{entries_from, entries_of, terms_after}
use Rattle.record_spec.proofs.Lists.{get_map, all_get, all_kept, filter_here}
use Rattle.record_spec.proofs.Same.{address_is}
use Rattle.record_spec.proofs.Grown.{Stands, GrownFrom, Grown, IsNewRoot, IsNewChild, child_count, grown_at, stood, root_here}
use Rattle.record_spec.proofs.Grown.{is_child_of}

-- ---- trees and their rows

root_function : (t : Tree) → (invocation_of t).function ≡ function_of t
root_function (node f ts) = refl

-- the children of a node are the nodes that were made so
pub below_children : (levels : ℕ) (notes : List Note) (n : Note)
    → children (tree_below (suc levels) notes n) ≡ map (tree_below levels notes) (children_of notes n)
below_children levels notes n = trees_there (map (tree_below levels notes) (children_of notes n))

-- the function of a node is its note's
pub below_function : (levels : ℕ) (notes : List Note) (n : Note) → function_of (tree_below levels notes n) ≡ n.function
below_function zero notes n = refl
below_function (suc levels) notes n = refl

whole_tree : (notes : List Note) (root : Note) → tree_of notes root ≡ tree_below MOST_LEVELS notes root
unfolding tree_of
whole_tree notes root = refl

-- the function at the root of a node's invocation
pub invoked : (notes : List Note) (root : Note) → (invocation_of (tree_of notes root)).function ≡ root.function
invoked notes root = root_function (tree_of notes root) ∙ ap function_of (whole_tree notes root) ∙ below_function MOST_LEVELS notes root

-- ---- what is true of all nodes

plain_from : (start ns : List Note) → GrownFrom start ns → AllByRecursion (λ (n : Note). creates_asset n.function ≡ false) ns
plain_from start [] h = tt
plain_from start (n ∷ ns) h = (h.0.plain, plain_from (start ++ n ∷ []) ns h.1)

accounts_from : (start ns : List Note) → GrownFrom start ns → AllByRecursion (λ (n : Note). is_account n.address ≡ true) ns
accounts_from start [] h = tt
accounts_from start (n ∷ ns) h = (h.0.account, accounts_from (start ++ n ∷ []) ns h.1)

-- each root is an account's
pub root_account : (notes : List Note) (k : ℕ) (root : Note) → Grown notes → slice_get (roots_in notes) k ≡ Some root
    → is_account root.address ≡ true
root_account notes k root grown at =
    let each : AllByRecursion (λ (n : Note). is_account n.address ≡ true) (roots_in notes) = all_kept _ _ notes (accounts_from [] notes grown) in
    all_get (λ (n : Note). is_account n.address ≡ true) (roots_in notes) k root each at

-- ---- no node of a tree creates an asset

have_none : (ts : List Tree) → AllByRecursion (λ (t : Tree). has_asset t ≡ false) ts → have_asset (trees_of ts) ≡ false
have_none [] h = refl
have_none (t ∷ ts) h = ap₂ (λ (a b : Bool). a || b) h.0 (have_none ts h.1)

all_map : {A B : Type 0} (P : B → Type 0) (f : A → B) (xs : List A) → AllByRecursion (λ x. P (f x)) xs → AllByRecursion P (map f xs)
all_map P f [] h = tt
all_map P f (x ∷ xs) h = (h.0, all_map P f xs h.1)

abbrev IsPlain : Note → Type 0
IsPlain n = creates_asset n.function ≡ false

tree_plain : (levels : ℕ) (notes : List Note) → AllByRecursion IsPlain notes → (n : Note) → IsPlain n
    → has_asset (tree_below levels notes n) ≡ false
tree_plain zero notes all n plain = ap (λ b. b || false) plain
tree_plain (suc levels) notes all n plain =
    let kids : AllByRecursion IsPlain (children_of notes n) = all_kept IsPlain (λ (c : Note). is_child n.pair c.pair) notes all in
    let each : AllByRecursion (λ (m : Note). has_asset (tree_below levels notes m) ≡ false) (children_of notes n) =
    all_same IsPlain (λ (m : Note). has_asset (tree_below levels notes m) ≡ false) (tree_plain levels notes all) (children_of notes n) kids in
    ap₂ (λ (a b : Bool). a || b) plain
    (have_none (map (tree_below levels notes) (children_of notes n))
    (all_map (λ (t : Tree). has_asset t ≡ false) (tree_below levels notes) (children_of notes n) each))

root_plain : (notes : List Note) (k : ℕ) (root : Note) → Grown notes → slice_get (roots_in notes) k ≡ Some root
    → has_asset (tree_of notes root) ≡ false
root_plain notes k root grown at =
    let all : AllByRecursion IsPlain notes = plain_from [] notes grown in
    let roots : AllByRecursion IsPlain (roots_in notes) = all_kept IsPlain _ notes all in
    ap has_asset (whole_tree notes root) ∙ tree_plain MOST_LEVELS notes all root (all_get IsPlain (roots_in notes) k root roots at)

-- ---- entries

-- the signer is the address
signed : (terms : Terms) (source : AccountId) (address : ScAddress) → signer source (credentials_by terms source address) ≡ address
signed terms source address =
    let go : (b : Bool) → same_address address (Account source) ≡ b → signer source (cond b SourceAccount (signed_by terms address)) ≡ address =
    λ b. elim b as (λ b. same_address address (Account source) ≡ b → signer source (cond b SourceAccount (signed_by terms address)) ≡ address) [
      | true ↦ λ e. sym (address_is address (Account source) e)
      | false ↦ λ e. refl
    ] in
    go (same_address address (Account source)) refl

-- an entry authorises for the address of its root
pub authorised : (terms : Terms) (source : AccountId) (notes : List Note) (k : ℕ) (root : Note) (address : ScAddress) → Grown notes
    → slice_get (roots_in notes) k ≡ Some root
    → authorises source address (entry_of notes (credentials_by terms source root.address) root) ≡ same_address root.address address
authorised terms source notes k root address grown at =
    let none : has_asset (viewed (invocation_of (tree_of notes root))) ≡ false =
    ap has_asset (tree_of-invocation (tree_of notes root)) ∙ root_plain notes k root grown at in
    ap₂ (λ (b : Bool) (a : ScAddress). not b && same_address a address) none (signed terms source root.address)

-- the root of an entry
pub record EntryOf (source : AccountId) (notes roots : List Note) (k : ℕ) (entry : AuthEntry) : Type 0 where
  pub root : Note
  pub terms : Terms
  pub here : slice_get roots k ≡ Some root
  pub is : entry ≡ entry_of notes (credentials_by terms source root.address) root

-- each entry has a root
pub entry_is : (terms : Terms) (source : AccountId) (notes roots : List Note) (k : ℕ) (entry : AuthEntry)
    → slice_get (entries_from terms source notes roots) k ≡ Some entry → EntryOf source notes roots k entry
entry_is terms source notes [] k entry at = absurd cc
entry_is terms source notes (r ∷ roots) zero entry at =
    record { root = r; terms = terms; here = refl; is = sym (same_Some (entry_of notes (credentials_by terms source r.address) r) entry at) }
entry_is terms source notes (r ∷ roots) (suc k) entry at =
    let h = entry_is (next_terms terms source r.address) source notes roots k entry at in
    record { root = h.root; terms = h.terms; here = h.here; is = h.is }

root_entry_from : (terms : Terms) (source : AccountId) (notes roots : List Note) (k : ℕ) (root : Note) → slice_get roots k ≡ Some root
    → slice_get (entries_from terms source notes roots) k
    ≡ Some (entry_of notes (credentials_by (terms_after terms source (take k roots)) source root.address) root)
root_entry_from terms source notes [] k root at = absurd cc
root_entry_from terms source notes (r ∷ roots) zero root at =
    ap (λ (r : Note). Some (entry_of notes (credentials_by terms source r.address) r)) (same_Some r root at)
root_entry_from terms source notes (r ∷ roots) (suc k) root at =
    root_entry_from (next_terms terms source r.address) source notes roots k root at

-- the entry of a root
pub root_entry : (terms : Terms) (source : AccountId) (notes : List Note) (k : ℕ) (root : Note) → slice_get (roots_in notes) k ≡ Some root
    → slice_get (entries_of terms source notes) k
    ≡ Some (entry_of notes (credentials_by (terms_after terms source (take k (roots_in notes))) source root.address) root)
root_entry terms source notes k root at = root_entry_from terms source notes (roots_in notes) k root at

-- ---- the place of a node in its tree

and_some : (o : Option Tree) → option_and_then (λ (t : Tree). Some t) o ≡ o
and_some None = refl
and_some (Some t) = refl

node_at_push : (t : Tree) (ks : List ℕ) (k : ℕ)
    → node_at t (ks ++ k ∷ []) ≡ option_and_then (λ (u : Tree). slice_get (children u) k) (node_at t ks)
node_at_push t [] k = and_some (slice_get (children t) k)
node_at_push t (j ∷ ks) k =
    elim (slice_get (children t) j) as (λ (o : Option Tree). option_and_then (λ (c : Tree). node_at c (ks ++ k ∷ [])) o
    ≡ option_and_then (λ (u : Tree). slice_get (children u) k) (option_and_then (λ (c : Tree). node_at c ks) o)) [
      | None ↦ refl
      | Some c ↦ node_at_push c ks k
    ]

-- what is below a node in the tree of its root are its own children
abbrev IsAt : List Note → Note → Type 0
IsAt final n =
    (root : Note) → slice_get (roots_in final) n.pair.entry ≡ Some root
    → node_at (tree_of final root) n.pair.node ≡ Some (tree_below (MOST_LEVELS - length n.pair.node) final n)

root_is_at : (final before after : List Note) (n : Note) → final ≡ before ++ n ∷ after → IsNewRoot before n → IsAt final n
root_is_at final before after n whole h root at =
    let here : slice_get (roots_in final) n.pair.entry ≡ Some n =
    ap (λ ns. slice_get (roots_in ns) n.pair.entry) whole ∙ root_here before after n h in
    let same : root ≡ n = same_Some root n (sym at ∙ here) in
    let short : length n.pair.node ≡ 0 = ap length h.node in
    let levels : MOST_LEVELS ≡ MOST_LEVELS - length n.pair.node = omega (arith, short) in
    ap (node_at (tree_of final root)) h.node
    ∙ ap Some (ap (tree_of final) same ∙ whole_tree final n ∙ ap (λ l. tree_below l final n) levels)

child_is_at : (final before after : List Note) (n : Note) → final ≡ before ++ n ∷ after → Stands before n → (c : IsNewChild before n)
    → IsAt final c.parent → IsAt final n
child_is_at final before after n whole s c h root at =
    let q = c.parent in
    let k = child_count before q.pair in
    let l = MOST_LEVELS - length n.pair.node in
    let long : length n.pair.node ≡ length q.pair.node + 1 = ap length c.node ∙ length_push q.pair.node k in
    let levels : MOST_LEVELS - length q.pair.node ≡ suc (MOST_LEVELS - length n.pair.node) = omega (arith, long, s.level) in
    let up : node_at (tree_of final root) q.pair.node ≡ Some (tree_below (suc l) final q) =
    h root (ap (slice_get (roots_in final)) (sym c.entry) ∙ at) ∙ ap (λ m. Some (tree_below m final q)) levels in
    let child : is_child q.pair n.pair ≡ true = is_child_of q.pair n.pair k c.entry c.node in
    let there : slice_get (children_of final q) k ≡ Some n =
    ap (λ ns. slice_get (children_of ns q) k) whole ∙ filter_here (λ (m : Note). is_child q.pair m.pair) before after n child in
    ap (node_at (tree_of final root)) c.node ∙ node_at_push (tree_of final root) q.pair.node k
    ∙ ap (option_and_then (λ (u : Tree). slice_get (children u) k)) up
    ∙ ap (λ (ts : List Tree). slice_get ts k) (below_children l final q) ∙ get_map (tree_below l final) (children_of final q) k n there

all_at : (final before ns : List Note) → final ≡ before ++ ns → Grown final → AllByRecursion (IsAt final) before
    → AllByRecursion (IsAt final) final
all_at final before [] whole grown all = subst (AllByRecursion (IsAt final)) (sym (whole ∙ append-nil before)) all
all_at final before (n ∷ ns) whole grown all =
    let s = grown_at final before ns n grown whole in
    let here : IsAt final n =
    elim (stood before n s) [
      | inl r ↦ root_is_at final before ns n whole r
      | inr c ↦ child_is_at final before ns n whole s c (all_get (IsAt final) before c.index c.parent all c.here)
    ] in
    all_at final (before ++ n ∷ []) ns (whole ∙ sym (append_assoc before (n ∷ []) ns)) grown (all_push (IsAt final) before n all here)

-- the node at a place is the one that was noted there, with all its children
pub node_of_tree : (final : List Note) (n root : Note) (i : ℕ) → Grown final → slice_get final i ≡ Some n
    → slice_get (roots_in final) n.pair.entry ≡ Some root
    → node_at (tree_of final root) n.pair.node ≡ Some (tree_below (MOST_LEVELS - length n.pair.node) final n)
node_of_tree final n root i grown at tree = all_get (IsAt final) final i n (all_at final [] final refl grown tt) at root tree
