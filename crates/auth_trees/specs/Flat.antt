-- How the program finds the node that meets a demand. Nodes are given by their index in the list of all nodes (own).
use Rattle.std.specs.Prelude.{◌≡◌, ℕ, suc, ◌+◌, ◌≤◌, ◌&&◌, List, [], ◌∷◌, length, map, nat_eq, nat_lt, slice_index, not, Bool}
use Rattle.std.specs.Prelude.{true, false, Option, Some, None, if◌then◌else◌}
use Rattle.std.specs.List.{list_any, slice_get, slice_index_or}
use Rattle.std.specs.Option.{option_and_then, option_map}
use Rattle.value_types.specs.declared.account_id.AccountId.{AccountId}
use Rattle.value_types.specs.declared.address.ScAddress.{ScAddress}
use Rattle.invoke_types.specs.declared.function.Function.{Function}
use Rattle.auth_types.specs.Tree.{Tree, size}
use Rattle.auth_types.specs.Views.{tree_of}
use Rattle.auth_types.specs.declared.auth_entry.AuthEntry.{AuthEntry}
use Rattle.auth_trees.specs.declared.records.Record.{Record}
use Rattle.auth_trees.specs.declared.tables.Deepest.{Deepest}
use Rattle.auth_trees.specs.declared.search.Found.{Found}
use Rattle.auth_spec.specs.Pairs.{Pair, deepest}
use Rattle.auth_spec.specs.Demands.{same_address, same_function, function_of, children, has_asset, signer}
use Rattle.auth_trees.specs.Listed.{Kept, kept_of}

-- ---- entries

-- the address whose demands an entry may meet, if it may meet any
abbrev pub authoriser : AccountId → AuthEntry → Option ScAddress
authoriser source entry = if has_asset (tree_of entry.root_invocation) then None else Some (signer source entry.credentials)

abbrev pub is_known : ScAddress → Option ScAddress → Bool
is_known address None = false
is_known address (Some known) = same_address known address

-- ---- records

abbrev pub has_record : List Record → ℕ → Bool
has_record records id = list_any (λ r. nat_eq r.node id) records

abbrev pub has_entry : List Record → ℕ → Bool
has_entry records entry = list_any (λ r. nat_eq r.entry entry) records

-- a record as a pair whose node is given by its index
abbrev pub flat : Record → Pair
flat r = record { entry = r.entry; node = r.node ∷ []; path = r.path }

abbrev pub known : Pair → Deepest
known pair = record { node = slice_index pair.node 0; length = length pair.path }

abbrev pub deeper_known : Option Deepest → Deepest → Option Deepest
deeper_known None later = Some later
deeper_known (Some best) later = if nat_lt later.length best.length then Some best else Some later

unfoldable pub deepest_record : List Record → List ℕ → ℕ → Option Deepest
deepest_record records path entry = option_map known (deepest (map flat records) path entry)

-- ---- rows of nodes

-- the nodes of trees in a row stand from this index on
abbrev pub IsRowAt : List Kept → ℕ → List Tree → Type 0
IsRowAt nodes id [] = Unit {0}
IsRowAt nodes id (t ∷ ts) =
    (slice_get nodes id ≡ Some (kept_of t)) × (id + size t ≤ length nodes) × IsRowAt nodes (id + size t) ts

-- the first tree in a row that is not taken and has this function
unfoldable pub first_open : List Bool → Function → ℕ → List Tree → Option ℕ
first_open taken function id [] = None
first_open taken function id (t ∷ ts) =
    if not (slice_index_or taken id false) && same_function (function_of t) function then Some id
    else first_open taken function (id + size t) ts

-- ---- the choice

-- the first such child of the deepest node of an entry
unfoldable pub open_below : List Kept → List Bool → Function → Deepest → Option ℕ
open_below nodes taken function best =
    option_and_then (λ k. first_open taken function (suc best.node) (children k.tree)) (slice_get nodes best.node)

unfoldable pub child_in : List Kept → List Bool → List (Option Deepest) → ScAddress → Function → ℕ → Option ScAddress
    → Option Found
child_in nodes taken deepest address function entry known =
    if is_known address known
    then option_map (λ id. record { entry = entry; node = id; first = false })
    (option_and_then (open_below nodes taken function) (slice_index_or deepest entry None))
    else None

unfoldable pub root_in : List Bool → List (Option ScAddress) → ScAddress → Function → ℕ → ℕ → List AuthEntry → Option Found
root_in used addresses address function entry id [] = None
root_in used addresses address function entry id (e ∷ es) =
    if not (slice_index_or used entry false) && is_known address (slice_index_or addresses entry None)
    && same_function e.root_invocation.function function
    then Some (record { entry = entry; node = id; first = true })
    else root_in used addresses address function (suc entry) (id + size (tree_of e.root_invocation)) es
