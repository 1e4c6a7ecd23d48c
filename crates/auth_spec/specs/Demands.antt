-- Which authorisation meets a demand (own, after CAP-0046-11).
use Rattle.std.specs.Prelude.{◌≡◌, ℕ, suc, ◌&&◌, ◌||◌, List, [], ◌∷◌, ◌++◌, take, not, Bool, true, false, Option, Some, None}
use Rattle.std.specs.Prelude.{if◌then◌else◌}
use Rattle.std.specs.List.{slice_get}
use Rattle.std.specs.Option.{option_and_then, option_map, option_or}
use Rattle.std.specs.Coded.{Coded}
use Rattle.value_types.specs.Equality.{is_same}
use Rattle.value_types.specs.declared.account_id.AccountId.{AccountId}
use Rattle.value_types.specs.declared.address.ScAddress.{ScAddress}
use Rattle.value_types.specs.declared.address.ScAddress.TheVariants.{Account, Contract}
use Rattle.value_types.specs.declared.executable.Executable.{Executable}
use Rattle.value_types.specs.declared.executable.Executable.TheVariants as executables
use Rattle.value_types.specs.contracts.address.ScAddress as address_row
use Rattle.invoke_types.specs.Equality.{coded_function}
use Rattle.invoke_types.specs.declared.preimage.Preimage.{Preimage}
use Rattle.invoke_types.specs.declared.preimage.Preimage.TheVariants as preimages
use Rattle.invoke_types.specs.declared.function.Function.{Function}
use Rattle.invoke_types.specs.declared.function.Function.TheVariants as functions
use Rattle.auth_types.specs.Tree.{Tree, Trees, node, no_trees, trees, list_of_trees}
use Rattle.auth_types.specs.Views.{tree_of}
use Rattle.auth_types.specs.declared.credentials.Credentials.{Credentials}
use Rattle.auth_types.specs.declared.credentials.Credentials.TheVariants as credentials
use Rattle.auth_types.specs.declared.auth_entry.AuthEntry.{AuthEntry}
use Rattle.auth_spec.specs.declared.demand.Demand.{Demand}
use Rattle.auth_spec.specs.declared.demand.Demand.TheVariants as demands
use Rattle.auth_spec.specs.Pairs.{Pair, has_pair, is_paired, deepest}

-- ---- equality: two addresses, and two functions, are the same where all their parts are

unfoldable pub coded_address : Coded ScAddress
coded_address = address_row.the_row.coded

abbrev pub same_address : ScAddress → ScAddress → Bool
same_address = is_same coded_address

abbrev pub same_function : Function → Function → Bool
same_function = is_same coded_function

-- ---- trees

abbrev pub function_of : Tree → Function
function_of (node f ts) = f

abbrev pub children : Tree → List Tree
children (node f ts) = list_of_trees ts

-- the tree below the node that these indices of children lead to
abbrev pub node_at : Tree → List ℕ → Option Tree
node_at tree [] = Some tree
node_at tree (k ∷ ks) = option_and_then (λ child. node_at child ks) (slice_get (children tree) k)

-- ---- entries

abbrev pub is_from_asset : Preimage → Bool
is_from_asset (preimages.FromAddress address salt) = false
is_from_asset (preimages.FromAsset asset) = true

abbrev pub is_stellar_asset : Executable → Bool
is_stellar_asset (executables.Wasm hash) = false
is_stellar_asset executables.StellarAsset = true

-- a create from an asset, or of the contract of an asset
abbrev pub creates_asset : Function → Bool
creates_asset (functions.ContractFn args) = false
creates_asset (functions.CreateContract args) = is_from_asset args.preimage || is_stellar_asset args.executable
creates_asset (functions.CreateContractV2 args) = is_from_asset args.preimage || is_stellar_asset args.executable

-- whether some node is such a create
abbrev mutual
  pub has_asset : Tree → Bool
  has_asset (node f ts) = creates_asset f || have_asset ts

  pub have_asset : Trees → Bool
  have_asset no_trees = false
  have_asset (trees t ts) = has_asset t || have_asset ts

-- the address that an entry is of; an entry without an address is one of the source account
abbrev pub signer : AccountId → Credentials → ScAddress
signer source credentials.SourceAccount = Account source
signer source (credentials.Address address) = address.address

-- Whether an entry may meet demands for the address. An entry with a create from an asset, or of the contract of an asset, meets
-- none.
abbrev pub authorises : AccountId → ScAddress → AuthEntry → Bool
authorises source address entry =
    not (has_asset (tree_of entry.root_invocation)) && same_address (signer source entry.credentials) address

-- ---- the state

-- the entries, the source account, and the pairs in the order in which they were made
pub record Marked : Type 0 where
  pub entries : List AuthEntry
  pub source : AccountId
  pub pairs : List Pair

-- ---- the choice of a node

-- The first result that a search gives over the items of a list. It is told each item and its index; the first item has the given
-- index.
abbrev pub first_from : {A B : Type 0} → (ℕ → A → Option B) → ℕ → List A → Option B
first_from search_in index [] = None
first_from search_in index (x ∷ xs) = option_or (search_in index x) (first_from search_in (suc index) xs)

-- a child of a node, if the child has no pair and has this function
abbrev pub open_child : List Pair → ℕ → List ℕ → Function → ℕ → Tree → Option (List ℕ)
open_child pairs entry parent function index child =
    if not (is_paired pairs entry (parent ++ index ∷ [])) && same_function (function_of child) function
    then Some (parent ++ index ∷ []) else None

-- the first such child of a pair's node, in the entry with this root
abbrev pub open_below : List Pair → Function → Tree → Pair → Option (List ℕ)
open_below pairs function root pair =
    option_and_then (λ tree. first_from (open_child pairs pair.entry pair.node function) 0 (children tree))
    (node_at root pair.node)

-- In an entry of the address: the first such child of the deepest node whose path is a proper prefix of this path. No other node
-- is looked at.
abbrev pub by_child : Marked → List ℕ → ScAddress → Function → ℕ → AuthEntry → Option (ℕ × List ℕ)
by_child s path address function index entry =
    if authorises s.source address entry
    then option_map (λ place. (index, place))
    (option_and_then (open_below s.pairs function (tree_of entry.root_invocation)) (deepest s.pairs path index))
    else None

-- in an entry of the address that has no pair: the root, if it has the function
abbrev pub by_root : Marked → ScAddress → Function → ℕ → AuthEntry → Option (ℕ × List ℕ)
by_root s address function index entry =
    if not (has_pair s.pairs index) && authorises s.source address entry && same_function entry.root_invocation.function function
    then Some (index, []) else None

-- the entry and the node that meet the demand, if any do: first a child in the entries in order, then a root in the entries in
-- order
abbrev pub chosen : Marked → List ℕ → ScAddress → Function → Option (ℕ × List ℕ)
chosen s path address function =
    option_or (first_from (by_child s path address function) 0 s.entries) (first_from (by_root s address function) 0 s.entries)

-- ---- the choice

-- muxed accounts, claimable balances and pools authorise nothing
abbrev pub may_authorise : ScAddress → Bool
may_authorise (Account account) = true
may_authorise (Contract contract) = true
may_authorise _ = false

-- the direct caller has the address
abbrev pub is_caller : ScAddress → Option ScAddress → Bool
is_caller address None = false
is_caller address (Some caller) = same_address caller address

-- What meets a demand: a node of an entry, the direct caller, or nothing. A recorder notes it as a new node of one of its trees.
pub data Choice : Type 0 where
  ByNode : (entry : ℕ) (place : List ℕ) → Choice
  ByCaller : Choice
  ByNothing : Choice
  ByNote : (tree : ℕ) (place : List ℕ) → Choice

abbrev pub choice_of : Option (ℕ × List ℕ) → Choice
choice_of None = ByNothing
choice_of (Some x) = ByNode x.0 x.1

-- What meets the demand for an address: the first of the direct caller, a child and a root. The path is that of the frame; for a
-- create it has the create's number behind it. The caller is the direct caller, if there is one; for a create it is the frame's
-- own contract.
abbrev pub choice : Marked → List ℕ → Option ScAddress → ScAddress → Function → Choice
choice s path caller address function =
    if not (may_authorise address) then ByNothing
    else if is_caller address caller then ByCaller
    else choice_of (chosen s path address function)

abbrev pub is_root : List ℕ → Bool
is_root [] = true
is_root (k ∷ ks) = false

-- the program's answer: of a node it tells the entry, and whether the node is the root
abbrev pub answer : Choice → Demand
answer (ByNode entry place) = demands.Matched entry (is_root place)
answer ByCaller = demands.ByInvoker
answer ByNothing = demands.Denied
answer (ByNote tree place) = demands.Noted

abbrev pub demand : Marked → List ℕ → Option ScAddress → ScAddress → Function → Demand
demand s path caller address function = answer (choice s path caller address function)

-- a node that met the demand is added
abbrev pub paired : List Pair → List ℕ → Choice → List Pair
paired pairs path (ByNode entry place) = pairs ++ record { entry = entry; node = place; path = path } ∷ []
paired pairs path ByCaller = pairs
paired pairs path ByNothing = pairs
paired pairs path (ByNote tree place) = pairs

-- the state after the demand
abbrev pub after_demand : Marked → List ℕ → Option ScAddress → ScAddress → Function → Marked
after_demand s path caller address function = record s { pairs = paired s.pairs path (choice s path caller address function) }

-- ---- snapshots: a snapshot is the number of pairs

-- the state with the first pairs alone, as many as given
abbrev pub restored : ℕ → Marked → Marked
restored count s = record s { pairs = take count s.pairs }

-- a later state: pairs were added, and nothing else changed
abbrev pub IsLater : Marked → Marked → Type 0
IsLater old new = (more : List Pair) × (new ≡ record old { pairs = old.pairs ++ more })
