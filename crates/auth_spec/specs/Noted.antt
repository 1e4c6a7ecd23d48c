-- Demands that a recorder notes: the trees that accounts have to authorise (own).
use Rattle.std.specs.Prelude.{ℕ, ◌+◌, ◌-◌, ◌^◌, ◌&&◌, List, [], ◌∷◌, ◌++◌, length, map, filter, count_by, nat_eq, nat_lt}
use Rattle.std.specs.Prelude.{Bool, true, false, Option, None, if◌then◌else◌}
use Rattle.std.specs.List.{starts_with}
use Rattle.std.specs.Option.{option_map, unwrap_or}
use Rattle.value_types.specs.declared.address.ScAddress.{ScAddress}
use Rattle.value_types.specs.declared.address.ScAddress.TheVariants.{Account}
use Rattle.invoke_types.specs.declared.function.Function.{Function}
use Rattle.auth_spec.specs.Pairs.{Pair, deepest}
use Rattle.auth_spec.specs.Demands.{same_address, first_from, is_caller, is_root, Choice, ByNote, ByCaller, ByNothing}

-- ---- the state

-- A node that was noted: the address and the function that were demanded, and the node's place. The place has the index of the
-- tree in the order of making, the indices of the children that lead to the node from the root, and the path of the frame that
-- demanded it.
pub record Note : Type 0 where
  pub address : ScAddress
  pub function : Function
  pub pair : Pair

-- the nodes in the order of their making, the number of demands, and the number of failures that were undone with demands in
-- them, counted up to 2^64 - 1
pub record Notes : Type 0 where
  pub nodes : List Note
  pub demands : ℕ
  pub undone : ℕ

abbrev pub no_notes : Notes
no_notes = record { nodes = []; demands = 0; undone = 0 }

-- ---- where a demand is noted

abbrev pub pairs_in : List Note → List Pair
pairs_in notes = map (λ n. n.pair) notes

-- the roots of the trees, in the order of their making
abbrev pub roots_in : List Note → List Note
roots_in notes = filter (λ n. is_root n.pair.node) notes

-- the second node is a child of the first
abbrev pub is_child : Pair → Pair → Bool
is_child parent child =
    nat_eq child.entry parent.entry && starts_with nat_eq child.node parent.node
    && nat_eq (length child.node) (length parent.node + 1)

-- a new last child of a node
abbrev pub last_child : List Note → Pair → ℕ × List ℕ
last_child notes parent = (parent.entry, parent.node ++ count_by (λ n. is_child parent n.pair) notes ∷ [])

-- In a tree of the address: below its deepest node whose path is a proper prefix of this path. Of several nodes with that path
-- it is the last one.
abbrev pub below_noted : List Note → List ℕ → ScAddress → ℕ → Note → Option (ℕ × List ℕ)
below_noted notes path address tree root =
    if same_address root.address address then option_map (last_child notes) (deepest (pairs_in notes) path tree) else None

-- the first such place in the trees in order, or else the root of a new tree
abbrev pub new_place : List Note → List ℕ → ScAddress → ℕ × List ℕ
new_place notes path address =
    unwrap_or (first_from (below_noted notes path address) 0 (roots_in notes)) (length (roots_in notes), [])

-- ---- the choice

-- the most levels of a tree
unfoldable pub MOST_LEVELS : ℕ
MOST_LEVELS = 100

-- a root is at level 1
abbrev pub noted_at : ℕ × List ℕ → Choice
noted_at place = if nat_lt (length place.1) MOST_LEVELS then ByNote place.0 place.1 else ByNothing

-- accounts alone can be asked to sign
abbrev pub is_account : ScAddress → Bool
is_account (Account account) = true
is_account _ = false

-- What a recorder answers: the direct caller authorises. A demand for another address is noted if the address is an account's.
abbrev pub noting : List Note → List ℕ → Option ScAddress → ScAddress → Choice
noting notes path caller address =
    if is_caller address caller then ByCaller
    else if is_account address then noted_at (new_place notes path address)
    else ByNothing

-- ---- the state after a demand, and after an undone failure

abbrev pub with_note : List ℕ → ScAddress → Function → Choice → List Note → List Note
with_note path address function (ByNote tree place) notes =
    notes ++ record { address = address; function = function; pair = record { entry = tree; node = place; path = path } } ∷ []
with_note path address function _ notes = notes

abbrev pub after_noting : List ℕ → ScAddress → Function → Choice → Notes → Notes
after_noting path address function c n = record n { nodes = with_note path address function c n.nodes; demands = n.demands + 1 }

abbrev pub one_more : ℕ → ℕ
one_more n = if nat_lt n (2 ^ 64 - 1) then n + 1 else n

-- Nodes are kept when a failure is undone. Whether it had demands in it is kept, too: how many there were before is given.
abbrev pub after_undoing : ℕ → Notes → Notes
after_undoing before n = record n { undone = if nat_lt before n.demands then one_more n.undone else n.undone }
