-- What a recorder keeps, and how it finds the place of a new node (own).
use Rattle.std.specs.Prelude.{◌≡◌, ℕ, ◌+◌, ◌&&◌, ◌||◌, List, [], length, map, nat_eq, nat_lt, Bool, false, Option, Some, None}
use Rattle.std.specs.Prelude.{if◌then◌else◌}
use Rattle.std.specs.List.{fold, slice_get, AllByRecursion}
use Rattle.std.specs.Option.{option_map, option_and_then}
use Rattle.value_types.specs.declared.account_id.AccountId.{AccountId}
use Rattle.value_types.specs.declared.address.ScAddress.{ScAddress}
use Rattle.invoke_types.specs.declared.function.Function.{Function}
use Rattle.auth_notes.specs.declared.noted.Noted.{Noted}
use Rattle.auth_notes.specs.declared.noted.Place.{Place}
use Rattle.auth_spec.specs.Pairs.{Pair, is_below}
use Rattle.auth_spec.specs.Demands.{same_address, is_root, Choice, ByNote, ByCaller, ByNothing, ByNode}
use Rattle.auth_spec.specs.Noted.{Note, roots_in, last_child, new_place, noted_at}
use Rattle.auth_spec.specs.Authorities.{Authorised}

-- ---- what is kept

abbrev pub pair_of : Noted → Pair
pair_of n = record { entry = n.tree; node = n.place.items; path = n.path.items }

abbrev pub note_of : Noted → Note
note_of n = record { address = n.address; function = n.function; pair = pair_of n }

abbrev pub notes_of : List Noted → List Note
notes_of ns = map note_of ns

abbrev pub recorded : AccountId → List Note → ℕ → ℕ → Authorised
recorded source notes demands undone =
    record {
      entries = [];
      source = source;
      pairs = [];
      noted = Some (record { nodes = notes; demands = demands; undone = undone });
    }

-- the root of a note's tree has the note's address
abbrev pub HasRoot : List Note → Note → Type 0
HasRoot notes n = option_map (λ r. r.address) (slice_get (roots_in notes) n.pair.entry) ≡ Some n.address

-- the notes are nodes of so many trees
pub record AreTrees (notes : List Note) (trees : ℕ) : Type 0 where
  pub count : trees ≡ length (roots_in notes)
  pub addresses : AllByRecursion (HasRoot notes) notes

-- the number of trees, if a node was added
abbrev pub trees_with : ℕ → Note → ℕ
trees_with trees n = if is_root n.pair.node then trees + 1 else trees

-- ---- the node that gets a new child

-- the first of two nodes stays before the second, which was made later: its tree is earlier, or it is in the same tree with a
-- longer path
abbrev pub stays : Pair → Pair → Bool
stays best later =
    nat_lt best.entry later.entry || (nat_eq best.entry later.entry && nat_lt (length later.path) (length best.path))

abbrev pub keeps : Option Pair → Pair → Bool
keeps None later = false
keeps (Some best) later = stays best later

abbrev pub better : Option Pair → Pair → Option Pair
better o later = if keeps o later then o else Some later

-- a node of the address whose path is a proper prefix of this path
abbrev pub is_above : List ℕ → ScAddress → Note → Bool
is_above path address n = same_address n.address address && is_below path n.pair.path

abbrev pub best_of : List ℕ → ScAddress → Option Pair → Note → Option Pair
best_of path address o n = if is_above path address n then better o n.pair else o

-- the best of these nodes
abbrev pub best : List Note → List ℕ → ScAddress → Option Pair
best notes path address = fold (best_of path address) None notes

abbrev pub pair_at : List Noted → Option ℕ → Option Pair
pair_at ns o = option_map pair_of (option_and_then (slice_get ns) o)

-- ---- the place of a new node

-- the last child of the best node, or else a root
abbrev pub place_by : List Note → Option Pair → ℕ × List ℕ
place_by notes None = (length (roots_in notes), [])
place_by notes (Some parent) = last_child notes parent

abbrev pub place_of : Place → ℕ × List ℕ
place_of p = (p.tree, p.node.items)

abbrev pub note_by : List ℕ → ScAddress → Function → Choice → Option Note
note_by path address function (ByNote tree node) =
    Some (record { address = address; function = function; pair = record { entry = tree; node = node; path = path } })
note_by path address function ByCaller = None
note_by path address function ByNothing = None
note_by path address function (ByNode entry node) = None

-- the node for a demand for an account, if its tree has the level
abbrev pub new_note : List Note → List ℕ → ScAddress → Function → Option Note
new_note notes path address function = note_by path address function (noted_at (new_place notes path address))
