-- What is true of the program's tables (own).
use Rattle.std.specs.Prelude.{◌≡◌, ℕ, suc, ◌<◌, List, length, map, Option, Some, None, false}
use Rattle.std.specs.List.{slice_get, slice_index_or}
use Rattle.auth_types.specs.Tree.{trees_of}
use Rattle.invoke_types.specs.declared.function.Function.{Function}
use Rattle.value_types.specs.declared.address.ScAddress.{ScAddress}
use Rattle.auth_trees.specs.declared.records.Record.{Record}
use Rattle.auth_trees.specs.declared.tables.Deepest.{Deepest}
use Rattle.auth_trees.specs.declared.tables.Tables.{Tables}
use Rattle.auth_trees.specs.declared.search.Found.{Found}
use Rattle.auth_spec.specs.Demands.{first_from, children}
use Rattle.auth_trees.specs.Listed.{Kept, kept, roots, nodes_of_row}
use Rattle.auth_trees.specs.Flat.{has_record, has_entry, deepest_record, IsRowAt, child_in, root_in}
use Rattle.std.specs.Option.{option_or}

-- the tables are as long as they have to be, and the nodes are those of the entries
pub record IsReady (t : Tables) : Type 0 where
  pub nodes : map kept t.nodes.items ≡ nodes_of_row (trees_of (roots t.entries.now))
  pub addresses : length t.addresses.items ≡ length t.entries.now
  pub taken : length t.taken.items ≡ length t.nodes.items
  pub used : length t.used.items ≡ length t.entries.now
  pub deepest : length t.deepest.items ≡ length t.entries.now

-- no entry has a deepest node if the tables say so
abbrev pub KnowsNone : Tables → Type 0
KnowsNone t =
    t.any ≡ false → (entry : ℕ) → entry < length t.deepest.items → slice_index_or t.deepest.items entry None ≡ None

-- the tables say which nodes and entries have records, and which nodes are the deepest above a path
pub record IsMarked (records : List Record) (path : List ℕ) (t : Tables) : Type 0 where
  pub taken : (id : ℕ) → id < length t.taken.items → slice_index_or t.taken.items id false ≡ has_record records id
  pub used : (entry : ℕ) → entry < length t.used.items → slice_index_or t.used.items entry false ≡ has_entry records entry
  pub deepest : (entry : ℕ) → entry < length t.deepest.items
      → slice_index_or t.deepest.items entry None ≡ deepest_record records path entry
  pub none : KnowsNone t

-- the tables say so for the path that they have, if they have one
abbrev pub IsCurrent : List Record → Tables → Type 0
IsCurrent records t = (path : List ℕ) → t.path ≡ Some path → IsMarked records path t

-- the deepest nodes are nodes
abbrev pub AreWithin : Tables → Type 0
AreWithin t =
    (entry : ℕ) (best : Deepest) → slice_index_or t.deepest.items entry None ≡ Some best → best.node < length t.nodes.items

-- the children of each node stand behind it
abbrev pub HaveChildren : List Kept → Type 0
HaveChildren nodes = (id : ℕ) (k : Kept) → slice_get nodes id ≡ Some k → IsRowAt nodes (suc id) (children k.tree)

abbrev pub child_found : Tables → ScAddress → Function → Option Found
child_found t address function =
    first_from (child_in (map kept t.nodes.items) t.taken.items t.deepest.items address function) 0 t.addresses.items

abbrev pub root_found : Tables → ScAddress → Function → Option Found
root_found t address function = root_in t.used.items t.addresses.items address function 0 0 t.entries.now

-- the node that meets a demand, as the tables say
abbrev pub found : Tables → ScAddress → Function → Option Found
found t address function = option_or (child_found t address function) (root_found t address function)
