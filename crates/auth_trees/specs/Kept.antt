-- What the program keeps of authorisation entries and of their nodes that met demands, and what it stands for (own).
use Rattle.std.specs.Prelude.{◌≡◌, ℕ, ◌≤◌, List, [], length, map, Option, Some, None, nat_eq, refl}
use Rattle.std.specs.List.{slice_get, AllByRecursion, IsDistinct}
use Rattle.std.specs.Option.{option_map}
use Rattle.std.specs.Coded.{Coded, code_by, coded×, coded_list}
use Rattle.value_types.specs.declared.account_id.AccountId.{AccountId}
use Rattle.auth_types.specs.declared.auth_entry.AuthEntry.{AuthEntry}
use Rattle.auth_trees.specs.declared.records.Record.{Record}
use Rattle.auth_trees.specs.declared.tables.Tables.{Tables}
use Rattle.auth_spec.specs.Pairs.{Pair, pair_code}
use Rattle.auth_spec.specs.Demands.{Marked}
use Rattle.auth_trees.specs.Listed.{Spot, spots}
use Rattle.auth_trees.specs.Flat.{authoriser}
use Rattle.auth_trees.specs.Ready.{IsReady, IsCurrent}

-- ---- how the logic stores the state

abbrev pub marked_code : Coded AuthEntry → Coded AccountId → Coded Marked
marked_code e a =
    code_by (List AuthEntry
    × (AccountId × List Pair)) (coded× (coded_list e) (coded× a (coded_list pair_code))) (λ s. (s.entries, (s.source, s.pairs)))
    (λ q. record { entries = q.0; source = q.1.0; pairs = q.1.1 }) (λ _. refl)

-- ---- records as pairs

abbrev pub place_of : Option Spot → List ℕ
place_of None = []
place_of (Some spot) = spot.place

abbrev pub pair_of : List Spot → Record → Pair
pair_of nodes r = record { entry = r.entry; node = place_of (slice_get nodes r.node); path = r.path }

unfoldable pub pairs_of : List AuthEntry → List Record → List Pair
pairs_of entries records = map (pair_of (spots entries)) records

abbrev pub marked : Tables → AccountId → List Record → Marked
marked t source records = record { entries = t.entries.now; source = source; pairs = pairs_of t.entries.now records }

-- ---- what is true of them

-- a record's node is a node of its entry
abbrev pub IsFit : List Spot → Record → Type 0
IsFit nodes r = option_map (λ spot. spot.entry) (slice_get nodes r.node) ≡ Some r.entry

-- The tables are those of the entries, and are marked for their path. No node has two records, and there is room for a record of
-- each node.
pub record IsKept (t : Tables) (source : AccountId) (records : List Record) (capacity : ℕ) : Type 0 where
  pub ready : IsReady t
  pub current : IsCurrent records t
  pub addresses : t.addresses.items ≡ map (authoriser source) t.entries.now
  pub fits : AllByRecursion (IsFit (spots t.entries.now)) records
  pub distinct : IsDistinct nat_eq (map (λ r. r.node) records)
  pub room : length t.nodes.items ≤ capacity
