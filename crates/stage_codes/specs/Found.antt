-- The codes of a ledger's entries (own).
use Rattle.std.specs.Prelude.{◌≡◌, ℕ, Bool, true, List, All, map, Option, Some, None, is_some, slice_get, ◌++◌}
use Rattle.std.specs.Borrow.{Bor}
use Rattle.std.specs.BTreeMap.{BTreeMap, get}
use Rattle.std.specs.List.{AllByRecursion, flat_map}
use Rattle.std.specs.Option.{option_map}
use Rattle.std.specs.Ordering.{nat_cmp}
use Rattle.std.specs.Cmp.Lexicographic.{slice_cmp}
use Rattle.value_types.specs.Hash.{hash_of}
use Rattle.value_types.specs.declared.hash.Hash.{Hash}
use Rattle.ledger_types.specs.declared.entry.LedgerEntryData.{LedgerEntryData}
use Rattle.ledger_types.specs.declared.entry.LedgerEntryData.TheVariants.{ContractData, ContractCode}
use Rattle.ledger_types.specs.declared.key.LedgerKey.{LedgerKey}
use Rattle.ledger_types.specs.declared.key.LedgerKey.TheVariants as keys
use Rattle.ledger_spec.specs.LedgerMap.{LedgerMap, find}
use Rattle.tx_xdr.specs.declared.set.Cluster.{Cluster}
use Rattle.stage_plan.specs.DeclaredKeys.{read_keys}
use Rattle.code_cache.specs.Cached.{IsAt}
use Rattle.code_cache.specs.declared.cache.Code.{Code}

-- the code that an entry has, if it is a code entry
abbrev pub code_of : LedgerEntryData → Option (List ℕ)
code_of (ContractData entry) = None
code_of (ContractCode entry) = Some entry.code

-- The map has an entry at the code's hash, with this code.
abbrev pub HasCode : LedgerMap → Hash → List ℕ → Type 0
HasCode entries hash code =
    option_map (λ kept. code_of kept.entry.data) (find entries (keys.ContractCode hash)) ≡ Some (Some code)

abbrev pub IsCodeIn : LedgerMap → Code → Type 0
IsCodeIn entries code = HasCode entries code.hash code.code.now

-- If the key is that of a code which the map has, then the list has the code's hash.
abbrev pub IsShared : LedgerMap → List Code → LedgerKey → Type 0
IsShared entries codes key =
    (hash : Hash) (code : List ℕ) → key ≡ keys.ContractCode hash → HasCode entries hash code → (slot : ℕ) × IsAt codes hash slot

-- the keys that the transactions of clusters declare read-only
abbrev pub stage_keys : List Cluster → List LedgerKey
stage_keys clusters = flat_map (λ c. read_keys c.envelopes) clusters

-- One of these keys is that of the code with this hash.
abbrev pub HasKeyOf : List LedgerKey → Hash → Type 0
HasKeyOf declared hash = (slot : ℕ) × slice_get declared slot ≡ Some (keys.ContractCode hash)

-- ---- what the code keeps: codes by their hashes

abbrev pub Codes : Type 0
Codes = BTreeMap (List ℕ) (Bor (List ℕ))

abbrev pub has_hash : Codes → List ℕ → Bool
has_hash codes hash = is_some (get (slice_cmp nat_cmp) codes hash)

abbrev pub codes_of : List (List ℕ × Bor (List ℕ)) → List Code
codes_of pairs = map (λ p. record { hash = hash_of p.0; code = p.1 }) pairs

-- the key is not that of a code which the map has
abbrev pub IsWithout : LedgerMap → LedgerKey → Type 0
IsWithout entries key = (hash : Hash) (code : List ℕ) → key ≡ keys.ContractCode hash → HasCode entries hash code → ⊥

-- each code is that of the map's entry
abbrev pub AreFound : LedgerMap → List (List ℕ × Bor (List ℕ)) → Type 0
AreFound entries pairs = AllByRecursion (λ p. HasCode entries (hash_of p.0) p.1.now) pairs

-- if the key is that of a code which the map has, the code's hash is there
abbrev pub IsThere : LedgerMap → Codes → LedgerKey → Type 0
IsThere entries codes key =
    (hash : Hash) (code : List ℕ) → key ≡ keys.ContractCode hash → HasCode entries hash code → has_hash codes hash.0 ≡ true

-- no hash is lost
abbrev pub KeepsHashes : Codes → Codes → Type 0
KeepsHashes old new = (hash : List ℕ) → has_hash old hash ≡ true → has_hash new hash ≡ true

-- each hash is that of one of these keys
abbrev pub AreOf : List LedgerKey → List (List ℕ × Bor (List ℕ)) → Type 0
AreOf declared pairs = AllByRecursion (λ p. HasKeyOf declared (hash_of p.0)) pairs

-- Each hash that is new is that of an added key: if the hashes were those of some keys before, they are those of these and the
-- added keys now.
abbrev pub AddsOnly : Codes → Codes → List LedgerKey → Type 0
AddsOnly old new added = (before : List LedgerKey) → AreOf before old.entries → AreOf (before ++ added) new.entries

-- The codes at these keys are added, and no others.
pub record Adds (entries : LedgerMap) (old new : Codes) (added : List LedgerKey) : Type 0 where
  pub found : AreFound entries new.entries
  pub keeps : KeepsHashes old new
  pub there : All (IsThere entries new) added
  pub only : AddsOnly old new added
