-- The values that the host takes, and the entry of a value into the host (own).
use Rattle.std.specs.Prelude.{◌≡◌, ◌≤◌, ℕ, Bool, true, false, ◌&&◌, nat_le, List, length, Result, Ok, Err, if◌then◌else◌}
use Rattle.std.specs.List.{list_all, AllByRecursion}
use Rattle.std.specs.Ordering.{is_lt}
use Rattle.value_types.specs.Datum.{Datum, u256, i256, symbol, no_vec, vec, no_map, map, address, bare_instance, instance}
use Rattle.value_types.specs.Datum.{ledger_key_contract_instance, ledger_key_nonce, Items, no_items, item, Members, no_members}
use Rattle.value_types.specs.Datum.{member}
use Rattle.value_types.specs.Depth.{depth_of}
use Rattle.value_types.specs.Order.{datum_cmp}
use Rattle.value_types.specs.declared.error.ScError.{ScError}
use Rattle.value_xdr.specs.Bytes.{bytes_of, IsBounded}
use Rattle.host_spec.specs.Addresses.{is_host_address}
use Rattle.host_spec.specs.Characters.{is_character}
use Rattle.host_spec.specs.Errors.{INVALID_VALUE, OTHER_TYPE, TOO_LARGE}

-- the bytes of a value's spelling
unfoldable pub size_of : Datum → ℕ
size_of d = length (bytes_of d)

abbrev mutual
  -- no value in it has a type that the host lacks
  pub has_host_types : Datum → Bool
  has_host_types (u256 x) = false
  has_host_types (i256 x) = false
  has_host_types no_vec = false
  has_host_types (vec ds) = items_have_host_types ds
  has_host_types no_map = false
  has_host_types (map ms) = members_have_host_types ms
  has_host_types (address x) = is_host_address x
  has_host_types (bare_instance e) = false
  has_host_types (instance e ms) = false
  has_host_types ledger_key_contract_instance = false
  has_host_types (ledger_key_nonce x) = false
  has_host_types _ = true

  pub items_have_host_types : Items → Bool
  items_have_host_types no_items = true
  items_have_host_types (item d ds) = has_host_types d && items_have_host_types ds

  pub members_have_host_types : Members → Bool
  members_have_host_types no_members = true
  members_have_host_types (member k v ms) = has_host_types k && (has_host_types v && members_have_host_types ms)

-- the text of a symbol
abbrev pub is_symbol : List ℕ → Bool
is_symbol text = nat_le (length text) 32 && list_all is_character text

-- the key is below the first key of the members
abbrev pub is_below : Datum → Members → Bool
is_below k no_members = true
is_below k (member l v ms) = is_lt (datum_cmp k l)

abbrev mutual
  -- the keys of each map in it rise strictly, and each symbol is the text of one
  pub is_well_formed : Datum → Bool
  is_well_formed (symbol text) = is_symbol text
  is_well_formed (vec ds) = items_are_well_formed ds
  is_well_formed (map ms) = members_are_well_formed ms
  is_well_formed _ = true

  pub items_are_well_formed : Items → Bool
  items_are_well_formed no_items = true
  items_are_well_formed (item d ds) = is_well_formed d && items_are_well_formed ds

  pub members_are_well_formed : Members → Bool
  members_are_well_formed no_members = true
  members_are_well_formed (member k v ms) =
      is_below k ms && (is_well_formed k && (is_well_formed v && members_are_well_formed ms))

-- ---- entry

-- A value enters the host by three tests of the whole value: its size, its types, its form.
abbrev pub entry : Datum → Result Datum ScError
entry d =
    if nat_le (size_of d) 16777216 then
    if has_host_types d then
    if is_well_formed d then Ok d
    else Err INVALID_VALUE
    else Err OTHER_TYPE
    else Err TOO_LARGE

-- a value that a function makes may be held if it has at most this size and depth
abbrev pub is_within_limits : Datum → Bool
is_within_limits d = nat_le (size_of d) 16777216 && nat_le (depth_of d) 100

-- a value of the host's types in good form, of any size and depth
pub record IsMade (d : Datum) : Type 0 where
  pub bounded : IsBounded d
  pub types : has_host_types d ≡ true
  pub formed : is_well_formed d ≡ true

-- a value that the host holds
pub record IsHosted (d : Datum) : Type 0 where
  pub made : IsMade d
  pub sized : size_of d ≤ 16777216
  pub shallow : depth_of d ≤ 100

abbrev pub AreHosted : List Datum → Type 0
AreHosted ds = AllByRecursion IsHosted ds
