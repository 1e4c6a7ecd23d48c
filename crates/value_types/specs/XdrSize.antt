-- The size of a value in XDR bytes, at any depth (RFC 4506): 4 for the number of its type, and the size of its body.
use Rattle.std.specs.Prelude.{ℕ, ◌+◌, List, length, Option, Some, None}
use Rattle.xdr_spec.specs.Format.{pad}
use Rattle.value_types.specs.Datum.{Datum, boolean, void, error, u32, i32, u64, i64, timepoint, duration, u128, i128, u256, i256}
use Rattle.value_types.specs.Datum.{bytes, string, symbol, no_vec, vec, no_map, map, address, bare_instance, instance}
use Rattle.value_types.specs.Datum.{ledger_key_contract_instance, ledger_key_nonce, Items, no_items, item, Members, no_members}
use Rattle.value_types.specs.Datum.{member, members_of}
use Rattle.value_types.specs.Views.{datum}
use Rattle.value_types.specs.declared.address.ScAddress.{ScAddress}
use Rattle.value_types.specs.declared.address.ScAddress.TheVariants as addresses
use Rattle.value_types.specs.declared.executable.Executable.{Executable}
use Rattle.value_types.specs.declared.executable.Executable.TheVariants as executables
use Rattle.value_types.specs.declared.value.ScVal.{ScVal}
use Rattle.value_types.specs.declared.value.Instance.{Instance}

-- a length, as many bytes, and the zeros that fill their last word (section 4.10)
abbrev pub blob_xdr_size : List ℕ → ℕ
blob_xdr_size x = 4 + (length x + pad (length x))

-- the number of a kind, and a key or an id of 32 bytes, which may have a number of its own
abbrev pub address_xdr_size : ScAddress → ℕ
address_xdr_size (addresses.Account a) = 40
address_xdr_size (addresses.Contract c) = 36
address_xdr_size (addresses.MuxedAccount id ed25519) = 44
address_xdr_size (addresses.ClaimableBalance b) = 40
address_xdr_size (addresses.LiquidityPool p) = 36

abbrev pub executable_xdr_size : Executable → ℕ
executable_xdr_size (executables.Wasm h) = 36
executable_xdr_size executables.StellarAsset = 4

abbrev mutual
  pub xdr_size_of : Datum → ℕ
  xdr_size_of (boolean x) = 8
  xdr_size_of void = 4
  xdr_size_of (error x) = 12
  xdr_size_of (u32 x) = 8
  xdr_size_of (i32 x) = 8
  xdr_size_of (u64 x) = 12
  xdr_size_of (i64 x) = 12
  xdr_size_of (timepoint x) = 12
  xdr_size_of (duration x) = 12
  xdr_size_of (u128 x) = 20
  xdr_size_of (i128 x) = 20
  xdr_size_of (u256 x) = 36
  xdr_size_of (i256 x) = 36
  xdr_size_of (bytes x) = 4 + blob_xdr_size x
  xdr_size_of (string x) = 4 + blob_xdr_size x
  xdr_size_of (symbol x) = 4 + blob_xdr_size x
  xdr_size_of no_vec = 8
  xdr_size_of (vec ds) = 12 + items_xdr_size ds
  xdr_size_of no_map = 8
  xdr_size_of (map ms) = 12 + members_xdr_size ms
  xdr_size_of (address a) = 4 + address_xdr_size a
  xdr_size_of (bare_instance e) = 8 + executable_xdr_size e
  xdr_size_of (instance e ms) = 12 + executable_xdr_size e + members_xdr_size ms
  xdr_size_of ledger_key_contract_instance = 4
  xdr_size_of (ledger_key_nonce x) = 12

  pub items_xdr_size : Items → ℕ
  items_xdr_size no_items = 0
  items_xdr_size (item d ds) = xdr_size_of d + items_xdr_size ds

  pub members_xdr_size : Members → ℕ
  members_xdr_size no_members = 0
  members_xdr_size (member k v ms) = xdr_size_of k + xdr_size_of v + members_xdr_size ms

abbrev pub value_xdr_size : ScVal → ℕ
value_xdr_size v = xdr_size_of (datum v)

-- an instance without the number of its type: its executable, and whether it has storage, with a count and the entries
abbrev pub storage_xdr_size : Option (List (Datum × Datum)) → ℕ
storage_xdr_size None = 4
storage_xdr_size (Some ms) = 8 + members_xdr_size (members_of ms)

abbrev pub instance_xdr_size : Instance → ℕ
instance_xdr_size i = executable_xdr_size i.executable + storage_xdr_size i.storage
