-- The byte strings by which values are ordered (own). They are the XDR bytes (RFC 4506) of each value whose lengths and
-- counts are below 2 ^ 32. A larger length has no XDR bytes: the number itself comes first, so that the order is one of
-- all values.
use Rattle.std.specs.Prelude.{ℕ, List, [], ◌∷◌, ◌++◌, length, Option, Some, None, nat_lt, if◌then◌else◌}
use Rattle.std.specs.List.{flat_map}
use Rattle.xdr_spec.specs.Format.{boolean, number32, number64, signed32, signed64, pad, zeros}
use Rattle.value_types.specs.Error.{error_format}
use Rattle.value_types.specs.Numbers.{u128_format, i128_format, u256_format, i256_format}
use Rattle.value_types.specs.Hash.{hash_format}
use Rattle.value_types.specs.AccountId.{account_id_format}
use Rattle.value_types.specs.Address.{address_format}
use Rattle.value_types.specs.Executable.{executable_format}
use Rattle.value_types.specs.Kinds.{number}
use Rattle.value_types.specs.Formats.{kind}
use Rattle.value_types.specs.Datum.{Datum, boolean as boolean_datum, void, error, u32, i32, u64, i64, timepoint, duration, u128}
use Rattle.value_types.specs.Datum.{i128, u256, i256, bytes, string, symbol, no_vec, vec, no_map, map, address, bare_instance}
use Rattle.value_types.specs.Datum.{instance, ledger_key_contract_instance, ledger_key_nonce, Items, no_items, item, Members}
use Rattle.value_types.specs.Datum.{no_members, member, list_of_items, list_of_members}
use Rattle.value_types.specs.Rows.{type_number}
use Rattle.value_types.specs.declared.address.ScAddress.{ScAddress}
use Rattle.value_types.specs.declared.address.ScAddress.TheVariants as addresses
use Rattle.value_types.specs.declared.value.ScVal.{ScVal}
use Rattle.value_types.specs.declared.value.ScVal.TheVariants as values
use Rattle.value_types.specs.declared.value.Instance.{Instance}
use Rattle.value_xdr.specs.Bytes.{word}

-- the length or count of a list
unfoldable pub ranked_length : ℕ → List ℕ
ranked_length n = if nat_lt n 4294967296 then word n else n ∷ 0 ∷ 0 ∷ 0 ∷ []

abbrev pub ranked_text : List ℕ → List ℕ
ranked_text x = ranked_length (length x) ++ (x ++ zeros (pad (length x)))

-- the bytes after the number of an address's kind
abbrev pub address_rest : ScAddress → List ℕ
address_rest (addresses.Account account) = account_id_format.spell account
address_rest (addresses.Contract id) = hash_format.spell id
address_rest (addresses.MuxedAccount id ed25519) = number64.spell id ++ hash_format.spell ed25519
address_rest (addresses.ClaimableBalance id) = word 0 ++ hash_format.spell id
address_rest (addresses.LiquidityPool id) = hash_format.spell id

abbrev mutual
  -- the bytes after the number of the type
  pub ranked_rest : Datum → List ℕ
  ranked_rest (boolean_datum x) = boolean.spell x
  ranked_rest void = []
  ranked_rest (error x) = error_format.spell x
  ranked_rest (u32 x) = number32.spell x
  ranked_rest (i32 x) = signed32.spell x
  ranked_rest (u64 x) = number64.spell x
  ranked_rest (i64 x) = signed64.spell x
  ranked_rest (timepoint x) = number64.spell x
  ranked_rest (duration x) = number64.spell x
  ranked_rest (u128 x) = u128_format.spell x
  ranked_rest (i128 x) = i128_format.spell x
  ranked_rest (u256 x) = u256_format.spell x
  ranked_rest (i256 x) = i256_format.spell x
  ranked_rest (bytes x) = ranked_text x
  ranked_rest (string x) = ranked_text x
  ranked_rest (symbol x) = ranked_text x
  ranked_rest no_vec = word 0
  ranked_rest (vec ds) = word 1 ++ (ranked_length (length (list_of_items ds)) ++ ranked_items ds)
  ranked_rest no_map = word 0
  ranked_rest (map ms) = word 1 ++ (ranked_length (length (list_of_members ms)) ++ ranked_members ms)
  ranked_rest (address x) = address_format.spell x
  ranked_rest (bare_instance e) = executable_format.spell e ++ word 0
  ranked_rest (instance e ms) =
      executable_format.spell e ++ (word 1 ++ (ranked_length (length (list_of_members ms)) ++ ranked_members ms))
  ranked_rest ledger_key_contract_instance = []
  ranked_rest (ledger_key_nonce x) = signed64.spell x

  pub ranked_items : Items → List ℕ
  ranked_items no_items = []
  ranked_items (item d ds) = (word (type_number d) ++ ranked_rest d) ++ ranked_items ds

  pub ranked_members : Members → List ℕ
  ranked_members no_members = []
  ranked_members (member k v ms) =
      ((word (type_number k) ++ ranked_rest k) ++ (word (type_number v) ++ ranked_rest v)) ++ ranked_members ms

abbrev pub ranked_of : Datum → List ℕ
ranked_of d = word (type_number d) ++ ranked_rest d

abbrev pub ranked_pair : Datum × Datum → List ℕ
ranked_pair m = ranked_of m.0 ++ ranked_of m.1

abbrev pub ranked_row : {A : Type 0} → (A → List ℕ) → Option (List A) → List ℕ
ranked_row f None = word 0
ranked_row f (Some ds) = word 1 ++ (ranked_length (length ds) ++ flat_map f ds)

abbrev pub ranked_instance : Instance → List ℕ
ranked_instance i = executable_format.spell i.executable ++ ranked_row ranked_pair i.storage

-- the same for the values of the code
abbrev pub ranked_body : ScVal → List ℕ
ranked_body (values.Bool x) = boolean.spell x
ranked_body values.Void = []
ranked_body (values.Error x) = error_format.spell x
ranked_body (values.U32 x) = number32.spell x
ranked_body (values.I32 x) = signed32.spell x
ranked_body (values.U64 x) = number64.spell x
ranked_body (values.I64 x) = signed64.spell x
ranked_body (values.Timepoint x) = number64.spell x
ranked_body (values.Duration x) = number64.spell x
ranked_body (values.U128 x) = u128_format.spell x
ranked_body (values.I128 x) = i128_format.spell x
ranked_body (values.U256 x) = u256_format.spell x
ranked_body (values.I256 x) = i256_format.spell x
ranked_body (values.Bytes x) = ranked_text x
ranked_body (values.String x) = ranked_text x
ranked_body (values.Symbol x) = ranked_text x
ranked_body (values.Vec o) = ranked_row ranked_of o
ranked_body (values.Map o) = ranked_row ranked_pair o
ranked_body (values.Address x) = address_format.spell x
ranked_body (values.ContractInstance i) = ranked_instance i
ranked_body values.LedgerKeyContractInstance = []
ranked_body (values.LedgerKeyNonce x) = signed64.spell x

abbrev pub ranked_value : ScVal → List ℕ
ranked_value v = word (number (kind v)) ++ ranked_body v
