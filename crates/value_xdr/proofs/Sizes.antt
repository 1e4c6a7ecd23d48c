-- The sizes of values are the lengths of their bytes.
use Rattle.std.proofs.Common.{◌≡◌, ℕ, ◌≤◌, List, ◌++◌, length, refl, sym, ap, ◌∙◌, length-append, arith}
use Rattle.std.proofs.lemmas.List.{append-nil, length-replicate}
use Rattle.std.specs.Int.{w32, to_be_bytes}
use Rattle.xdr_core.specs.Sizes.{capped}
use Rattle.xdr_spec.specs.Format.{boolean, number32, number64, signed32, signed64, opaque, pad, zeros}
use Rattle.value_types.specs.Error.{error_format, code_format, kind, code, code_number, number}
use Rattle.value_types.specs.Numbers.{u128_format, i128_format, u256_format, i256_format}
use Rattle.value_types.specs.Hash.{hash_format}
use Rattle.value_types.specs.AccountId.{account_id_format}
use Rattle.value_types.specs.Address.{address_format}
use Rattle.value_types.specs.Executable.{executable_format}
use Rattle.value_types.specs.Datum.{Datum, boolean as boolean_datum, void, error, u32, i32, u64, i64, timepoint, duration, u128, i128, u256, i256, bytes, string, symbol, no_vec, vec, no_map, map, address, bare_instance, instance, ledger_key_contract_instance, ledger_key_nonce, Items, no_items, item, Members, no_members, member, list_of_members}
use Rattle.value_types.specs.Views.{datum}
use Rattle.value_types.specs.XdrSize.{xdr_size_of, items_xdr_size, members_xdr_size, value_xdr_size, blob_xdr_size}
use Rattle.value_types.specs.XdrSize.{address_xdr_size, executable_xdr_size, instance_xdr_size}
use Rattle.value_types.proofs.Lemmas.{instance_size}
use Rattle.value_types.specs.declared.hash.Hash.{Hash}
use Rattle.value_types.specs.declared.error.ScErrorCode.{ScErrorCode}
use Rattle.value_types.specs.declared.error.ScErrorCode.TheVariants as codes
use Rattle.value_types.specs.declared.error.ScError.{ScError}
use Rattle.value_types.specs.declared.error.ScError.TheVariants as errors
use Rattle.value_types.specs.declared.address.ScAddress.{ScAddress}
use Rattle.value_types.specs.declared.address.ScAddress.TheVariants as addresses
use Rattle.value_types.specs.declared.executable.Executable.{Executable}
use Rattle.value_types.specs.declared.executable.Executable.TheVariants as executables
use Rattle.value_types.specs.declared.value.Instance.{Instance}
use Rattle.value_types.specs.declared.value.ScVal.{ScVal}
use Rattle.value_types.specs.declared.value.ScVal.TheVariants as values
use Rattle.value_xdr.specs.Bytes.{word, bytes_of, items_bytes, members_bytes, IsBounded, AreItemsBounded, AreMembersBounded}
use Rattle.value_xdr.specs.ValueBytes.{value_bytes, instance_bytes, IsValueBounded, IsInstanceBounded}
use Rattle.value_xdr.proofs.Written.{value_bytes-datum}
use Rattle.value_xdr.proofs.Linked.{datum_bounded}

-- ---- the parts of values

pub blob_size : (max : ℕ) (x : List ℕ) → length ((opaque max).spell x) ≡ blob_xdr_size x
unfolding opaque
blob_size max x = omega (arith, length-append x (zeros (pad (length x))), length-replicate {A = ℕ} (pad (length x)) 0)

hash_size : (h : Hash) → hash_format.fits h → length (hash_format.spell h) ≡ 32
unfolding hash_format
hash_size h fits = ap length (append-nil h.0) ∙ fits.0

pub address_size : (a : ScAddress) → address_format.fits a → length (address_format.spell a) ≡ address_xdr_size a
unfolding address_format account_id_format number64
address_size (addresses.Account a) fits = omega (arith, hash_size a.0 fits)
address_size (addresses.Contract c) fits = omega (arith, hash_size c fits)
address_size (addresses.MuxedAccount id ed25519) fits = omega (arith, hash_size ed25519 fits.1)
address_size (addresses.ClaimableBalance b) fits = omega (arith, hash_size b fits)
address_size (addresses.LiquidityPool p) fits = omega (arith, hash_size p fits)

pub executable_size : (e : Executable) → executable_format.fits e → length (executable_format.spell e) ≡ executable_xdr_size e
unfolding executable_format
executable_size (executables.Wasm h) fits = omega (arith, hash_size h fits)
executable_size executables.StellarAsset fits = refl

-- these sizes are below the cap
address_small : (a : ScAddress) → address_xdr_size a ≤ 44
address_small (addresses.Account a) = omega arith
address_small (addresses.Contract c) = omega arith
address_small (addresses.MuxedAccount id ed25519) = omega arith
address_small (addresses.ClaimableBalance b) = omega arith
address_small (addresses.LiquidityPool p) = omega arith

pub address_capped : (a : ScAddress) → address_format.fits a → address_xdr_size a ≡ capped (length (address_format.spell a))
unfolding capped
address_capped a fits = omega (arith, address_small a, address_size a fits)

executable_small : (e : Executable) → executable_xdr_size e ≤ 36
executable_small (executables.Wasm h) = omega arith
executable_small executables.StellarAsset = omega arith

pub executable_capped : (e : Executable) → executable_format.fits e → executable_xdr_size e ≡ capped (length (executable_format.spell e))
unfolding capped
executable_capped e fits = omega (arith, executable_small e, executable_size e fits)

-- an error is spelled as two numbers
code_bytes : (c : ScErrorCode) → code_format.spell c ≡ to_be_bytes w32 (code_number c)
unfolding code_format
code_bytes codes.ArithDomain = refl
code_bytes codes.IndexBounds = refl
code_bytes codes.InvalidInput = refl
code_bytes codes.MissingValue = refl
code_bytes codes.ExistingValue = refl
code_bytes codes.ExceededLimit = refl
code_bytes codes.InvalidAction = refl
code_bytes codes.InternalError = refl
code_bytes codes.UnexpectedType = refl
code_bytes codes.UnexpectedSize = refl

pub error_bytes : (e : ScError) → error_format.spell e ≡ to_be_bytes w32 (number (kind e)) ++ to_be_bytes w32 (code e)
unfolding error_format number32
error_bytes (errors.Contract c) = refl
error_bytes (errors.WasmVm c) = ap (λ (x : List ℕ). to_be_bytes w32 1 ++ x) (code_bytes c)
error_bytes (errors.Context c) = ap (λ (x : List ℕ). to_be_bytes w32 2 ++ x) (code_bytes c)
error_bytes (errors.Storage c) = ap (λ (x : List ℕ). to_be_bytes w32 3 ++ x) (code_bytes c)
error_bytes (errors.Object c) = ap (λ (x : List ℕ). to_be_bytes w32 4 ++ x) (code_bytes c)
error_bytes (errors.Crypto c) = ap (λ (x : List ℕ). to_be_bytes w32 5 ++ x) (code_bytes c)
error_bytes (errors.Events c) = ap (λ (x : List ℕ). to_be_bytes w32 6 ++ x) (code_bytes c)
error_bytes (errors.Budget c) = ap (λ (x : List ℕ). to_be_bytes w32 7 ++ x) (code_bytes c)
error_bytes (errors.Value c) = ap (λ (x : List ℕ). to_be_bytes w32 8 ++ x) (code_bytes c)
error_bytes (errors.Auth c) = ap (λ (x : List ℕ). to_be_bytes w32 9 ++ x) (code_bytes c)

error_size : (e : ScError) → length (error_format.spell e) ≡ 8
error_size e = ap length (error_bytes e)

-- ---- values

-- that there is storage, the number of entries, and the entries
abbrev storage_bytes : Members → List ℕ
storage_bytes ms = word 1 ++ (word (length (list_of_members ms)) ++ members_bytes ms)

mutual
  unfolding boolean number32 signed32 number64 signed64 u128_format i128_format u256_format i256_format

  pub datum_size : (d : Datum) → IsBounded d → length (bytes_of d) ≡ xdr_size_of d
  datum_size (boolean_datum x) h = refl
  datum_size void h = refl
  datum_size (error x) h = omega (arith, error_size x)
  datum_size (u32 x) h = refl
  datum_size (i32 x) h = refl
  datum_size (u64 x) h = refl
  datum_size (i64 x) h = refl
  datum_size (timepoint x) h = refl
  datum_size (duration x) h = refl
  datum_size (u128 x) h = refl
  datum_size (i128 x) h = refl
  datum_size (u256 x) h = refl
  datum_size (i256 x) h = refl
  datum_size (bytes x) h = omega (arith, blob_size 4294967295 x)
  datum_size (string x) h = omega (arith, blob_size 4294967295 x)
  datum_size (symbol x) h = omega (arith, blob_size 32 x)
  datum_size no_vec h = refl
  datum_size (vec ds) h = omega (arith, items_size ds h.1)
  datum_size no_map h = refl
  datum_size (map ms) h = omega (arith, members_size ms h.1)
  datum_size (address a) h = omega (arith, address_size a h)
  datum_size (bare_instance e) h = omega (arith, executable_size e h, length-append (executable_format.spell e) (word 0))
  datum_size (instance e ms) h =
      omega (arith, executable_size e h.0, members_size ms h.2, length-append (executable_format.spell e) (storage_bytes ms))
  datum_size ledger_key_contract_instance h = refl
  datum_size (ledger_key_nonce x) h = refl

  items_size : (ds : Items) → AreItemsBounded ds → length (items_bytes ds) ≡ items_xdr_size ds
  items_size no_items h = refl
  items_size (item d ds) h = omega (arith, datum_size d h.0, items_size ds h.1, length-append (bytes_of d) (items_bytes ds))

  members_size : (ms : Members) → AreMembersBounded ms → length (members_bytes ms) ≡ members_xdr_size ms
  members_size no_members h = refl
  members_size (member k v ms) h =
      omega (
        arith,
        datum_size k h.0,
        datum_size v h.1,
        members_size ms h.2,
        length-append (bytes_of k) (bytes_of v),
        length-append (bytes_of k ++ bytes_of v) (members_bytes ms),
      )

pub value_size : (v : ScVal) → IsValueBounded v → value_xdr_size v ≡ length (value_bytes v)
value_size v h = sym (ap length (value_bytes-datum v) ∙ datum_size (datum v) (datum_bounded v h))

-- an instance stands behind the number of its type
pub instance_parts_size : (i : Instance) → IsInstanceBounded i → instance_xdr_size i ≡ length (instance_bytes i)
instance_parts_size i h = omega (arith, value_size (values.ContractInstance i) h, instance_size i)
