-- A value without a small form is shown as an object.
use Rattle.std.proofs.Common.{◌≡◌, ◌<◌, true, false, None, arith}
use Rattle.value_types.specs.Datum.{Datum, boolean, void, error, u32, i32, u256, i256, no_vec, no_map, address, bare_instance, instance, ledger_key_contract_instance, ledger_key_nonce}
use Rattle.value_types.specs.declared.address.ScAddress.{ScAddress}
use Rattle.value_types.specs.declared.address.ScAddress.TheVariants as addresses
use Rattle.host_spec.specs.Addresses.{address_tag, is_host_address}
use Rattle.host_spec.specs.Hosted.{IsHosted, has_host_types}
use Rattle.host_spec.specs.Words.{object_tag, small_word}

address_has_tag : (x : ScAddress) → is_host_address x ≡ true → 0 < address_tag x
address_has_tag (addresses.Account x) h = omega arith
address_has_tag (addresses.Contract x) h = omega arith
address_has_tag (addresses.MuxedAccount id ed25519) h = omega arith
address_has_tag (addresses.ClaimableBalance x) h = absurd cc
address_has_tag (addresses.LiquidityPool x) h = absurd cc

pub type_has_tag : (d : Datum) → has_host_types d ≡ true → small_word d ≡ None → 0 < object_tag d
type_has_tag (boolean false) h e = absurd cc
type_has_tag (boolean true) h e = absurd cc
type_has_tag void h e = absurd cc
type_has_tag (error x) h e = absurd cc
type_has_tag (u32 n) h e = absurd cc
type_has_tag (i32 n) h e = absurd cc
type_has_tag (u256 x) h e = absurd cc
type_has_tag (i256 x) h e = absurd cc
type_has_tag no_vec h e = absurd cc
type_has_tag no_map h e = absurd cc
type_has_tag (address x) h e = address_has_tag x h
type_has_tag (bare_instance x) h e = absurd cc
type_has_tag (instance x ms) h e = absurd cc
type_has_tag ledger_key_contract_instance h e = absurd cc
type_has_tag (ledger_key_nonce x) h e = absurd cc
type_has_tag _ h e = omega arith

pub object_has_tag : (d : Datum) → IsHosted d → small_word d ≡ None → 0 < object_tag d
object_has_tag d h e = type_has_tag d h.made.types e
