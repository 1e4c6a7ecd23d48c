-- Plain types in parts.
use Rattle.std.proofs.Common.{◌≡◌, ◌++◌, refl}
use Rattle.std.proofs.lemmas.List.{append-nil}
use Rattle.std.specs.declared.cmp.Ordering.{Ordering}
use Rattle.std.specs.Ordering.{ordering_then}
use Rattle.std.specs.Int.{w32, to_be_bytes}
use Rattle.value_types.specs.Error.{error_format, kind, code, number}
use Rattle.value_types.specs.declared.error.ScError.{ScError}
use Rattle.value_types.specs.Hash.{hash_format}
use Rattle.value_types.specs.Address.{address_format, number as address_number, kind as address_kind}
use Rattle.value_types.specs.declared.address.ScAddress.{ScAddress}
use Rattle.value_types.specs.declared.address.ScAddress.TheVariants as addresses
use Rattle.value_xdr.specs.Bytes.{word}
use Rattle.value_xdr.proofs.Lemmas.{error_bytes}
use Rattle.value_types.specs.declared.hash.Hash.{Hash}
use Rattle.spelled_order.specs.Against.{Against}
use Rattle.spelled_order.specs.Ranked.{address_rest}
use Rattle.spelled_order.proofs.Deciding.{both}

pub hashes : (g h : Hash) (o : Ordering) → Against g.0 h.0 o → Against (hash_format.spell g) (hash_format.spell h) o
unfolding hash_format
hashes g h o k = rw (append-nil g.0, append-nil h.0) k

pub address_bytes : (a : ScAddress) → address_format.spell a ≡ word (address_number (address_kind a)) ++ address_rest a
unfolding address_format
address_bytes (addresses.Account account) = refl
address_bytes (addresses.Contract id) = refl
address_bytes (addresses.MuxedAccount id ed25519) = refl
address_bytes (addresses.ClaimableBalance id) = refl
address_bytes (addresses.LiquidityPool id) = refl

pub errors_decide : (d e : ScError) (o p : Ordering) → Against (to_be_bytes w32 (number (kind d))) (to_be_bytes w32 (number (kind e))) o
    → Against (to_be_bytes w32 (code d)) (to_be_bytes w32 (code e)) p → Against (error_format.spell d) (error_format.spell e) (ordering_then o p)
errors_decide d e o p h k = rw (error_bytes d, error_bytes e) (both _ _ _ _ o p h k)
