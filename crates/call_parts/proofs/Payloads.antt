-- The length of what is hashed to a contract's id.
use Rattle.std.proofs.Common.{◌≡◌, ℕ, length, arith, length-append}
use Rattle.xdr_spec.specs.Format.{number32, number64}
use Rattle.value_types.specs.Hash.{hash_format}
use Rattle.value_types.specs.AccountId.{account_id_format}
use Rattle.value_types.specs.Address.{address_format}
use Rattle.value_types.specs.declared.hash.Hash.{Hash}
use Rattle.value_types.specs.declared.address.ScAddress.{ScAddress}
use Rattle.value_types.specs.declared.address.ScAddress.TheVariants as addresses
use Rattle.invoke_types.specs.Preimage.{preimage_format}
use Rattle.invoke_types.specs.ContractId.{contract_id_payload}
use Rattle.invoke_types.specs.declared.preimage.Preimage.TheVariants.{FromAddress}

-- the number of bytes, by the kind of the deployer's address
abbrev pub payload_bytes : ScAddress → ℕ
payload_bytes (addresses.Account a) = 112
payload_bytes (addresses.Contract a) = 108
payload_bytes (addresses.MuxedAccount id key) = 116
payload_bytes (addresses.ClaimableBalance a) = 112
payload_bytes (addresses.LiquidityPool a) = 108

pub payload_length : (network : Hash) (deployer : ScAddress) (salt : Hash) → hash_format.fits network → address_format.fits deployer → hash_format.fits salt
    → length (contract_id_payload network (FromAddress deployer salt)) ≡ payload_bytes deployer
unfolding number32 number64 hash_format account_id_format address_format preimage_format
payload_length network (addresses.Account a) salt n d s = simp length-append (omega (arith, n.0, d.0, s.0))
payload_length network (addresses.Contract a) salt n d s = simp length-append (omega (arith, n.0, d.0, s.0))
payload_length network (addresses.MuxedAccount id key) salt n d s = simp length-append (omega (arith, n.0, d.1.0, s.0))
payload_length network (addresses.ClaimableBalance a) salt n d s = simp length-append (omega (arith, n.0, d.0, s.0))
payload_length network (addresses.LiquidityPool a) salt n d s = simp length-append (omega (arith, n.0, d.0, s.0))
