-- The length of what a signature signs.
use Rattle.std.proofs.Common.{◌≡◌, ◌+◌, length, arith, length-append}
use Rattle.xdr_spec.specs.Format.{number32, signed64}
use Rattle.value_types.specs.Hash.{hash_format}
use Rattle.value_types.specs.declared.hash.Hash.{Hash}
use Rattle.auth_types.specs.Invocation.{invocation_format}
use Rattle.auth_types.specs.Payload.{signed_bytes}
use Rattle.auth_types.specs.declared.invocation.Invocation.{Invocation}
use Rattle.auth_types.specs.declared.credentials.AddressCredentials.{AddressCredentials}

pub signed_length : (network : Hash) (signer : AddressCredentials) (root : Invocation) → hash_format.fits network
    → length (signed_bytes network signer root) ≡ 48 + length (invocation_format.spell root)
unfolding number32 signed64 hash_format
signed_length network signer root n = simp length-append (omega (arith, n.0))
