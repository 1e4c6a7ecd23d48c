-- What the signature of an authorisation signs (XDR file Stellar-transaction, `HashIDPreimage`): SHA-256 (FIPS 180-4) of the
-- number 9 (ENVELOPE_TYPE_SOROBAN_AUTHORIZATION), the network's id, the nonce, the ledger in which the signature ends, and the
-- root of the tree.
use Rattle.std.specs.Prelude.{ℕ, List, [], ◌++◌}
use Rattle.sha2.specs.Sha256.{sha256}
use Rattle.xdr_spec.specs.Format.{number32, signed64}
use Rattle.value_types.specs.Hash.{hash_of, hash_format}
use Rattle.value_types.specs.declared.hash.Hash.{Hash}
use Rattle.auth_types.specs.Invocation.{invocation_format}
use Rattle.auth_types.specs.declared.invocation.Invocation.{Invocation}
use Rattle.auth_types.specs.declared.credentials.AddressCredentials.{AddressCredentials}
use Rattle.auth_types.specs.declared.credentials.Credentials.{Credentials}
use Rattle.auth_types.specs.declared.credentials.Credentials.TheVariants.{SourceAccount, Address}
use Rattle.auth_types.specs.declared.auth_entry.AuthEntry.{AuthEntry}

-- the credentials are those of an address
abbrev pub IsOfAddress : Credentials → Type 0
IsOfAddress SourceAccount = ⊥
IsOfAddress (Address address) = Unit {0}

abbrev pub signed_bytes : Hash → AddressCredentials → Invocation → List ℕ
signed_bytes network address root =
    number32.spell 9
    ++ (hash_format.spell network
    ++ (signed64.spell address.nonce ++ (number32.spell address.signature_expiration_ledger ++ invocation_format.spell root)))

-- the hashed bytes; none for credentials without a signature
abbrev pub payload : Hash → Credentials → Invocation → List ℕ
payload network SourceAccount root = []
payload network (Address address) root = signed_bytes network address root

abbrev pub payload_hash_of : Hash → AuthEntry → Hash
payload_hash_of network entry = hash_of (sha256 (payload network entry.credentials entry.root_invocation))
