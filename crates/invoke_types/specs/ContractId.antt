-- The id of a contract (XDR file Stellar-transaction, `HashIDPreimage`): SHA-256 (FIPS 180-4) of the number 8
-- (ENVELOPE_TYPE_CONTRACT_ID), the network's id and the preimage.
use Rattle.std.specs.Prelude.{ℕ, List, ◌++◌}
use Rattle.sha2.specs.Sha256.{sha256}
use Rattle.xdr_spec.specs.Format.{number32}
use Rattle.value_types.specs.Hash.{hash_of, hash_format}
use Rattle.value_types.specs.declared.hash.Hash.{Hash}
use Rattle.invoke_types.specs.Preimage.{preimage_format}
use Rattle.invoke_types.specs.declared.preimage.Preimage.{Preimage}

abbrev pub contract_id_payload : Hash → Preimage → List ℕ
contract_id_payload network preimage = number32.spell 8 ++ (hash_format.spell network ++ preimage_format.spell preimage)

abbrev pub contract_id_of : Hash → Preimage → Hash
contract_id_of network preimage = hash_of (sha256 (contract_id_payload network preimage))
