-- Values that the functions of the ledger make.
use Rattle.std.proofs.Common.{refl}
use Rattle.value_types.specs.Address.{address_format}
use Rattle.value_types.specs.declared.hash.Hash.{Hash}
use Rattle.value_types.specs.declared.address.ScAddress.TheVariants.{Contract}
use Rattle.value_types.specs.Datum.{address}
use Rattle.host_spec.specs.Hosted.{IsMade}

pub contract_made : (contract : Hash) → address_format.fits (Contract contract) → IsMade (address (Contract contract))
contract_made contract h = record { bounded = h; types = refl; formed = refl }
