use Rattle.std.proofs.Common.{arith, length-append}
use Rattle.xdr_spec.specs.Format.{number32}
use Rattle.value_types.specs.Hash.{hash_format}
use Rattle.value_types.specs.AccountId.{account_id_format}
use Rattle.value_types.specs.Address.{address_format}
use Rattle.invoke_types.specs.Preimage.{preimage_format}
use Rattle.invoke_types.proofs.ids.contract_id_lengths.Goals as goal

pub returns-clause-account : goal.returns-clause-account
unfolding number32 hash_format account_id_format address_format preimage_format
returns-clause-account c network deployer salt n d s = simp length-append (omega (arith, n.0, d.0, s.0))

pub returns-clause-contract : goal.returns-clause-contract
unfolding number32 hash_format address_format preimage_format
returns-clause-contract c network deployer salt n d s = simp length-append (omega (arith, n.0, d.0, s.0))
