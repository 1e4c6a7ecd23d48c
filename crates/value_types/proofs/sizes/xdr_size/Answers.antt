use Rattle.std.proofs.Common.{arith}
use Rattle.value_types.proofs.Growing.{instance_size}
use Rattle.value_types.proofs.sizes.xdr_size.Goals as goal

pub returns-in-ContractInstance : goal.returns-in-ContractInstance
returns-in-ContractInstance c = rw c.in-ContractInstance.is (omega (arith, instance_size c.in-ContractInstance.instance))
