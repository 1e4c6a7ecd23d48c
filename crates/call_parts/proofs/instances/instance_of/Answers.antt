use Rattle.call_parts.proofs.Bounds.{value_bounded, value_shallow}
use Rattle.call_parts.proofs.instances.instance_of.Goals as goal

pub instance_in-requires-clause-bounded : goal.instance_in-requires-clause-bounded
instance_in-requires-clause-bounded c = value_bounded c.args.found.now c.in-ContractData.data c.requires c.in-ContractData.is

pub instance_in-requires-clause-shallow : goal.instance_in-requires-clause-shallow
instance_in-requires-clause-shallow c = value_shallow c.args.found.now c.in-ContractData.data c.requires c.in-ContractData.is
