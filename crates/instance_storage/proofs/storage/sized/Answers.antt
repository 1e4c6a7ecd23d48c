use Rattle.std.proofs.Common.{◌-◌, List, Option, Some, sym, subst}
use Rattle.host_spec.specs.MapRows.{Member}
use Rattle.instance_storage.specs.Held.{IsSized}
use Rattle.instance_storage.proofs.Measuring.{map_as, map_least}
use Rattle.instance_storage.proofs.storage.sized.Goals as goal

pub overflow_sub-size : goal.overflow_sub-size
overflow_sub-size c = map_least c.args.entries c.size_of-size.result c.size_of-size.ensures.size

pub invariant_of-result : goal.invariant_of-result
invariant_of-result c =
    subst (λ (ms : List Member). IsSized (Some ms) (c.size_of-size.result - 12)) (sym c.in_ok-list.ensures)
    (λ hosted. map_as c.args.entries c.size_of-size.result c.size_of-size.ensures.size)
