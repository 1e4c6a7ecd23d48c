use Rattle.value_types.specs.declared.numbers.UInt128Parts.{UInt128Parts}
use Rattle.value_types.specs.Views.{datum}
use Rattle.host_spec.specs.Arguments.{as_u128}
use Rattle.host_frame.specs.Held.{held}
use Rattle.host_frame.proofs.Resolving.{resolved_as}
use Rattle.host_frame.proofs.values.Values.number128.Goals as goal

pub returns-in-Ok : goal.returns-in-Ok
returns-in-Ok c = resolved_as as_u128 c.args.self.now c.args.word (datum (held c.in-Ok.value)) c.number128_of.result (λ (n : UInt128Parts). n) c.in-Ok.ensures.means (rw c.get.ensures at c.number128_of.ensures)
