use Rattle.std.proofs.Common.{ℕ}
use Rattle.value_types.specs.Views.{datum}
use Rattle.host_spec.specs.Arguments.{as_u32}
use Rattle.host_frame.specs.Held.{held}
use Rattle.host_frame.proofs.Resolving.{resolved_as}
use Rattle.host_frame.proofs.values.Values.number32.Goals as goal

pub returns-in-Ok : goal.returns-in-Ok
returns-in-Ok c = resolved_as as_u32 c.args.self.now c.args.word (datum (held c.in-Ok.value)) c.number32_of.result (λ (n : ℕ). n) c.in-Ok.ensures.means (rw c.get.ensures at c.number32_of.ensures)
