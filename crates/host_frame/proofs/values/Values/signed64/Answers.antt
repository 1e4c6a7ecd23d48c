use Rattle.std.specs.Prelude.{ℤ}
use Rattle.value_types.specs.Views.{datum}
use Rattle.host_spec.specs.Arguments.{as_i64}
use Rattle.host_frame.specs.Held.{held}
use Rattle.host_frame.proofs.Resolving.{resolved_as}
use Rattle.host_frame.proofs.values.Values.signed64.Goals as goal

pub returns-in-Ok : goal.returns-in-Ok
returns-in-Ok c = resolved_as as_i64 c.args.self.now c.args.word (datum (held c.in-Ok.value)) c.signed64_of.result (λ (n : ℤ). n) c.in-Ok.ensures.means (rw c.get.ensures at c.signed64_of.ensures)
