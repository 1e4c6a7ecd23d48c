use Rattle.value_types.specs.declared.error.ScError.{ScError}
use Rattle.value_types.specs.Views.{datum}
use Rattle.host_spec.specs.Arguments.{as_error}
use Rattle.host_frame.specs.Held.{held}
use Rattle.host_frame.proofs.Resolving.{resolved_as}
use Rattle.host_frame.proofs.values.Values.error.Goals as goal

pub returns-in-Ok : goal.returns-in-Ok
returns-in-Ok c = resolved_as as_error c.args.self.now c.args.word (datum (held c.in-Ok.value)) c.error_of.result (λ (n : ScError). n) c.in-Ok.ensures.means (rw c.get.ensures at c.error_of.ensures)
