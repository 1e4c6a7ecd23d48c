use Rattle.std.proofs.Common.{refl}
use Rattle.value_types.specs.Datum.{error}
use Rattle.object_store.proofs.Lemmas.{scalar_hosted}
use Rattle.call_spec.specs.Errors.{HIDDEN_ERROR}
use Rattle.call_host.proofs.Undoing.{hidden_bounded, passed_hidden}
use Rattle.call_host.proofs.undo.passed_on.Goals as goal

pub returns-in_default : goal.returns-in_default
returns-in_default c = record { passed_on = passed_hidden c.args.error c.in_default.not-Contract; hosted = scalar_hosted (error HIDDEN_ERROR) refl hidden_bounded }
