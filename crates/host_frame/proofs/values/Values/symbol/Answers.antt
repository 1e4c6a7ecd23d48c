use Rattle.value_types.specs.Views.{datum}
use Rattle.host_spec.specs.Arguments.{as_symbol}
use Rattle.host_frame.specs.Held.{held, held_text}
use Rattle.host_frame.specs.declared.held.HeldText.{HeldText}
use Rattle.host_frame.proofs.Resolving.{resolved_as}
use Rattle.host_frame.proofs.values.Values.symbol.Goals as goal

pub returns-in-Ok-clause-means : goal.returns-in-Ok-clause-means
returns-in-Ok-clause-means c = resolved_as as_symbol c.args.self.now c.args.word (datum (held c.in-Ok.value)) c.text_of.result (λ (t : HeldText). held_text t) c.in-Ok.ensures.means c.text_of.ensures.means
