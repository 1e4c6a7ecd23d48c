use Rattle.std.proofs.Common.{◌≡◌, Some, arith}
use Rattle.value_types.specs.Views.{datum}
use Rattle.host_spec.specs.Words.{meaning}
use Rattle.host_spec.specs.Arguments.{as_string}
use Rattle.host_frame.proofs.Resolving.{resolved_some}
use Rattle.host_frame.proofs.values.Values.string.Goals as goal

pub returns-in-Ok-Object-clause-means : goal.returns-in-Ok-Object-clause-means
returns-in-Ok-Object-clause-means c =
    let e : meaning c.args.self.now c.args.word ≡ Some (datum c.in-Ok-Object.value.now) = grind arith in
    rw (resolved_some as_string c.args.self.now c.args.word (datum c.in-Ok-Object.value.now) e) c.string_of.ensures.means
