use Rattle.std.proofs.Common.{◌≡◌, Some, arith}
use Rattle.value_types.specs.Views.{datum}
use Rattle.host_spec.specs.Words.{meaning}
use Rattle.host_spec.specs.Arguments.{as_address}
use Rattle.host_frame.proofs.Resolving.{resolved_some}
use Rattle.host_frame.proofs.values.Values.address.Goals as goal

pub returns-in-Ok-Object : goal.returns-in-Ok-Object
returns-in-Ok-Object c =
    let e : meaning c.args.self.now c.args.word ≡ Some (datum c.in-Ok-Object.value.now) = grind arith in
    record { means = rw (resolved_some as_address c.args.self.now c.args.word (datum c.in-Ok-Object.value.now) e) c.address_of.ensures }
