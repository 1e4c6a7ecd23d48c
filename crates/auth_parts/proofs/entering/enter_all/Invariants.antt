use Rattle.std.proofs.Common.{◌≡◌, take, drop}
use Rattle.value_types.specs.Datum.{Datum}
use Rattle.value_types.specs.Views.{datums}
use Rattle.host_spec.specs.Hosted.{AreHosted}
use Rattle.call_spec.specs.World.{World}
use Rattle.call_spec.specs.Acts.{Act}
use Rattle.call_spec.specs.Entering.{entering}
use Rattle.auth_parts.specs.Entering.{with_meter}
use Rattle.auth_parts.proofs.entering.enter_all.Given as goal

abbrev pub invariant-loop-value : goal.invariant-loop-value
invariant-loop-value l =
    ((act : Act Datum) (w : World) → w.meter ≡ l.initial.budget → entering (datums l.values) act w ≡ entering (datums (drop l.value-index l.values)) act (with_meter l.budget w))
    × AreHosted (datums (take l.value-index l.values))
