-- No run of a frame lowers the sums of the budget.
use Rattle.std.proofs.Common.{refl}
use Rattle.call_spec.specs.WholeRuns.{all_allowed}
use Rattle.call_spec.specs.Laws.{SumsGrowLaw}
use Rattle.call_spec.proofs.Frames.{unwatched, unwatched_fair}
use Rattle.call_spec.proofs.HostFunctions.{frames_rise}

pub sums_grow_law : SumsGrowLaw
sums_grow_law header authority room e w = frames_rise all_allowed w.entries w.entries (unwatched header) (λ kind k h. refl) header authority (unwatched_fair header) room e tt w
