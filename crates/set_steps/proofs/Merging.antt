-- What clusters leave, when one more has run.
use Rattle.std.proofs.Common.{◌≡◌, ◌∷◌, [], ◌++◌, List}
use Rattle.set_steps.specs.declared.running.ClusterDone.{ClusterDone}
use Rattle.set_steps.specs.State.{pending_of, reports_of}
use Rattle.set_steps.proofs.Lists.{flat_map_one_more}

pub pending_more : (done : List ClusterDone) (one : ClusterDone) → pending_of (done ++ one ∷ []) ≡ pending_of done ++ one.pending.items
pending_more done one = flat_map_one_more (λ (d : ClusterDone). d.pending.items) done one

pub reports_more : (done : List ClusterDone) (one : ClusterDone) → reports_of (done ++ one ∷ []) ≡ reports_of done ++ one.reports
reports_more done one = flat_map_one_more (λ (d : ClusterDone). d.reports) done one
