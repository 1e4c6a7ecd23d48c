-- One transaction of a cluster, for any effect.
use Rattle.std.proofs.Common.{◌≡◌, not, List, filter, ap, ap₂, ◌∙◌}
use Rattle.stage_runs.specs.Maps.{LedgerMap}
use Rattle.stage_runs.specs.Transactions.{Envelope, Effect, Step}
use Rattle.stage_runs.specs.declared.Extension.{Extension}
use Rattle.stage_runs.specs.Runs.{RunState, after, is_written, put_all_in, run_transaction}
use Rattle.ledger_parts.specs.Shown.{shown_step}
use Rattle.set_steps.specs.State.{running_in}
use Rattle.set_steps.specs.declared.running.ClusterRun.{ClusterRun}

-- The pending extensions of written keys were put in, and the effect is that on what is shown then.
pub one_run : (step : Step) (shown : LedgerMap → LedgerMap) (tx : Envelope) (own now seen : LedgerMap) (running : ClusterRun) (pending : List Extension) (effect : Effect)
    → now ≡ put_all_in own (filter (is_written tx) running.pending)
    → pending ≡ filter (λ e. not (is_written tx e)) running.pending
    → seen ≡ shown now
    → effect ≡ step seen tx
    → (let prepared : ClusterRun = record running { pending = pending } in after effect (running_in now prepared)) ≡ run_transaction (shown_step shown step) (running_in own running) tx
one_run step shown tx own now seen running pending effect put kept sees is =
    ap₂ after (is ∙ ap (λ (m : LedgerMap). step m tx) (sees ∙ ap shown put))
    (ap₂ (λ (m : LedgerMap) (p : List Extension). let state : RunState = record { entries = m; pending = p; results = running.reports } in state) put kept)
