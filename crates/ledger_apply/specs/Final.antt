-- What the run of a set's stages makes of a ledger (own).
use Rattle.std.specs.Prelude.{◌≡◌, ℕ, Bool, true, false, List, All, Ok, length}
use Rattle.xdr_spec.specs.Format.{optional}
use Rattle.invoke_types.specs.Success.{success_format}
use Rattle.ledger_types.specs.declared.header.Header.{Header}
use Rattle.ledger_types.specs.declared.verdicts.Verdicts.{Verdicts}
use Rattle.ledger_spec.specs.LedgerMap.{LedgerMap}
use Rattle.ledger_file.specs.declared.ledger.Ledger.{Ledger}
use Rattle.tx_results.specs.Report.{HavePreimages}
use Rattle.tx_results.specs.Results.{result_set_format}
use Rattle.stage_runs.specs.Runs as runs
use Rattle.change_log.specs.Log.{log_format}
use Rattle.change_log.specs.Play.{played}
use Rattle.change_log.specs.declared.log.Log.{Log}
use Rattle.apply_spec.specs.Enforced.{enforced}
use Rattle.apply_spec.specs.Outputs.{results_of, preimages_of}
use Rattle.apply_spec.specs.Runs.{running_header, new_header}
use Rattle.set_steps.specs.Logged.{logged_over}
use Rattle.ledger_apply.specs.declared.set.Applied.{Applied}

-- stages in order, on the map of all entries; a set runs its own stages so
abbrev pub run_stages_over : Header → Verdicts → LedgerMap → List runs.Stage → ℕ → runs.RunState
run_stages_over header verdicts entries stages close_time =
    runs.run_set (enforced (running_header header close_time) verdicts) (runs.start entries) stages

-- The new header, and the entries, the results and the success preimages that the stages leave.
pub record IsApplied (old : Ledger) (verdicts : Verdicts) (stages : List runs.Stage) (close_time : ℕ)
    (applied : Applied) : Type 0 where
  pub header : applied.ledger.header ≡ new_header old.header close_time
  pub entries : applied.ledger.entries ≡ (run_stages_over old.header verdicts old.entries stages close_time).entries
  pub results : applied.results.pairs ≡ results_of (run_stages_over old.header verdicts old.entries stages close_time)
  pub successes : applied.successes ≡ preimages_of (run_stages_over old.header verdicts old.entries stages close_time)

-- The results and the success preimages can be written, each preimage beside its result.
pub record CanBeWritten (applied : Applied) : Type 0 where
  pub results_fit : result_set_format.fits applied.results
  pub successes_fit : All (λ s. (optional success_format).fits s) applied.successes
  pub each : length applied.successes ≡ length applied.results.pairs
  pub preimages : HavePreimages applied.results.pairs applied.successes

-- The log can be written. If one is kept, it is that of the stages, and played on the old ledger it gives the new one.
pub record IsLogged (logs : Bool) (old : Ledger) (verdicts : Verdicts) (stages : List runs.Stage) (close_time : ℕ)
    (applied : Applied) (log : Log) : Type 0 where
  pub fits : log_format.fits log
  pub over : logs ≡ true → log ≡ logged_over old.header verdicts old.entries stages close_time
  pub forwards : logs ≡ true
      → played false log old.header old.entries ≡ Ok (applied.ledger.header, applied.ledger.entries)
