-- Lines that end as the run of an envelope has to.
use Rattle.std.proofs.Common.{Bool, true, false, List, ◌++◌, ℕ, Option, sym, ap, subst, ◌∙◌, append_assoc}
use Rattle.budget_meter.specs.declared.budget.Used.{Used}
use Rattle.ledger_types.specs.declared.header.Header.{Header}
use Rattle.ledger_types.specs.declared.verdicts.Verdicts.{Verdicts}
use Rattle.stage_runs.specs.Maps.{LedgerMap}
use Rattle.stage_runs.specs.Transactions.{Effect}
use Rattle.apply_spec.specs.SimulationFile.{result_line, used_line}
use Rattle.tx_results.specs.declared.results.EnvelopeOutcome.{EnvelopeOutcome}
use Rattle.run_trace.specs.Summed.{bytes_lines}
use Rattle.run_trace.specs.declared.summary.Bytes.{Bytes}
use Rattle.why_top.specs.Explained.{Ran, EndsIn, EndsBy, EndsAsRan}
use Rattle.why_top.specs.Runs.{IsRunOf}
use Rattle.why_top.specs.declared.explaining.Run.{Run}

-- lines that end by what is held of a run end as the run has to
pub ends_as_ran : (json : Bool) (text : List ℕ) (run : Run) (header : Header) (verdicts : Verdicts) (entries : LedgerMap) (ran : Ran) → IsRunOf run header verdicts entries ran
    → EndsBy json text run.bytes run.used run.done.result.result.outcome → EndsAsRan json text header verdicts entries ran
ends_as_ran json text run header verdicts entries ran is ends =
    subst (λ (b : Option Bytes). EndsBy json text b ran.used ran.effect.result.result.outcome) is.bytes
    (subst (λ (u : Used). EndsBy json text run.bytes u ran.effect.result.result.outcome) is.used
    (subst (λ (e : Effect). EndsBy json text run.bytes run.used e.result.result.outcome) is.effect ends))

-- in each form the last line is that of the result
pub ends_in_result : (json : Bool) (text : List ℕ) (bytes : Option Bytes) (used : Used) (outcome : EnvelopeOutcome) → EndsBy json text bytes used outcome → EndsIn (result_line outcome) text
ends_in_result true text bytes used outcome h = h
ends_in_result false text bytes used outcome h = (
  h.0 ++ (bytes_lines bytes ++ used_line used),
  h.1 ∙ ap (λ (x : List ℕ). h.0 ++ x) (sym (append_assoc (bytes_lines bytes) (used_line used) (result_line outcome)))
      ∙ sym (append_assoc h.0 (bytes_lines bytes ++ used_line used) (result_line outcome)),
)
