-- What is printed after a run (own).
use Rattle.std.specs.Prelude.{◌≡◌, Bool, true, false, List, ℕ, ◌++◌, Option}
use Rattle.budget_meter.specs.declared.budget.Used.{Used}
use Rattle.ledger_types.specs.declared.header.Header.{Header}
use Rattle.ledger_types.specs.declared.verdicts.Verdicts.{Verdicts}
use Rattle.tx_xdr.specs.declared.envelope.Envelope.{Envelope}
use Rattle.tx_results.specs.declared.results.EnvelopeOutcome.{EnvelopeOutcome}
use Rattle.stage_runs.specs.Maps.{LedgerMap}
use Rattle.stage_runs.specs.Transactions.{Effect}
use Rattle.apply_spec.specs.Enforced.{enforced}
use Rattle.apply_spec.specs.Simulated.{Simulated, simulated}
use Rattle.apply_spec.specs.SimulationFile.{result_line, used_line}
use Rattle.run_trace.specs.Summed.{bytes_lines}
use Rattle.run_trace.specs.declared.summary.Bytes.{Bytes}
use Rattle.why_top.specs.Counted.{bytes_of}
use Rattle.why_words.specs.declared.request.Form.{Form}

-- an envelope that ran, its effect, and the sums of its whole run
pub record Ran : Type 0 where
  pub envelope : Envelope
  pub effect : Effect
  pub used : Used

abbrev pub ran_of : Simulated → Ran
ran_of s = record { envelope = s.envelope; effect = s.effect; used = s.used }

abbrev pub ran_with : Envelope → Effect → Ran
ran_with envelope effect = record { envelope = envelope; effect = effect; used = effect.used }

-- with the footprint that the run needs, or with the one that the envelope declares
abbrev pub ran_by : Bool → Header → Verdicts → LedgerMap → Envelope → Ran
ran_by true header verdicts entries envelope = ran_of (simulated header verdicts entries envelope)
ran_by false header verdicts entries envelope = ran_with envelope (enforced header verdicts entries envelope)

abbrev pub effect_by : Bool → Header → Verdicts → LedgerMap → Envelope → Effect
effect_by recorded header verdicts entries envelope = (ran_by recorded header verdicts entries envelope).effect

-- the lines of what was read, written and used, and that of the result
abbrev pub last_lines : Option Bytes → Used → EnvelopeOutcome → List ℕ
last_lines bytes used outcome = bytes_lines bytes ++ (used_line used ++ result_line outcome)

-- these are the last lines
abbrev pub EndsIn : List ℕ → List ℕ → Type 0
EndsIn lines text = (before : List ℕ) × (text ≡ before ++ lines)

-- Behind a document stands the line of the result alone.
abbrev pub EndsBy : Bool → List ℕ → Option Bytes → Used → EnvelopeOutcome → Type 0
EndsBy true text bytes used outcome = EndsIn (result_line outcome) text
EndsBy false text bytes used outcome = EndsIn (last_lines bytes used outcome) text

-- the text ends as that of this run has to
abbrev pub EndsAsRan : Bool → List ℕ → Header → Verdicts → LedgerMap → Ran → Type 0
EndsAsRan json text header verdicts entries ran =
    EndsBy json text (bytes_of header verdicts entries ran.envelope ran.effect) ran.used ran.effect.result.result.outcome

-- the lines of an envelope over these entries, in this form
abbrev pub Explains : Form → List ℕ → Header → Verdicts → LedgerMap → Envelope → Type 0
Explains form text header verdicts entries envelope =
    EndsAsRan form.json text header verdicts entries (ran_by form.recorded header verdicts entries envelope)
