-- The files that `apply` stores and the lines that it prints (own; results are those of the Stellar XDR files).
use Rattle.std.specs.Prelude.{ℕ, ◌-◌, Bool, true, false, List, Option, ◌++◌, length, map, count_by, codes, decimal}
use Rattle.hex.specs.Hex.{encode_lower}
use Rattle.sha2.specs.Sha256.{sha256}
use Rattle.invoke_types.specs.declared.success.SuccessPreimage.{SuccessPreimage}
use Rattle.ledger_types.specs.declared.header.Header.{Header}
use Rattle.ledger_types.specs.declared.verdicts.Verdicts.{Verdicts}
use Rattle.tx_results.specs.Report.{report_bytes}
use Rattle.tx_xdr.specs.declared.set.TxSet.{TxSet}
use Rattle.tx_results.specs.declared.results.EnvelopeOutcome.{EnvelopeOutcome}
use Rattle.tx_results.specs.declared.results.EnvelopeOutcome.TheVariants as outcomes
use Rattle.tx_results.specs.declared.results.TransactionResultPair.{TransactionResultPair}
use Rattle.ledger_spec.specs.LedgerFile.{ledger_bytes}
use Rattle.stage_runs.specs.Maps.{LedgerMap}
use Rattle.stage_runs.specs.Runs.{RunState}
use Rattle.apply_spec.specs.Enforced.{is_success}
use Rattle.apply_spec.specs.Runs.{run_set, new_header}

-- ---- the lines

-- a transaction succeeded if its result code is txSUCCESS, a fee bump if it is txFEE_BUMP_INNER_SUCCESS
abbrev pub has_succeeded : EnvelopeOutcome → Bool
has_succeeded (outcomes.Transaction outcome) = is_success outcome
has_succeeded (outcomes.FeeBumpInnerSuccess inner) = true
has_succeeded (outcomes.FeeBumpInnerFailed inner) = false

-- the number of transactions that succeeded
abbrev pub successes : List TransactionResultPair → ℕ
successes results = count_by (λ pair. has_succeeded pair.result.outcome) results

-- the first line: `ledger N: T transactions, S succeeded, F failed`
abbrev pub count_line : ℕ → List TransactionResultPair → List ℕ
count_line seq results =
    codes "ledger " ++ decimal seq ++ codes ": " ++ decimal (length results) ++ codes " transactions, "
    ++ decimal (successes results) ++ codes " succeeded, " ++ decimal (length results - successes results) ++ codes " failed\n"

-- a name and the SHA-256 of these bytes, in hex
abbrev pub hash_line : List ℕ → List ℕ → List ℕ
hash_line name bytes = name ++ encode_lower (sha256 bytes) ++ codes "\n"

-- ---- both files and all lines

-- the bytes of the report and of the new ledger, and the lines that are printed
pub record Outputs : Type 0 where
  pub report : List ℕ
  pub ledger : List ℕ
  pub lines : List ℕ

-- both files with the lines about them
abbrev pub outputs_with : ℕ → List TransactionResultPair → List ℕ → List ℕ → Outputs
outputs_with seq results report ledger = record {
  report = report;
  ledger = ledger;
  lines = count_line seq results ++ hash_line (codes "report ") report ++ hash_line (codes "ledger ") ledger;
}

-- the results of a run, in the set's order
abbrev pub results_of : RunState → List TransactionResultPair
results_of running = map (λ reported. reported.result) running.results

-- for each of them the success preimage of a contract call that succeeded
abbrev pub preimages_of : RunState → List (Option SuccessPreimage)
preimages_of running = map (λ reported. reported.success) running.results

-- the bytes of the report of a run
abbrev pub report_after : RunState → List ℕ
report_after running = report_bytes (record { pairs = results_of running }) (preimages_of running)

-- the outputs after a run of the set
abbrev pub outputs_after : Header → RunState → Outputs
outputs_after header running =
    outputs_with header.seq (results_of running) (report_after running) (ledger_bytes header running.entries)

-- the outputs of a set over a ledger
abbrev pub outputs : Header → Verdicts → LedgerMap → TxSet → ℕ → Outputs
outputs header verdicts entries set close_time =
    outputs_after (new_header header close_time) (run_set header verdicts entries set close_time)
