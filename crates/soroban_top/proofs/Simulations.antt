-- What a simulation stores and prints, from what it returns.
use Rattle.std.specs.Prelude.{FitsSigned}
use Rattle.std.specs.Int.{w64}
use Rattle.std.proofs.Common.{◌≡◌, ◌<◌, ◌^◌, ℕ, pos, Option, Some, None, IfSome, IfOk, Result, Ok, Err, arith, refl, ap₂, ◌∙◌}
use Rattle.apply_spec.specs.Runs.{running_header}
use Rattle.apply_spec.specs.Simulated.{Simulated, simulated}
use Rattle.apply_spec.specs.SimulationFile.{SimulationOutputs, data_of, simulation_bytes, simulation_lines}
use Rattle.invoke_types.specs.Success.{success_format}
use Rattle.invoke_types.specs.declared.success.SuccessPreimage.{SuccessPreimage}
use Rattle.ledger_spec.specs.LedgerMap.{LedgerMap}
use Rattle.ledger_types.specs.declared.header.Header.{Header}
use Rattle.ledger_types.specs.declared.verdicts.Verdicts.{Verdicts}
use Rattle.tx_results.specs.Results.{pair_format, result_format}
use Rattle.tx_results.specs.declared.results.TransactionResultPair.{TransactionResultPair}
use Rattle.tx_xdr.specs.Envelope.{envelope_format, transaction_in}
use Rattle.tx_xdr.specs.Ext.{as_soroban, ext_format}
use Rattle.tx_xdr.specs.Soroban.{footprint_format, soroban_format}
use Rattle.tx_xdr.specs.Transaction.{transaction_format}
use Rattle.tx_xdr.specs.declared.envelope.Envelope.{Envelope}
use Rattle.tx_xdr.specs.declared.transaction.Transaction.{Transaction}
use Rattle.tx_xdr.specs.declared.transaction.TransactionExt.{TransactionExt}
use Rattle.tx_xdr.specs.declared.transaction.TransactionExt.TheVariants as exts
use Rattle.tx_xdr.proofs.Lemmas.{transaction_in_fits}
use Rattle.xdr_core.specs.declared.error.NoMemory.{NoMemory}
use Rattle.xdr_spec.specs.Format.{list, number32, optional, signed64}
use Rattle.soroban_top.specs.Outcome.{simulation_of}
use Rattle.soroban_top.specs.Views.{simulation_in}
use Rattle.soroban_top.specs.declared.simulation.Simulation.{Simulation}

-- ---- what is written has a spelling

ext_fits : (ext : TransactionExt) → ext_format.fits ext → IfSome (as_soroban ext) soroban_format.fits
unfolding ext_format
ext_fits exts.None h = tt
ext_fits (exts.Soroban resources) h = h

transaction_data_fits : (tx : Transaction) → transaction_format.fits tx → IfSome (as_soroban tx.ext) soroban_format.fits
unfolding transaction_format
transaction_data_fits tx h = ext_fits tx.ext h.1.1.1.1.1.1

-- the Soroban data of an envelope
pub data_fits : (envelope : Envelope) → envelope_format.fits envelope → IfSome (as_soroban (transaction_in envelope).ext) soroban_format.fits
data_fits envelope h = transaction_data_fits (transaction_in envelope) (transaction_in_fits envelope h)

signed_fits : (n : ℕ) → n < 2 ^ 63 → FitsSigned w64 (pos n)
signed_fits n lt = record { sfits = lt }

pub no_data_fits : soroban_format.fits (data_of exts.None)
unfolding soroban_format footprint_format list number32 signed64
no_data_fits = (((omega arith, omega arith, tt), (omega arith, omega arith, tt)), (omega arith, (omega arith, (omega arith, signed_fits 0 (omega arith)))))

pub result_fits : (pair : TransactionResultPair) → pair_format.fits pair → result_format.fits pair.result
unfolding pair_format
result_fits pair h = h.1

pub success_fits : (success : Option SuccessPreimage) → IfSome success success_format.fits → (optional success_format).fits success
unfolding optional
success_fits None h = tt
success_fits (Some success) h = h

-- ---- the file and the lines

abbrev outputs_of : Simulated → SimulationOutputs
outputs_of s = record { file = simulation_bytes s; lines = simulation_lines s }

made_of_found : (r : Result Simulation NoMemory) (s found : Simulated) → IfOk r (λ x. x.file.items ≡ simulation_bytes s) → IfOk r (λ x. x.lines.items ≡ simulation_lines s) → s ≡ found → IfOk r (λ x. simulation_in x ≡ outputs_of found)
made_of_found (Ok x) s found file lines is = rw (file, lines, is) refl
made_of_found (Err e) s found file lines is = tt

-- What was returned is what the definition says, so the file and the lines are, too.
pub found_as : (r : Result Simulation NoMemory) (s : Simulated) (running : Header) (ledger : Header × LedgerMap) (verdicts : Verdicts) (entries : LedgerMap) (envelope : Envelope) (close_time : ℕ)
    → IfOk r (λ x. x.file.items ≡ simulation_bytes s) → IfOk r (λ x. x.lines.items ≡ simulation_lines s) → running ≡ running_header ledger.0 close_time → entries ≡ ledger.1 → s ≡ simulated running verdicts entries envelope
    → IfOk r (λ x. simulation_in x ≡ simulation_of ledger verdicts envelope close_time)
unfolding simulation_of
found_as r s running ledger verdicts entries envelope close_time file lines is_running are_entries is =
    made_of_found r s (simulated (running_header ledger.0 close_time) verdicts ledger.1 envelope) file lines (is ∙ ap₂ (λ (h : Header) (m : LedgerMap). simulated h verdicts m envelope) is_running are_entries)
