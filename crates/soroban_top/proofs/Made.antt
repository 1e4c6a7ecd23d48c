-- What a set makes of a ledger, from what its run and the writers give.
use Rattle.std.specs.List.{AllByRecursion}
use Rattle.std.proofs.Common.{◌≡◌, ℕ, ◌<◌, ◌^◌, List, Option, Ok, Err, IsTrue, map, ap, arith, refl}
use borrow.Author.Tests.{ltb-true}
use Rattle.apply_spec.specs.Outputs.{Outputs, outputs_after, outputs_with}
use Rattle.apply_spec.specs.Runs.{new_header}
use Rattle.invoke_types.specs.declared.success.SuccessPreimage.{SuccessPreimage}
use Rattle.ledger_spec.specs.LedgerFile.{has_next, ledger_bytes}
use Rattle.ledger_spec.specs.LedgerMap.{LedgerMap}
use Rattle.ledger_types.specs.Header.{header_format, header_in}
use Rattle.ledger_types.specs.declared.header.Header.{Header}
use Rattle.stage_runs.specs.Conflicts.{IsFirstConflict}
use Rattle.stage_runs.specs.Runs.{HasNoConflict, RunState}
use Rattle.tx_results.specs.Report.{report_bytes}
use Rattle.tx_results.specs.declared.results.TransactionResultPair.{TransactionResultPair}
use Rattle.tx_xdr.specs.declared.set.TxSet.{TxSet}
use Rattle.xdr_spec.specs.Format.{number32, number64}
use Rattle.command_io.specs.declared.status.Status.TheVariants.{Conflict}
use Rattle.soroban_top.specs.FirstConflict.{free_of_conflict, stages_in, unless_found}
use Rattle.soroban_top.proofs.FirstConflicts.{first_conflict_is, no_conflict_is}

-- the header of the ledger that follows can be written
pub new_header_fits : (header : Header) (close_time : ℕ) → header_format.fits header → IsTrue (has_next header) → close_time < 2 ^ 64 → header_format.fits (new_header header close_time)
unfolding header_in number32 number64
new_header_fits header close_time fits next small =
    let below : header.seq < 4000000000 = ltb-true header.seq 4000000000 next in
    (fits.0, (fits.1.0, (omega arith, (small, fits.1.1.1.1))))

abbrev pub outputs_made_of : List ℕ → List ℕ → List ℕ → Outputs
outputs_made_of report ledger lines = record { report = report; ledger = ledger; lines = lines }

-- the files and the lines about them
pub put_together : (seq : ℕ) (pairs : List TransactionResultPair) (report ledger lines r l : List ℕ) → report ≡ r → ledger ≡ l → lines ≡ (outputs_with seq pairs report ledger).lines → outputs_made_of report ledger lines ≡ outputs_with seq pairs r l
put_together seq pairs report ledger lines r l e f g = rw (g, e, f) refl

-- the outputs of what was applied are those of the run
pub outputs_applied : (header given : Header) (running : RunState) (entries : LedgerMap) (pairs : List TransactionResultPair) (successes : List (Option SuccessPreimage)) → given ≡ header → entries ≡ running.entries → pairs ≡ map (λ r. r.result) running.results → successes ≡ map (λ r. r.success) running.results
    → outputs_with given.seq pairs (report_bytes (record { pairs = pairs }) successes) (ledger_bytes given entries) ≡ outputs_after header running
outputs_applied header given running entries pairs successes e f g h = rw (e, f, g, h) refl

-- a set without a conflict goes on
pub free_is : (set : TxSet) → AllByRecursion HasNoConflict (stages_in set) → free_of_conflict set ≡ Ok tt
unfolding free_of_conflict
free_is set free = ap unless_found ((no_conflict_is (stages_in set)).1 free)

-- a set with a conflict ends with it
pub conflict_is : (set : TxSet) (stage a b : ℕ) (key : List ℕ) → IsFirstConflict (stages_in set) stage a b key → free_of_conflict set ≡ Err (Conflict stage a b key)
unfolding free_of_conflict
conflict_is set stage a b key first = ap unless_found ((first_conflict_is (stages_in set) (record { stage = stage; a = a; b = b; key = key })).1 first)
