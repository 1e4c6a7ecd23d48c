-- The status that is due of `apply-list`, and the outputs of a list that are stored.
use Rattle.std.proofs.Common.{◌≡◌, ◌≤◌, ℕ, true, List, ◌++◌, Option, All, length, refl, sym, ap, ◌∙◌, subst}
use Rattle.std.proofs.lemmas.List.Elements.{All-from_recursion}
use Rattle.std.specs.FinMap.{get}
use Rattle.apply_spec.specs.ListRuns.{kept_count, run_list}
use Rattle.apply_spec.specs.Outputs.{Outputs, outputs_after, outputs_with, preimages_of, results_of}
use Rattle.apply_spec.specs.Runs.{new_header}
use Rattle.invoke_types.specs.declared.success.SuccessPreimage.{SuccessPreimage}
use Rattle.ledger_file.proofs.Lemmas.{file_is_read}
use Rattle.ledger_spec.specs.LedgerFile.{ledger_bytes}
use Rattle.ledger_spec.specs.LedgerMap.{LedgerMap}
use Rattle.ledger_spec.specs.declared.LedgerWhy.TheVariants as ledger_why
use Rattle.ledger_types.specs.Verdicts.{verdicts_format, verdicts_lawful}
use Rattle.ledger_types.specs.declared.header.Header.{Header}
use Rattle.ledger_types.specs.declared.verdicts.Verdicts.{Verdicts}
use Rattle.tx_results.specs.Report.{report_bytes}
use Rattle.tx_results.specs.declared.results.TransactionResultPair.{TransactionResultPair}
use Rattle.tx_xdr.specs.Envelope.{envelope_format, envelopes_format}
use Rattle.tx_xdr.specs.declared.envelope.Envelope.{Envelope}
use Rattle.xdr_spec.specs.Format.{list}
use Rattle.xdr_spec.proofs.Lemmas.{spells_decoded}
use Rattle.command_io.specs.Inputs.{ledger_in, verdicts_in, list_in}
use Rattle.command_io.specs.Product.{file}
use Rattle.command_io.proofs.Lemmas.{envelopes_lawful}
use Rattle.soroban_top.specs.ListApplied.{kept_line, outputs_of_list, with_kept}
use Rattle.soroban_top.specs.ListLaws.{ListAppliedLaw, ListDoneLaw, ListLedgerLaw, ListMalformedLaw, ListNoLedgerLaw, ListVerdictsLaw}
use Rattle.soroban_top.specs.Outcome.{applied}
use Rattle.soroban_top.proofs.Due.{verdicts_due}
use Rattle.soroban_top.proofs.Later.{list_file, never_ledger, never_verdicts, verdicts_file}
use Rattle.soroban_top.proofs.Ledgers.{ledger_due, no_ledger}
use Rattle.soroban_top.proofs.Made.{outputs_applied, outputs_made_of}
use Rattle.soroban_top.proofs.Statuses.{done_due, malformed_due}

pub list_ledger : ListLedgerLaw
unfolding ledger_in
list_ledger a m bytes given at =
    let later = never_ledger ledger_why.Xdr at in
    rw given.has_ledger (ledger_due true bytes _ at given.are_bytes (λ l. verdicts_file _ later (λ place h. cc) (get m a.verdicts) a.verdicts _
    (λ v. list_file _ later (get m a.list) a.list (λ list. applied (file 3 a.report) (file 4 a.ledger_out) (outputs_of_list l v list a.close_time)))))

pub list_no_ledger : ListNoLedgerLaw
unfolding ledger_in
list_no_ledger a m bytes given =
    rw given.has_ledger (no_ledger bytes _ given.are_bytes (λ reason at l. verdicts_file _ (never_ledger reason at) (λ place h. cc) (get m a.verdicts) a.verdicts _
    (λ v. list_file _ (never_ledger reason at) (get m a.list) a.list (λ list. applied (file 3 a.report) (file 4 a.ledger_out) (outputs_of_list l v list a.close_time)))))

pub list_verdicts : ListVerdictsLaw
unfolding verdicts_in
list_verdicts a m bytes given at =
    rw (given.is_ledger, given.has_verdicts) (verdicts_due bytes _ at given.are_bytes (λ v. list_file _ (never_verdicts at) (get m a.list) a.list
    (λ list. applied (file 3 a.report) (file 4 a.ledger_out) (outputs_of_list given.ledger v list a.close_time))))

pub list_malformed : ListMalformedLaw
unfolding verdicts_in list_in
list_malformed a m bytes inputs at why =
    let given = inputs.before in
    let verdicts = spells_decoded verdicts_format verdicts_lawful inputs.verdicts inputs.bytes inputs.spells in
    let made = λ (list : List Envelope). applied (file 3 a.report) (file 4 a.ledger_out) (outputs_of_list given.ledger inputs.verdicts list a.close_time) in
    rw (given.is_ledger, given.has_verdicts, verdicts, inputs.has_list) (malformed_due envelopes_format envelopes_lawful bytes made at why inputs.are_bytes)

pub list_done : ListDoneLaw
unfolding verdicts_in list_in
list_done a m bytes inputs =
    let given = inputs.before in
    let verdicts = spells_decoded verdicts_format verdicts_lawful inputs.verdicts inputs.bytes inputs.spells in
    let made = λ (list : List Envelope). applied (file 3 a.report) (file 4 a.ledger_out) (outputs_of_list given.ledger inputs.verdicts list a.close_time) in
    rw (given.is_ledger, given.has_verdicts, verdicts, inputs.has_list) (done_due envelopes_format envelopes_lawful bytes made inputs.are_bytes)

pub list_stores : ListAppliedLaw
unfolding ledger_in verdicts_in list_in outputs_of_list
list_stores a m header entries verdicts bytes list given has spells =
    let ledger = file_is_read true given.ledger header entries given.is_ledger in
    let read = spells_decoded verdicts_format verdicts_lawful verdicts given.bytes given.spells in
    let spelled = spells_decoded envelopes_format envelopes_lawful list bytes spells in
    rw (given.has_ledger, ledger, given.has_verdicts, read, has, spelled) refl

-- ---- what is made of a list

-- each envelope of a list has a spelling
pub each_fits : (envelopes : List Envelope) → envelopes_format.fits envelopes → All (λ envelope. envelope_format.fits envelope) envelopes
unfolding list
each_fits envelopes fits = All-from_recursion envelope_format.fits envelopes fits.2

-- it has few enough
pub few_enough : (envelopes : List Envelope) → envelopes_format.fits envelopes → length envelopes ≤ 4294967295
unfolding list
few_enough envelopes fits = fits.0

-- the line about the runs that were kept, behind the lines of other outputs
with_kept_line : (made o : Outputs) (lines : List ℕ) (kept k count n : ℕ) → made ≡ o → lines ≡ made.lines ++ kept_line kept count
    → kept ≡ k → count ≡ n → outputs_made_of made.report made.ledger lines ≡ with_kept o k n
with_kept_line made o lines kept k count n e f g h = rw (f, g, h, e) refl

-- What is stored and printed, from what the run of a list and the writers give. The run was told this list by another name.
pub list_made : (ledger : Header × LedgerMap) (verdicts : Verdicts) (list run : List Envelope) (close_time : ℕ) (header : Header)
    (entries : LedgerMap) (pairs : List TransactionResultPair) (successes : List (Option SuccessPreimage)) (kept count : ℕ)
    (made : Outputs) (lines : List ℕ)
    → run ≡ list → header ≡ new_header ledger.0 close_time
    → entries ≡ (run_list ledger.0 verdicts ledger.1 run close_time).entries
    → pairs ≡ results_of (run_list ledger.0 verdicts ledger.1 run close_time)
    → successes ≡ preimages_of (run_list ledger.0 verdicts ledger.1 run close_time)
    → kept ≡ kept_count ledger.0 verdicts ledger.1 run close_time → count ≡ length list
    → made ≡ outputs_with header.seq pairs (report_bytes (record { pairs = pairs }) successes) (ledger_bytes header entries)
    → lines ≡ made.lines ++ kept_line kept count
    → outputs_made_of made.report made.ledger lines ≡ outputs_of_list ledger verdicts list close_time
unfolding outputs_of_list
list_made ledger verdicts list run close_time header entries pairs successes kept count made lines same h e p s k n m l =
    subst (λ (x : List Envelope). outputs_made_of made.report made.ledger lines ≡ outputs_of_list ledger verdicts x close_time) same
    (with_kept_line made (outputs_after (new_header ledger.0 close_time) (run_list ledger.0 verdicts ledger.1 run close_time)) lines
    kept (kept_count ledger.0 verdicts ledger.1 run close_time) count (length run)
    (m ∙ outputs_applied (new_header ledger.0 close_time) header (run_list ledger.0 verdicts ledger.1 run close_time) entries pairs successes h e p s)
    l k (n ∙ ap (λ (x : List Envelope). length x) (sym same)))
