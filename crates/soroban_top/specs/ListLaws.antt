-- What `apply-list` stores, and which status is due, in the words of RFC 4506 and of ledger maps (own).
use Rattle.std.specs.Prelude.{◌≡◌, ◌↔◌, ℕ, true, List, Ok, Some}
use Rattle.command_words.specs.declared.request.ApplyListRequest.{ApplyListRequest}
use Rattle.command_words.specs.declared.request.Request.TheVariants.{ApplyList}
use Rattle.edge_io.specs.Contents.{FileMap}
use Rattle.ledger_file.specs.FileOf.{IsFileOf}
use Rattle.ledger_spec.specs.LedgerMap.{LedgerMap}
use Rattle.ledger_spec.specs.declared.LedgerWhy.{LedgerWhy}
use Rattle.ledger_spec.specs.declared.LedgerWhy.TheVariants as ledger_why
use Rattle.ledger_types.specs.File.{file_format}
use Rattle.ledger_types.specs.Verdicts.{verdicts_format}
use Rattle.ledger_types.specs.declared.header.Header.{Header}
use Rattle.ledger_types.specs.declared.verdicts.Verdicts.{Verdicts}
use Rattle.tx_xdr.specs.Envelope.{envelopes_format}
use Rattle.tx_xdr.specs.declared.envelope.Envelope.{Envelope}
use Rattle.xdr_spec.specs.Format.{IsBytes}
use Rattle.xdr_spec.specs.Refusal.{Refuses, Spells}
use Rattle.xdr_spec.specs.declared.Why.{Why}
use Rattle.command_io.specs.Inputs.{content_of}
use Rattle.command_io.specs.Product.{file}
use Rattle.command_io.specs.declared.status.Status.{Status}
use Rattle.command_io.specs.declared.status.Status.TheVariants as status
use Rattle.soroban_top.specs.Laws.{AreFilesOf, HasLedger, HasLedgerFile}
use Rattle.soroban_top.specs.ListApplied.{list_outputs}
use Rattle.soroban_top.specs.Outcome.{applied, due, outcome_of}

-- the ledger's and the verdicts' file are accepted, and the list's file has these bytes
pub record HasListInputs (a : ApplyListRequest) (m : FileMap) (list : List ℕ) : Type 0 where
  pub bytes : List ℕ
  pub before : HasLedger a.ledger a.verdicts m bytes
  pub verdicts : Verdicts
  pub spells : Spells verdicts_format verdicts bytes
  pub has_list : content_of m a.list ≡ Ok list
  pub are_bytes : IsBytes list

-- the status that is due for this `apply-list`
abbrev pub due_of_list : ApplyListRequest → FileMap → Status
due_of_list a m = due (Some (ApplyList a)) m

-- Ledger with reason Xdr is due exactly if the bytes are refused, at that offset, whatever else is wrong.
abbrev pub ListLedgerLaw : Type 0
ListLedgerLaw = (a : ApplyListRequest) (m : FileMap) (bytes : List ℕ) → HasLedgerFile a.ledger m bytes → (at : ℕ)
    → (due_of_list a m ≡ status.Ledger ledger_why.Xdr at) ↔ ((why : Why) × Refuses file_format bytes at why)

-- Ledger is due, with any reason, exactly if the bytes are not the file of a ledger that another ledger may follow.
abbrev pub ListNoLedgerLaw : Type 0
ListNoLedgerLaw = (a : ApplyListRequest) (m : FileMap) (bytes : List ℕ) → HasLedgerFile a.ledger m bytes
    → ((why : LedgerWhy) × (at : ℕ) × (due_of_list a m ≡ status.Ledger why at))
    ↔ (¬ ((header : Header) × (entries : LedgerMap) × IsFileOf true bytes header entries))

-- Verdicts is due exactly if the bytes are refused, at that offset.
abbrev pub ListVerdictsLaw : Type 0
ListVerdictsLaw = (a : ApplyListRequest) (m : FileMap) (bytes : List ℕ) → HasLedger a.ledger a.verdicts m bytes → (at : ℕ)
    → (due_of_list a m ≡ status.Verdicts at) ↔ ((why : Why) × Refuses verdicts_format bytes at why)

-- Malformed is due exactly if the bytes spell no list of envelopes, with the offset and the reason of their refusal.
abbrev pub ListMalformedLaw : Type 0
ListMalformedLaw = (a : ApplyListRequest) (m : FileMap) (bytes : List ℕ) → HasListInputs a m bytes → (at : ℕ) (why : Why)
    → (due_of_list a m ≡ status.Malformed at why) ↔ Refuses envelopes_format bytes at why

-- Done is due exactly if they spell a list, whatever the results of its transactions.
abbrev pub ListDoneLaw : Type 0
ListDoneLaw = (a : ApplyListRequest) (m : FileMap) (bytes : List ℕ) → HasListInputs a m bytes
    → (due_of_list a m ≡ status.Done) ↔ ((list : List Envelope) × Spells envelopes_format list bytes)

-- The outputs of the list over the ledger are stored and printed.
abbrev pub ListAppliedLaw : Type 0
ListAppliedLaw = (a : ApplyListRequest) (m : FileMap) (header : Header) (entries : LedgerMap) (verdicts : Verdicts)
    (bytes : List ℕ) (list : List Envelope) → AreFilesOf a.ledger a.verdicts m header entries verdicts
    → content_of m a.list ≡ Ok bytes → Spells envelopes_format list bytes
    → outcome_of (ApplyList a) m
    ≡ Ok (applied (file 3 a.report) (file 4 a.ledger_out) (list_outputs header verdicts entries list a.close_time))
