-- Which refusal comes in place of lines (own). The files are read in this order: the ledger, the verdicts, and the envelope or
-- the set. Each is checked before the next is read. Memory may run out at any time.
use Rattle.std.specs.Prelude.{◌≡◌, ◌⊎◌, ℕ, ◌^◌, ◌<◌, Bool, true, List, length, map, None, Err, IsSomeAnd, ⊤}
use Rattle.std.specs.FinMap.{get}
use Rattle.std.specs.List.{AllByRecursion}
use Rattle.xdr_spec.specs.Format.{Format}
use Rattle.xdr_spec.specs.Refusal.{Refuses}
use Rattle.xdr_spec.specs.declared.Why.{Why}
use Rattle.xdr_core.specs.declared.error.ReadXdr.{ReadXdr}
use Rattle.xdr_core.specs.declared.error.ReadXdr.TheVariants as read_errors
use Rattle.base64_text.specs.Text.{bytes_in}
use Rattle.edge_io.specs.Contents.{FileMap}
use Rattle.ledger_types.specs.Verdicts.{verdicts_format}
use Rattle.ledger_types.specs.declared.header.Header.{Header}
use Rattle.ledger_file.specs.declared.error.LedgerErr.{LedgerErr}
use Rattle.ledger_file.specs.declared.error.LedgerErr.TheVariants as ledger_errors
use Rattle.ledger_spec.specs.LedgerFile.{ledger_of}
use Rattle.ledger_spec.specs.LedgerMap.{LedgerMap}
use Rattle.tx_xdr.specs.Envelope.{envelope_format}
use Rattle.tx_xdr.specs.Set.{set_format}
use Rattle.tx_xdr.specs.Stages.{stages_of}
use Rattle.tx_xdr.specs.declared.set.TxSet.{TxSet}
use Rattle.stage_runs.specs.Conflicts.{IsFirstConflict}
use Rattle.stage_runs.specs.Runs.{HasNoConflict, clusters_in}
use Rattle.set_place.specs.Places.{tx_at}
use Rattle.set_place.specs.declared.place.Place.{Place}
use Rattle.why_top.specs.Files.{FileSpells, Holds, HoldsLedger, HoldsVerdicts, Opens}
use Rattle.why_top.specs.declared.error.WhyErr.{WhyErr}
use Rattle.why_top.specs.declared.error.WhyErr.TheVariants as refusals
use Rattle.why_words.specs.declared.words.NoRequest.{NoRequest}
use Rattle.why_words.specs.declared.words.NoRequest.TheVariants as no_request
use Rattle.why_words.specs.declared.request.Request.{Request}
use Rattle.why_words.specs.declared.request.Target.{Target}
use Rattle.why_words.specs.declared.request.Target.TheVariants as targets

-- ---- errors of words

-- the refusal for words that are no request
abbrev pub of_words : NoRequest → WhyErr
of_words no_request.Usage = refusals.Usage
of_words (no_request.Shown text) = refusals.Shown text
of_words no_request.NoMemory = refusals.NoMemory

-- ---- errors of reading

-- the refusal for an error of reading a value in memory, which never stops
abbrev pub unread : ReadXdr → WhyErr
unread (read_errors.Bad e) = refusals.Malformed e.at e.why
unread read_errors.NoMemory = refusals.NoMemory
unread read_errors.Stopped = refusals.NoMemory

-- the refusal for an error of reading a ledger
abbrev pub unread_ledger : LedgerErr → WhyErr
unread_ledger (ledger_errors.Refused refusal) = refusals.Ledger refusal.why refusal.at
unread_ledger ledger_errors.NoMemory = refusals.NoMemory

-- ---- steps

-- a refusal by the first step, or by the second one with what came of the first
abbrev pub InTurn : {A : Type 0} → (WhyErr → Type 0) → (A → Type 0) → (A → WhyErr → Type 0) → WhyErr → Type 0
InTurn {A} First Came Second e = First e ⊎ ((x : A) × Came x × Second x e)

-- ---- a file's bytes

-- A call for the file failed, or the file has more than 2^30 bytes.
abbrev pub IsUnread : FileMap → List ℕ → WhyErr → Type 0
IsUnread m name (refusals.Fault fault) = fault ≡ name
IsUnread m name (refusals.TooLong long) = (long ≡ name) × IsSomeAnd (get m name) (λ bytes. 2 ^ 30 < length bytes)
IsUnread m name refusals.NoMemory = ⊤
IsUnread m name _ = ⊥

-- ---- what bytes mean

-- the bytes are not the file of a ledger which another one may follow
abbrev pub IsNoLedger : List ℕ → WhyErr → Type 0
IsNoLedger bytes (refusals.Ledger why at) = ledger_of true bytes ≡ Err (record { why = why; at = at })
IsNoLedger bytes refusals.NoMemory = ⊤
IsNoLedger bytes _ = ⊥

-- the bytes spell no verdicts
abbrev pub AreNoVerdicts : List ℕ → WhyErr → Type 0
AreNoVerdicts bytes (refusals.Verdicts at) = (why : Why) × Refuses verdicts_format bytes at why
AreNoVerdicts bytes refusals.NoMemory = ⊤
AreNoVerdicts bytes _ = ⊥

-- the text in the file of this name is to be base64, and is not
abbrev pub IsNoBase64 : Bool → List ℕ → List ℕ → WhyErr → Type 0
IsNoBase64 base64 name text (refusals.NotBase64 wrong) = (base64 ≡ true) × (wrong ≡ name) × (bytes_in text ≡ None)
IsNoBase64 base64 name text refusals.NoMemory = ⊤
IsNoBase64 base64 name text _ = ⊥

-- the bytes spell no value
abbrev pub IsNoSpelling : {V : Type 0} → Format V → List ℕ → WhyErr → Type 0
IsNoSpelling F bytes (refusals.Malformed at why) = Refuses F bytes at why
IsNoSpelling F bytes refusals.NoMemory = ⊤
IsNoSpelling F bytes _ = ⊥

-- the same of a text, which may be base64
abbrev pub IsRefusedText : {V : Type 0} → Format V → Bool → List ℕ → List ℕ → WhyErr → Type 0
IsRefusedText F base64 name text = InTurn (IsNoBase64 base64 name text) (Opens base64 text) (IsNoSpelling F)

-- The set's first conflict; or the set has no conflict, and no transaction at the place.
abbrev pub IsRefusedPlace : Place → TxSet → WhyErr → Type 0
IsRefusedPlace place set (refusals.Conflict stage a b key) =
    IsFirstConflict (map clusters_in (stages_of set)) stage a b key.items
IsRefusedPlace place set (refusals.NoPlace missing) =
    (missing ≡ place) × AllByRecursion HasNoConflict (map clusters_in (stages_of set))
    × (tx_at (map clusters_in (stages_of set)) place ≡ None)
IsRefusedPlace place set refusals.NoMemory = ⊤
IsRefusedPlace place set _ = ⊥

-- ---- the files of these names

abbrev pub IsRefusedLedger : FileMap → List ℕ → WhyErr → Type 0
IsRefusedLedger m name = InTurn (IsUnread m name) (Holds m name) IsNoLedger

abbrev pub AreRefusedVerdicts : FileMap → List ℕ → WhyErr → Type 0
AreRefusedVerdicts m name = InTurn (IsUnread m name) (Holds m name) AreNoVerdicts

abbrev pub IsRefusedFile : {V : Type 0} → Format V → FileMap → Bool → List ℕ → WhyErr → Type 0
IsRefusedFile F m base64 name = InTurn (IsUnread m name) (Holds m name) (IsRefusedText F base64 name)

-- ---- a request

abbrev pub IsRefusedTarget : Target → Request → FileMap → WhyErr → Type 0
IsRefusedTarget targets.Envelope request m = IsRefusedFile envelope_format m request.base64 request.file
IsRefusedTarget (targets.InSet place) request m =
    InTurn (IsRefusedFile set_format m request.base64 request.file)
    (FileSpells set_format m request.base64 request.file) (IsRefusedPlace place)

-- this refusal is due, or memory ran out, or a call failed
abbrev pub IsRefused : Request → FileMap → WhyErr → Type 0
IsRefused request m =
    InTurn (IsRefusedLedger m request.ledger)
    (λ (ledger : Header × LedgerMap). HoldsLedger m request.ledger ledger.0 ledger.1)
    (λ ledger. InTurn (AreRefusedVerdicts m request.verdicts) (HoldsVerdicts m request.verdicts)
    (λ verdicts. IsRefusedTarget request.target request m))
