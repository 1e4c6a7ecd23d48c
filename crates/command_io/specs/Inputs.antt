-- The files that a command reads: each exists, is not too long, and is checked (own).
use Rattle.std.specs.Prelude.{ℕ, Bool, true, false, ◌^◌, List, [], ◌∷◌, length, Option, Some, None, Result, Ok, Err, IsSome}
use Rattle.std.specs.Prelude.{nat_lt, if◌then◌else◌, ⊤}
use Rattle.std.specs.FinMap.{get}
use Rattle.base64_text.specs.Text.{bytes_in}
use Rattle.change_log.specs.Log.{log_format}
use Rattle.change_log.specs.declared.error.PlayErr.{PlayErr}
use Rattle.change_log.specs.declared.error.PlayErr.TheVariants as play_errors
use Rattle.change_log.specs.declared.log.Log.{Log}
use Rattle.edge_io.specs.Contents.{FileMap}
use Rattle.ledger_spec.specs.LedgerFile.{ledger_of}
use Rattle.ledger_spec.specs.LedgerMap.{LedgerMap}
use Rattle.ledger_spec.specs.declared.LedgerRefusal.{LedgerRefusal}
use Rattle.ledger_types.specs.Verdicts.{verdicts_format}
use Rattle.ledger_types.specs.declared.header.Header.{Header}
use Rattle.ledger_types.specs.declared.verdicts.Verdicts.{Verdicts}
use Rattle.tx_xdr.specs.Set.{set_format}
use Rattle.tx_xdr.specs.Envelope.{envelope_format, envelopes_format}
use Rattle.tx_xdr.specs.declared.envelope.Envelope.{Envelope}
use Rattle.tx_xdr.specs.declared.set.TxSet.{TxSet}
use Rattle.value_types.specs.Formats.{scval_format}
use Rattle.value_types.specs.declared.value.ScVal.{ScVal}
use Rattle.xdr_spec.specs.Decoded.{decoded}
use Rattle.xdr_spec.specs.declared.XdrErr.{XdrErr}
use Rattle.xdr_core.specs.declared.error.ReadXdr.{ReadXdr}
use Rattle.xdr_core.specs.declared.error.ReadXdr.TheVariants as read_errors
use Rattle.ledger_file.specs.declared.error.LedgerErr.{LedgerErr}
use Rattle.ledger_file.specs.declared.error.LedgerErr.TheVariants as ledger_errors
use Rattle.command_io.specs.Product.{File}
use Rattle.command_io.specs.Steps.{◌>>=◌}
use Rattle.command_io.specs.declared.status.Status.{Status}
use Rattle.command_io.specs.declared.status.Status.TheVariants as status
use Rattle.command_io.specs.declared.status.Status.TheVariants.{Fault, TooLong, NotBase64}

-- the bytes of a file, if it exists and is not too long
abbrev pub bytes_of : Option (List ℕ) → List ℕ → Result (List ℕ) Status
bytes_of None name = Err (Fault name)
bytes_of (Some bytes) name = if nat_lt (2 ^ 30) (length bytes) then Err (TooLong name) else Ok bytes

abbrev pub content_of : FileMap → List ℕ → Result (List ℕ) Status
content_of m name = bytes_of (get m name) name

-- each of these files exists
abbrev pub AreThere : List File → FileMap → Type 0
AreThere [] m = ⊤
AreThere (file ∷ files) m = IsSome (get m file.name) × AreThere files m

-- the bytes that a base64 text encodes
abbrev pub as_bytes : List ℕ → Option (List ℕ) → Result (List ℕ) Status
as_bytes name None = Err (NotBase64 name)
as_bytes name (Some bytes) = Ok bytes

-- the bytes in a file of this name, which may be base64 text
abbrev pub opened : Bool → List ℕ → List ℕ → Result (List ℕ) Status
opened false name text = Ok text
opened true name text = as_bytes name (bytes_in text)

-- ---- what a file's bytes mean

abbrev pub as_ledger : {A : Type 0} → Result A LedgerRefusal → Result A Status
as_ledger (Ok ledger) = Ok ledger
as_ledger (Err refusal) = Err (status.Ledger refusal.why refusal.at)

-- a ledger that another ledger may follow
unfoldable pub ledger_in : List ℕ → Result (Header × LedgerMap) Status
ledger_in bytes = as_ledger (ledger_of true bytes)

-- any ledger, also one that no ledger may follow
unfoldable pub any_ledger_in : List ℕ → Result (Header × LedgerMap) Status
any_ledger_in bytes = as_ledger (ledger_of false bytes)

abbrev pub as_verdicts : {A : Type 0} → Result A XdrErr → Result A Status
as_verdicts (Ok verdicts) = Ok verdicts
as_verdicts (Err e) = Err (status.Verdicts e.at)

unfoldable pub verdicts_in : List ℕ → Result Verdicts Status
verdicts_in bytes = as_verdicts (decoded verdicts_format bytes)

abbrev pub as_spelled : {A : Type 0} → Result A XdrErr → Result A Status
as_spelled (Ok set) = Ok set
as_spelled (Err e) = Err (status.Malformed e.at e.why)

-- the status of an error of reading a set, an envelope or a value in memory, which never stops
abbrev pub unread : ReadXdr → Status
unread (read_errors.Bad e) = status.Malformed e.at e.why
unread read_errors.NoMemory = status.NoMemory
unread read_errors.Stopped = status.NoMemory

-- the status of an error of reading a ledger
abbrev pub unread_ledger : LedgerErr → Status
unread_ledger (ledger_errors.Refused refusal) = status.Ledger refusal.why refusal.at
unread_ledger ledger_errors.NoMemory = status.NoMemory

-- the status of an error of playing a log
abbrev pub unplayed : PlayErr → Status
unplayed (play_errors.Unfit at) = status.Unfit at
unplayed play_errors.NoMemory = status.NoMemory

-- a set
unfoldable pub set_in : List ℕ → Result TxSet Status
set_in bytes = as_spelled (decoded set_format bytes)

-- the same, of a file that may be base64 text
abbrev pub set_opened : Bool → List ℕ → List ℕ → Result TxSet Status
set_opened base64 name text = do
  bytes ← opened base64 name text
  set_in bytes

-- an envelope
unfoldable pub envelope_in : List ℕ → Result Envelope Status
envelope_in bytes = as_spelled (decoded envelope_format bytes)

abbrev pub envelope_opened : Bool → List ℕ → List ℕ → Result Envelope Status
envelope_opened base64 name text = do
  bytes ← opened base64 name text
  envelope_in bytes

-- a list of envelopes
unfoldable pub list_in : List ℕ → Result (List Envelope) Status
list_in bytes = as_spelled (decoded envelopes_format bytes)

-- a value
unfoldable pub value_in : List ℕ → Result ScVal Status
value_in bytes = as_spelled (decoded scval_format bytes)

-- a change log
unfoldable pub log_in : List ℕ → Result Log Status
log_in bytes = as_spelled (decoded log_format bytes)

-- ---- the files of these names

abbrev pub ledger_at : FileMap → List ℕ → Result (Header × LedgerMap) Status
ledger_at m name = do
  bytes ← content_of m name
  ledger_in bytes

-- the ledger in the file of this name, also one that no ledger may follow
abbrev pub any_ledger_at : FileMap → List ℕ → Result (Header × LedgerMap) Status
any_ledger_at m name = do
  bytes ← content_of m name
  any_ledger_in bytes

abbrev pub verdicts_at : FileMap → List ℕ → Result Verdicts Status
verdicts_at m name = do
  bytes ← content_of m name
  verdicts_in bytes

abbrev pub set_at : FileMap → Bool → List ℕ → Result TxSet Status
set_at m base64 name = do
  text ← content_of m name
  set_opened base64 name text

abbrev pub envelope_at : FileMap → Bool → List ℕ → Result Envelope Status
envelope_at m base64 name = do
  text ← content_of m name
  envelope_opened base64 name text

-- the list in the file of this name
abbrev pub list_at : FileMap → List ℕ → Result (List Envelope) Status
list_at m name = do
  bytes ← content_of m name
  list_in bytes

-- the log in the file of this name
abbrev pub log_at : FileMap → List ℕ → Result Log Status
log_at m name = do
  bytes ← content_of m name
  log_in bytes
