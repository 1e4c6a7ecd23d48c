-- What the files hold that a trace is made of (own).
use Rattle.std.specs.Prelude.{◌≡◌, ℕ, ◌^◌, ◌≤◌, Bool, true, false, List, length, map, Some, Ok, IsSome}
use Rattle.std.specs.FinMap.{get}
use Rattle.std.specs.List.{AllByRecursion}
use Rattle.xdr_spec.specs.Format.{Format}
use Rattle.xdr_spec.specs.Refusal.{Spells}
use Rattle.base64_text.specs.Text.{bytes_in}
use Rattle.edge_io.specs.Contents.{FileMap}
use Rattle.ledger_types.specs.Verdicts.{verdicts_format}
use Rattle.ledger_types.specs.declared.header.Header.{Header}
use Rattle.ledger_types.specs.declared.verdicts.Verdicts.{Verdicts}
use Rattle.ledger_spec.specs.LedgerFile.{ledger_of}
use Rattle.ledger_spec.specs.LedgerMap.{LedgerMap}
use Rattle.tx_xdr.specs.Envelope.{envelope_format}
use Rattle.tx_xdr.specs.declared.envelope.Envelope.{Envelope}
use Rattle.tx_xdr.specs.Set.{set_format}
use Rattle.tx_xdr.specs.Stages.{stages_of}
use Rattle.tx_xdr.specs.declared.set.TxSet.{TxSet}
use Rattle.stage_runs.specs.Runs.{HasNoConflict, clusters_in}
use Rattle.apply_spec.specs.Runs.{running_header}
use Rattle.set_place.specs.Places.{tx_at}
use Rattle.set_place.specs.declared.place.Place.{Place}
use Rattle.why_top.specs.Explained.{Explains}
use Rattle.why_top.specs.Placed.{EndsAsReported, ExplainsMet}
use Rattle.why_words.specs.declared.request.Request.{Request}
use Rattle.why_words.specs.declared.request.Target.{Target}
use Rattle.why_words.specs.declared.request.Target.TheVariants as targets

-- ---- what a file holds

-- a file of this name has these bytes, at most 2^30 of them
abbrev pub Holds : FileMap → List ℕ → List ℕ → Type 0
Holds m name bytes = (get m name ≡ Some bytes) × (length bytes ≤ 2 ^ 30)

-- a file of this name is that of a ledger which another one may follow
pub record HoldsLedger (m : FileMap) (name : List ℕ) (header : Header) (entries : LedgerMap) : Type 0 where
  pub bytes : List ℕ
  pub held : Holds m name bytes
  pub means : ledger_of true bytes ≡ Ok (header, entries)

pub record HoldsVerdicts (m : FileMap) (name : List ℕ) (verdicts : Verdicts) : Type 0 where
  pub bytes : List ℕ
  pub held : Holds m name bytes
  pub means : Spells verdicts_format verdicts bytes

-- these bytes are the text, or what the text is the base64 of
abbrev pub Opens : Bool → List ℕ → List ℕ → Type 0
Opens true text bytes = bytes_in text ≡ Some bytes
Opens false text bytes = text ≡ bytes

-- the text spells the value
pub record TextSpells {V : Type 0} (F : Format V) (base64 : Bool) (text : List ℕ) (value : V) : Type 0 where
  pub bytes : List ℕ
  pub opens : Opens base64 text bytes
  pub spells : Spells F value bytes

-- a file of this name has a text that spells the value
pub record FileSpells {V : Type 0} (F : Format V) (m : FileMap) (base64 : Bool) (name : List ℕ) (value : V) : Type 0 where
  pub text : List ℕ
  pub held : Holds m name text
  pub means : TextSpells F base64 text value

-- ---- the lines over a ledger, with verdicts

-- They are those of the envelope that the file spells.
pub record ExplainsEnvelope (request : Request) (m : FileMap) (header : Header) (entries : LedgerMap) (verdicts : Verdicts)
    (lines : List ℕ) : Type 0 where
  pub envelope : Envelope
  pub held : FileSpells envelope_format m request.base64 request.file envelope
  pub explains : Explains request.form lines (running_header header request.close_time) verdicts entries envelope

-- The file spells a set without a conflict that has a transaction at the place. The lines are those of this transaction on the
-- entries that it meets there. The last one is that of the result that the set has there.
pub record ExplainsPlace (place : Place) (request : Request) (m : FileMap) (header : Header) (entries : LedgerMap)
    (verdicts : Verdicts) (lines : List ℕ) : Type 0 where
  pub set : TxSet
  pub held : FileSpells set_format m request.base64 request.file set
  pub free : AllByRecursion HasNoConflict (map clusters_in (stages_of set))
  pub there : IsSome (tx_at (map clusters_in (stages_of set)) place)
  pub explains : ExplainsMet request.form header verdicts entries set request.close_time place lines
  pub last : EndsAsReported header verdicts entries set request.close_time place lines

abbrev pub ExplainsTarget : Target → Request → FileMap → Header → LedgerMap → Verdicts → List ℕ → Type 0
ExplainsTarget targets.Envelope request m header entries verdicts lines =
    ExplainsEnvelope request m header entries verdicts lines
ExplainsTarget (targets.InSet place) request m header entries verdicts lines =
    ExplainsPlace place request m header entries verdicts lines

-- The lines are those that the request asks for, over the ledger and with the verdicts that the files hold.
pub record ExplainsFiles (request : Request) (m : FileMap) (lines : List ℕ) : Type 0 where
  pub header : Header
  pub entries : LedgerMap
  pub verdicts : Verdicts
  pub ledger_held : HoldsLedger m request.ledger header entries
  pub verdicts_held : HoldsVerdicts m request.verdicts verdicts
  pub explains : ExplainsTarget request.target request m header entries verdicts lines
