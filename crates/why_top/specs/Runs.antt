-- A run with what counts of it, and with its trace (own).
use Rattle.std.specs.Prelude.{◌≡◌, ◌<◌, ◌-◌, ◌^◌, List, [], ◌∷◌, ◌++◌}
use Rattle.ledger_types.specs.declared.header.Header.{Header}
use Rattle.ledger_types.specs.declared.key.LedgerKey.{LedgerKey}
use Rattle.ledger_types.specs.declared.verdicts.Verdicts.{Verdicts}
use Rattle.contract_storage.specs.declared.access.Access.{Access as Kind}
use Rattle.call_spec.specs.World.{Access}
use Rattle.host_ledger.specs.Traced.{kind_of}
use Rattle.tx_xdr.specs.Envelope.{transaction_in}
use Rattle.tx_xdr.specs.declared.envelope.Envelope.{Envelope}
use Rattle.stage_runs.specs.Maps.{LedgerMap}
use Rattle.tx_apply.specs.Done.{effect_of}
use Rattle.tx_apply.specs.Watching.{accesses_of}
use Rattle.run_trace.specs.Lines.{Shows}
use Rattle.run_trace.specs.Shown.{bytes_in}
use Rattle.run_trace.specs.declared.trace.Trace.{Trace}
use Rattle.why_top.specs.Counted.{archived_of, bytes_of}
use Rattle.why_top.specs.Explained.{Ran}
use Rattle.why_top.specs.declared.explaining.Run.{Run}

-- The accesses of a run in their order, each with its kind and its key. A trace of the definitions has its newest access first.
abbrev pub in_order : List Access → List (Kind × LedgerKey)
in_order [] = []
in_order (a ∷ older) = in_order older ++ (kind_of a.kind, a.key) ∷ []

-- The trace shows the accesses that the definitions have of the run of this envelope: the first of them, in their order, and all
-- of them if no line is left out. This is said where the XDR bytes of their keys, and one more for each, are below 2^64 - 1.
abbrev pub ShowsRun : Trace → Header → Verdicts → LedgerMap → Envelope → Type 0
ShowsRun trace header verdicts entries envelope =
    bytes_in (in_order (accesses_of header verdicts entries (transaction_in envelope))) < 2 ^ 64 - 1
    → Shows trace (in_order (accesses_of header verdicts entries (transaction_in envelope)))

-- the run is this one, over these entries
pub record IsRunOf (run : Run) (header : Header) (verdicts : Verdicts) (entries : LedgerMap) (ran : Ran) : Type 0 where
  pub effect : effect_of run.done ≡ ran.effect
  pub used : run.used ≡ ran.used
  pub trace : ShowsRun run.trace header verdicts entries ran.envelope
  pub archived : run.archived.items ≡ archived_of header entries ran.envelope ran.effect
  pub bytes : run.bytes ≡ bytes_of header verdicts entries ran.envelope ran.effect
