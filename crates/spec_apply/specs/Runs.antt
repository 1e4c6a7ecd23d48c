-- Runs of the envelopes of a list (own).
use Rattle.std.specs.Prelude.{◌≡◌, IfOk}
use Rattle.ledger_types.specs.declared.header.Header.{Header}
use Rattle.ledger_types.specs.declared.verdicts.Verdicts.{Verdicts}
use Rattle.tx_xdr.specs.Envelope.{transaction_in, envelope_format}
use Rattle.tx_xdr.specs.Soroban.{footprint_format}
use Rattle.tx_xdr.specs.declared.envelope.Envelope.{Envelope}
use Rattle.stage_runs.specs.Maps.{LedgerMap}
use Rattle.apply_spec.specs.Simulated.{needs}
use Rattle.apply_spec.specs.ListRuns.{listed}
use Rattle.ledger_apply.specs.Done.{effect_of, IsWithin}
use Rattle.spec_apply.specs.declared.run.Run.{Run}
use Rattle.spec_apply.specs.declared.job.Job.{Job}

-- It is the run of the envelope on this map.
pub record IsRunOn (header : Header) (verdicts : Verdicts) (entries : LedgerMap) (envelope : Envelope) (run : Run) : Type 0 where
  pub effect : effect_of run.done ≡ listed header verdicts entries envelope
  pub footprint : run.footprint ≡ (needs header verdicts entries (transaction_in envelope)).footprint

-- Its parts are within their XDR formats, and a ledger map may have its changes.
pub record IsRunSpelled (run : Run) : Type 0 where
  pub within : IsWithin run.done
  pub footprint : footprint_format.fits run.footprint

-- what a worker leaves of a job
pub record IsWorkedOn (header : Header) (verdicts : Verdicts) (opening : LedgerMap) (before after : Job) : Type 0 where
  pub same : after.envelope.now ≡ before.envelope.now
  pub run : IfOk after.run (IsRunOn header verdicts opening after.envelope.now)
  pub spelled : IfOk after.run IsRunSpelled

-- A job that a worker has done. Its run is that on the opening map.
pub record IsDoneJob (header : Header) (verdicts : Verdicts) (opening : LedgerMap) (job : Job) : Type 0 where
  pub fits : envelope_format.fits job.envelope.now
  pub run : IfOk job.run (IsRunOn header verdicts opening job.envelope.now)
  pub spelled : IfOk job.run IsRunSpelled

-- the envelope of a job
abbrev pub envelope_of : Job → Envelope
envelope_of job = job.envelope.now
