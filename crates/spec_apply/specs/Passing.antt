-- The pass over a list in order, as the code keeps it (own).
use Rattle.std.specs.Prelude.{◌≡◌, ◌+◌, List, if◌then◌else◌}
use Rattle.ledger_types.specs.declared.header.Header.{Header}
use Rattle.ledger_types.specs.declared.verdicts.Verdicts.{Verdicts}
use Rattle.tx_xdr.specs.declared.envelope.Envelope.{Envelope}
use Rattle.stage_runs.specs.Maps.{LedgerMap}
use Rattle.stage_runs.specs.Runs.{RunState}
use Rattle.apply_spec.specs.ListRuns.{listed, run_listed, run_each, is_kept, count_kept}
use Rattle.set_steps.specs.State.{between}
use Rattle.spec_apply.specs.declared.pass.Pass.{Pass}
use Rattle.spec_apply.specs.Moved.{AreMoved}

abbrev pub state_of : Pass → RunState
state_of pass = between pass.entries pass.reports

-- the pass after one more envelope
pub record IsNext (header : Header) (verdicts : Verdicts) (opening : LedgerMap) (envelope : Envelope)
    (before after : Pass) : Type 0 where
  pub state : state_of after ≡ run_listed (listed header verdicts) (state_of before) envelope
  pub moved : AreMoved opening after.entries after.moved
  pub kept : after.kept ≡ before.kept + (if is_kept header verdicts opening before.entries envelope then 1 else 0)

-- the pass after a list
pub record IsPassed (header : Header) (verdicts : Verdicts) (opening : LedgerMap) (list : List Envelope)
    (before after : Pass) : Type 0 where
  pub state : state_of after ≡ run_each (listed header verdicts) (state_of before) list
  pub moved : AreMoved opening after.entries after.moved
  pub kept : after.kept ≡ before.kept + count_kept header verdicts opening (state_of before) list
