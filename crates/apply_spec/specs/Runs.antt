-- The run of a transaction set over a ledger (own, after CAP-0063).
use Rattle.std.specs.Prelude.{ℕ, map}
use Rattle.ledger_types.specs.declared.header.Header.{Header}
use Rattle.ledger_types.specs.declared.verdicts.Verdicts.{Verdicts}
use Rattle.tx_xdr.specs.Stages.{stages_of}
use Rattle.tx_xdr.specs.declared.set.TxSet.{TxSet}
use Rattle.stage_runs.specs.Maps.{LedgerMap}
use Rattle.stage_runs.specs.Runs as runs
use Rattle.call_spec.specs.World.{next_seq}
use Rattle.apply_spec.specs.Enforced.{enforced}

-- The transactions run on the header of the ledger before, with the close time of the new one.
abbrev pub running_header : Header → ℕ → Header
running_header header close_time = record header { close_time = close_time }

-- a set: its stages in order, on the map of all entries
abbrev pub run_set : Header → Verdicts → LedgerMap → TxSet → ℕ → runs.RunState
run_set header verdicts entries set close_time =
    runs.run_set (enforced (running_header header close_time) verdicts) (runs.start entries)
    (map runs.clusters_in (stages_of set))

-- the header of the new ledger
abbrev pub new_header : Header → ℕ → Header
new_header header close_time = record header { seq = next_seq header; close_time = close_time }
