-- What `apply-list` stores and prints (own).
use Rattle.std.specs.Prelude.{ℕ, List, ◌++◌, length, codes, decimal}
use Rattle.apply_spec.specs.ListRuns.{run_list, kept_count}
use Rattle.apply_spec.specs.Outputs.{Outputs, outputs_after}
use Rattle.apply_spec.specs.Runs.{new_header}
use Rattle.ledger_spec.specs.LedgerMap.{LedgerMap}
use Rattle.ledger_types.specs.declared.header.Header.{Header}
use Rattle.ledger_types.specs.declared.verdicts.Verdicts.{Verdicts}
use Rattle.tx_xdr.specs.declared.envelope.Envelope.{Envelope}

-- the line about the runs that were kept
abbrev pub kept_line : ℕ → ℕ → List ℕ
kept_line kept count = codes "kept " ++ (decimal kept ++ (codes " of " ++ (decimal count ++ codes "\n")))

-- these outputs, with that line behind the others
abbrev pub with_kept : Outputs → ℕ → ℕ → Outputs
with_kept outputs kept count = record outputs { lines = outputs.lines ++ kept_line kept count }

-- the outputs of a list over a ledger, with these verdicts, at a close time
abbrev pub list_outputs : Header → Verdicts → LedgerMap → List Envelope → ℕ → Outputs
list_outputs header verdicts entries list close_time =
    with_kept (outputs_after (new_header header close_time) (run_list header verdicts entries list close_time))
    (kept_count header verdicts entries list close_time) (length list)

unfoldable pub outputs_of_list : Header × LedgerMap → Verdicts → List Envelope → ℕ → Outputs
outputs_of_list ledger verdicts list close_time = list_outputs ledger.0 verdicts ledger.1 list close_time
