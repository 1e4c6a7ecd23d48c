-- The change log that `apply` stores (own).
use Rattle.std.specs.Prelude.{◌≡◌, ℕ, Bool, false, Vec, List, [], ◌∷◌, ◌++◌, Option, Some, None, if◌then◌else◌}
use Rattle.std.specs.Option.{option_map}
use Rattle.change_log.specs.Log.{log_format}
use Rattle.spec_apply.specs.Logged.{logged_set}
use Rattle.ledger_spec.specs.LedgerMap.{LedgerMap}
use Rattle.ledger_types.specs.declared.header.Header.{Header}
use Rattle.ledger_types.specs.declared.verdicts.Verdicts.{Verdicts}
use Rattle.tx_xdr.specs.declared.set.TxSet.{TxSet}
use Rattle.command_io.specs.Product.{File, Made, file}
use Rattle.soroban_top.specs.Asked.{log_files}
use Rattle.soroban_top.specs.declared.scheduled.ScheduledSteps.{ScheduledSteps}

-- the bytes of the change log of a set over a ledger, with these verdicts, at a close time
unfoldable pub log_bytes : Header × LedgerMap → Verdicts → TxSet → ℕ → List ℕ
log_bytes ledger verdicts set close_time = log_format.spell (logged_set ledger.0 verdicts ledger.1 set close_time)

-- a run in the order of a schedule keeps none
abbrev pub logs_by : Option ScheduledSteps → Bool → Bool
logs_by None logs = logs
logs_by (Some scheduled) logs = false

-- what is written of a log, if one is kept
abbrev pub IsLogOf : {Z : Type 0} → Header × LedgerMap → Verdicts → TxSet → ℕ → Bool → Option (Vec ℕ Z) → Type 0
IsLogOf ledger verdicts set close_time logs log =
    option_map (λ b. b.items) log ≡ (if logs then Some (log_bytes ledger verdicts set close_time) else None)

-- the log is stored after the other files, if it is asked for
abbrev pub with_log : Option (List ℕ) → List ℕ → Made → Made
with_log None bytes made = made
with_log (Some name) bytes made = record {
  stores = made.stores ++ record { file = file 6 name; bytes = bytes } ∷ [];
  lines = made.lines;
}

-- ---- as the code stores it

-- the log after the other files, if it is asked for and there is one
abbrev pub log_after : Option (List ℕ) → Option (List ℕ) → Made → Made
log_after name None made = made
log_after name (Some bytes) made = with_log name bytes made

-- its file
abbrev pub log_target : Bool → Option (List ℕ) → List File
log_target logs name = if logs then log_files name else []
