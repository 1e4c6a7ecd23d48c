-- The change log that `apply` stores, played on the ledgers before and after the set (own).
use Rattle.std.specs.Prelude.{◌≡◌, ⊤, ℕ, true, false, List, Option, Some, None, Ok}
use Rattle.apply_spec.specs.Runs.{new_header, run_set}
use Rattle.change_log.specs.Log.{log_format}
use Rattle.change_log.specs.Play.{played}
use Rattle.change_log.specs.declared.log.Log.{Log}
use Rattle.command_words.specs.declared.request.ApplyRequest.{ApplyRequest}
use Rattle.command_words.specs.declared.request.Request.{Request}
use Rattle.command_words.specs.declared.request.Request.TheVariants.{Apply}
use Rattle.edge_io.specs.Contents.{FileMap}
use Rattle.spec_apply.specs.Logged.{logged_set}
use Rattle.ledger_spec.specs.LedgerMap.{LedgerMap, IsLedgerMap}
use Rattle.ledger_types.specs.declared.header.Header.{Header}
use Rattle.ledger_types.specs.declared.verdicts.Verdicts.{Verdicts}
use Rattle.tx_xdr.specs.declared.set.TxSet.{TxSet}
use Rattle.command_io.specs.Inputs.{ledger_at, set_at, verdicts_at}
use Rattle.soroban_top.specs.Asked.{log_asked}

-- the ledger after a set
abbrev pub ledger_after : Header × LedgerMap → Verdicts → TxSet → ℕ → Header × LedgerMap
ledger_after ledger verdicts set close_time =
    (new_header ledger.0 close_time, (run_set ledger.0 verdicts ledger.1 set close_time).entries)

-- The log has a spelling. Played on the old ledger, it gives the new one, and backwards on the new one the old one. The entries
-- of the new ledger are a map of a ledger.
pub record PlaysBetween (log : Log) (old new : Header × LedgerMap) : Type 0 where
  pub fits : log_format.fits log
  pub is_map : IsLedgerMap new.1
  pub forwards : played false log old.0 old.1 ≡ Ok new
  pub backwards : played true log new.0 new.1 ≡ Ok old

-- the change log of a set plays between the ledger before the set and the one after it
abbrev pub SetPlays : Header × LedgerMap → Verdicts → TxSet → ℕ → Type 0
SetPlays ledger verdicts set close_time =
    PlaysBetween (logged_set ledger.0 verdicts ledger.1 set close_time) ledger (ledger_after ledger verdicts set close_time)

-- If the files have a ledger, verdicts and a set, and a change log is asked for, that of the set plays between the ledgers.
abbrev pub LogPlays : ApplyRequest → FileMap → Type 0
LogPlays a m =
    (ledger : Header × LedgerMap) (verdicts : Verdicts) (set : TxSet) (name : List ℕ) → log_asked a.schedule a.log ≡ Some name
    → ledger_at m a.ledger ≡ Ok ledger → verdicts_at m a.verdicts ≡ Ok verdicts → set_at m a.base64 a.set ≡ Ok set
    → SetPlays ledger verdicts set a.close_time

-- the same of any command; only `apply` stores a log
abbrev pub LogPlaysIf : Option Request → FileMap → Type 0
LogPlaysIf None m = ⊤
LogPlaysIf (Some (Apply a)) m = LogPlays a m
LogPlaysIf (Some _) m = ⊤
