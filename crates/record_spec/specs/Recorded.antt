-- The authorisation entries that a transaction needs: a run without entries notes the demands for accounts (own, after
-- CAP-0046-11).
use Rattle.std.specs.Prelude.{ℕ, Bool, false, List, [], ◌∷◌, Option, Some, None, nat_lt}
use Rattle.std.specs.Option.{option_map}
use Rattle.value_types.specs.Datum.{Datum}
use Rattle.value_types.specs.declared.account_id.AccountId.{AccountId}
use Rattle.auth_types.specs.declared.auth_entry.AuthEntry.{AuthEntry}
use Rattle.auth_spec.specs.Noted.{Notes, no_notes}
use Rattle.ledger_types.specs.declared.header.Header.{Header}
use Rattle.ledger_spec.specs.LedgerMap.{LedgerMap}
use Rattle.tx_parts.specs.declared.account.MuxedAccount.{MuxedAccount}
use Rattle.tx_xdr.specs.declared.transaction.Operation.{Operation}
use Rattle.tx_xdr.specs.declared.transaction.OperationBody.{OperationBody}
use Rattle.tx_xdr.specs.declared.transaction.OperationBody.TheVariants.{InvokeHostFunction, ExtendFootprintTtl, RestoreFootprint}
use Rattle.tx_xdr.specs.declared.transaction.Transaction.{Transaction}
use Rattle.tx_xdr.specs.declared.transaction.TransactionExt.{TransactionExt}
use Rattle.tx_xdr.specs.declared.transaction.TransactionExt.TheVariants as exts
use Rattle.tx_results.specs.declared.results.TransactionOutcome.{TransactionOutcome}
use Rattle.call_spec.specs.World.{World, Authority, Env}
use Rattle.call_spec.specs.Acts.{Out, Good, Bad, Undeclared, world_of}
use Rattle.call_spec.specs.HostFunctions.{MOST_FRAMES, opener_of}
use Rattle.call_spec.specs.WholeRuns.{Work, work_of, performs, start_of, all_allowed}
use Rattle.apply_spec.specs.Checks.{refusal_of}
use Rattle.apply_spec.specs.Enforced.{source_of}
use Rattle.record_spec.specs.Trees.{Terms, entries_of}

-- ---- the run

-- demands are noted from here on
abbrev pub with_notes : World → World
with_notes w = record w { noted = Some no_notes }

-- no entries, and no signature
abbrev pub nobody : AccountId → Authority
nobody source = record { entries = []; source = source; verdicts = record { pairs = [] } }

-- The whole run in which demands are noted. It knows no footprint, and nobody is asked.
unfoldable pub recording : Header → AccountId → ℕ → Work → LedgerMap → Out Datum
recording header source instructions work entries =
    let env : Env = record { header = header; authority = nobody source; judge = all_allowed } in
    performs env (opener_of env MOST_FRAMES) work (with_notes (start_of header instructions entries))

-- ---- what is recorded

-- The entries; whether there was a demand in a call whose failure was caught; and the value of the run, if it ended well.
pub record Recorded : Type 0 where
  pub entries : List AuthEntry
  pub caught : Bool
  pub value : Option Datum

abbrev pub nothing_recorded : Recorded
nothing_recorded = record { entries = []; caught = false; value = None }

abbrev pub value_of : Out Datum → Option Datum
value_of (Good value w) = Some value
value_of (Bad end w) = None
value_of (Undeclared a w) = None

abbrev pub recorded_by : Terms → AccountId → Option Datum → Option Notes → Recorded
recorded_by terms source value None = nothing_recorded
recorded_by terms source value (Some notes) = record {
  entries = entries_of terms source notes.nodes;
  caught = nat_lt 0 notes.undone;
  value = value;
}

-- the trees at the end of a run, however it ended
abbrev pub recorded_at : Terms → AccountId → Out Datum → Recorded
recorded_at terms source out = recorded_by terms source (value_of out) (world_of out).noted

-- ---- of a transaction

-- what a transaction runs: the account that is its operation's source, its limit of instructions, and the work
pub record Ran : Type 0 where
  pub source : AccountId
  pub instructions : ℕ
  pub work : Work

abbrev pub ran_by : AccountId → ℕ → Work → Ran
ran_by source instructions work = record { source = source; instructions = instructions; work = work }

-- A malformed call runs nothing, and so do other operations. The checks reject a transaction without Soroban data.
abbrev pub body_run : Transaction → TransactionExt → Option MuxedAccount → OperationBody → Option Ran
body_run tx exts.None source body = None
body_run tx (exts.Soroban resources) source (InvokeHostFunction host_function auth) =
    option_map (ran_by (source_of tx source) resources.instructions) (work_of host_function)
body_run tx (exts.Soroban resources) source (ExtendFootprintTtl extend_to) = None
body_run tx (exts.Soroban resources) source RestoreFootprint = None

abbrev pub first_run : Transaction → List Operation → Option Ran
first_run tx [] = None
first_run tx (operation ∷ rest) = body_run tx tx.ext operation.source operation.body

abbrev pub unless_refused : Option TransactionOutcome → Option Ran → Option Ran
unless_refused (Some outcome) ran = None
unless_refused None ran = ran

-- What a transaction runs. One that a check rejects, also the footprint's own, runs nothing.
abbrev pub run_of : Header → Transaction → Option Ran
run_of header tx = unless_refused (refusal_of header tx) (first_run tx tx.operations)

-- its recording run over the entries of a ledger
abbrev pub run_in : Header → LedgerMap → Ran → Out Datum
run_in header entries ran = recording header ran.source ran.instructions ran.work entries

abbrev pub recorded_of : Header → Terms → LedgerMap → Option Ran → Recorded
recorded_of header terms entries None = nothing_recorded
recorded_of header terms entries (Some ran) = recorded_at terms ran.source (run_in header entries ran)

abbrev pub recorded : Header → Terms → LedgerMap → Transaction → Recorded
recorded header terms entries tx = recorded_of header terms entries (run_of header tx)
