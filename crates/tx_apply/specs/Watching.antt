-- What an observer sees of the run of a transaction: the accesses that its footprint allows (own).
use Rattle.std.specs.Prelude.{◌≡◌, ℕ, List, [], ◌∷◌, Option, Some, None, Result, nat_lt, if◌then◌else◌}
use Rattle.budget_meter.specs.Meter.{Meter}
use Rattle.ledger_types.specs.declared.header.Header.{Header}
use Rattle.ledger_types.specs.declared.verdicts.Verdicts.{Verdicts}
use Rattle.invoke_types.specs.declared.host_function.HostFunction.{HostFunction}
use Rattle.tx_parts.specs.declared.account.MuxedAccount.{MuxedAccount}
use Rattle.tx_xdr.specs.declared.transaction.Operation.{Operation}
use Rattle.tx_xdr.specs.declared.transaction.OperationBody.{OperationBody}
use Rattle.tx_xdr.specs.declared.transaction.OperationBody.TheVariants.{InvokeHostFunction, ExtendFootprintTtl, RestoreFootprint}
use Rattle.tx_xdr.specs.declared.transaction.SorobanData.{SorobanData}
use Rattle.tx_xdr.specs.declared.transaction.Transaction.{Transaction}
use Rattle.tx_xdr.specs.declared.transaction.TransactionExt.{TransactionExt}
use Rattle.tx_xdr.specs.declared.transaction.TransactionExt.TheVariants as exts
use Rattle.tx_results.specs.declared.results.TransactionOutcome.{TransactionOutcome}
use Rattle.ledger_spec.specs.LedgerMap.{LedgerMap}
use Rattle.contract_storage.specs.Watched.{Seen, unseen, see}
use Rattle.host_spec.specs.declared.error.HostErr.{HostErr}
use Rattle.call_spec.specs.World.{next_seq, Access, World, Authority, Env, Judge}
use Rattle.call_spec.specs.Acts.{world_of}
use Rattle.call_spec.specs.Footprints.{by_footprint}
use Rattle.call_spec.specs.WholeRuns.{Work, work_of, start_of, run_under, done_under}
use Rattle.call_spec.specs.Invoked.{declares_archived, read_bytes}
use Rattle.apply_spec.specs.Checks.{refusal_of}
use Rattle.apply_spec.specs.Enforced.{authority_of}
use Rattle.contract_call.specs.Entering.{with_meter}
use Rattle.contract_call.specs.Traced.{kind_of, IsTold}
use Rattle.contract_call.specs.Worlds.{IsEnvOf, world_around}
use Rattle.contract_call.specs.Ended.{UnlessMemory}
use Rattle.contract_call.specs.Host.{Host}

-- ---- observers

-- what an observer with this limit has seen of these accesses, the newest first
abbrev pub seen_of : ℕ → List Access → Seen
seen_of limit [] = unseen limit
seen_of limit (a ∷ older) = see (kind_of a.kind) a.key (seen_of limit older)

-- An observer has seen these accesses, and no others.
abbrev pub HasSeen : Seen → List Access → Type 0
HasSeen s trace = s ≡ seen_of s.limit trace

-- ---- the accesses of a transaction

-- The run stops at the first access that the footprint does not allow.
abbrev pub run_accesses : Header → Authority → SorobanData → LedgerMap → Work → List Access
run_accesses header authority resources map work =
    (world_of (run_under (by_footprint resources.footprint) header authority resources.instructions work map)).trace

-- A call that a test stops makes no access.
abbrev pub work_accesses : Header → Authority → SorobanData → LedgerMap → Option Work → List Access
work_accesses header authority resources map None = []
work_accesses header authority resources map (Some work) =
    if declares_archived (next_seq header) map resources.footprint then []
    else if nat_lt resources.disk_read_bytes (read_bytes (next_seq header) map resources.footprint) then []
    else run_accesses header authority resources map work

abbrev pub called_accesses : Header → Authority → LedgerMap → TransactionExt → HostFunction → List Access
called_accesses header authority map exts.None function = []
called_accesses header authority map (exts.Soroban resources) function =
    work_accesses header authority resources map (work_of function)

-- Only a call accesses entries.
abbrev pub body_accesses : Header → Verdicts → LedgerMap → Transaction → Option MuxedAccount → OperationBody → List Access
body_accesses header verdicts map tx source (InvokeHostFunction host_function auth) =
    called_accesses header (authority_of verdicts tx source auth) map tx.ext host_function
body_accesses header verdicts map tx source (ExtendFootprintTtl extend_to) = []
body_accesses header verdicts map tx source RestoreFootprint = []

abbrev pub first_accesses : Header → Verdicts → LedgerMap → Transaction → List Operation → List Access
first_accesses header verdicts map tx [] = []
first_accesses header verdicts map tx (operation ∷ rest) =
    body_accesses header verdicts map tx operation.source operation.body

-- A transaction that fails a check makes none.
abbrev pub unless_refused : Option TransactionOutcome → List Access → List Access
unless_refused (Some outcome) accesses = []
unless_refused None accesses = accesses

abbrev pub accesses_of : Header → Verdicts → LedgerMap → Transaction → List Access
accesses_of header verdicts map tx =
    unless_refused (refusal_of header tx) (first_accesses header verdicts map tx tx.operations)

-- ---- as the code has it

-- the accesses of a work after its arguments have entered, with this budget then
abbrev pub entered_accesses : Judge → Header → Authority → Meter → Work → LedgerMap → List Access
entered_accesses judge header authority meter work map =
    (world_of (done_under judge header authority work (with_meter meter (start_of header 0 map)))).trace

-- Unless memory ran out, the storage knows the accesses of a work that the judge of its declared keys allows.
abbrev pub Told : {A G U V : Type 0} → Work → Result A HostErr → Host G U V → Host G U V → Type 0
Told work r old new = (env : Env) → IsEnvOf env old → (rest : World) (trace : List Access) → IsTold old.ledger.storage trace
    → UnlessMemory r (IsTold new.ledger.storage
    (world_of (done_under env.judge env.header env.authority work (world_around rest old trace))).trace)
