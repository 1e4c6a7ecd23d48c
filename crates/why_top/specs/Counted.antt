-- What counts of a call: the archived keys that it declares, its events, and the bytes that it reads and writes (own).
use Rattle.std.specs.Prelude.{ℕ, ◌-◌, ◌^◌, Bool, true, false, List, [], ◌∷◌, Option, Some, None, if◌then◌else◌}
use Rattle.std.specs.List.{sum_by}
use Rattle.xdr_core.specs.Sizes.{capped}
use Rattle.invoke_types.specs.declared.event.ContractEvent.{ContractEvent}
use Rattle.invoke_types.specs.declared.success.SuccessPreimage.{SuccessPreimage}
use Rattle.ledger_types.specs.declared.header.Header.{Header}
use Rattle.ledger_types.specs.declared.key.LedgerKey.{LedgerKey}
use Rattle.ledger_types.specs.declared.verdicts.Verdicts.{Verdicts}
use Rattle.tx_xdr.specs.Envelope.{transaction_in}
use Rattle.tx_xdr.specs.declared.envelope.Envelope.{Envelope}
use Rattle.tx_xdr.specs.declared.envelope.Envelope.TheVariants as envelopes
use Rattle.tx_xdr.specs.declared.transaction.Operation.{Operation}
use Rattle.tx_xdr.specs.declared.transaction.OperationBody.{OperationBody}
use Rattle.tx_xdr.specs.declared.transaction.OperationBody.TheVariants.{InvokeHostFunction, ExtendFootprintTtl, RestoreFootprint}
use Rattle.tx_xdr.specs.declared.transaction.SorobanData.{SorobanData}
use Rattle.tx_xdr.specs.declared.transaction.Transaction.{Transaction}
use Rattle.tx_xdr.specs.declared.transaction.TransactionExt.{TransactionExt}
use Rattle.tx_xdr.specs.declared.transaction.TransactionExt.TheVariants as exts
use Rattle.tx_results.specs.Results.{outcome_in}
use Rattle.tx_results.specs.declared.operation.InvokeResult.{InvokeResult}
use Rattle.tx_results.specs.declared.operation.InvokeResult.TheVariants.{Success, Malformed, Trapped, ResourceLimitExceeded}
use Rattle.tx_results.specs.declared.operation.InvokeResult.TheVariants.{EntryArchived}
use Rattle.tx_results.specs.declared.operation.InnerResult.{InnerResult}
use Rattle.tx_results.specs.declared.operation.InnerResult.TheVariants.{Invoke, Extend}
use Rattle.tx_results.specs.declared.operation.OperationResult.{OperationResult}
use Rattle.tx_results.specs.declared.operation.OperationResult.TheVariants.{Inner, NotSupported}
use Rattle.tx_results.specs.declared.results.TransactionOutcome.{TransactionOutcome}
use Rattle.tx_results.specs.declared.results.TransactionOutcome.TheVariants as outcomes
use Rattle.stage_runs.specs.Maps.{LedgerMap}
use Rattle.stage_runs.specs.declared.Change.{Change}
use Rattle.stage_runs.specs.Transactions.{Effect}
use Rattle.call_spec.specs.World.{next_seq}
use Rattle.call_spec.specs.Invoked.{read_bytes}
use Rattle.apply_spec.specs.Enforced.{enforced}
use Rattle.run_trace.specs.declared.summary.Bytes.{Bytes}
use Rattle.declared_bytes.specs.Counted.{archived_in, changed_bytes}
use Rattle.why_top.specs.declared.counted.Cause.{Cause}
use Rattle.why_top.specs.declared.counted.Cause.TheVariants.{Archived, Exceeded, Other}

-- ---- why a call did not succeed

abbrev pub invoke_cause : InvokeResult → Cause
invoke_cause (Success hash) = Other
invoke_cause Malformed = Other
invoke_cause Trapped = Other
invoke_cause ResourceLimitExceeded = Exceeded
invoke_cause EntryArchived = Archived

abbrev pub inner_cause : InnerResult → Cause
inner_cause (Invoke result) = invoke_cause result
inner_cause (Extend result) = Other

abbrev pub operation_cause : OperationResult → Cause
operation_cause (Inner result) = inner_cause result
operation_cause NotSupported = Other

abbrev pub first_cause : List OperationResult → Cause
first_cause [] = Other
first_cause (result ∷ rest) = operation_cause result

-- by the result of the first operation
abbrev pub cause_of : TransactionOutcome → Cause
cause_of (outcomes.Failed results) = first_cause results
cause_of _ = Other

-- ---- what is declared

abbrev pub is_call : OperationBody → Bool
is_call (InvokeHostFunction host_function auth) = true
is_call (ExtendFootprintTtl extend_to) = false
is_call RestoreFootprint = false

-- the first operation is an INVOKE_HOST_FUNCTION
abbrev pub begins_with_call : List Operation → Bool
begins_with_call [] = false
begins_with_call (operation ∷ rest) = is_call operation.body

-- ---- archived keys

abbrev pub archived_at : ℕ → LedgerMap → TransactionExt → List LedgerKey
archived_at n map exts.None = []
archived_at n map (exts.Soroban resources) = archived_in n map resources.footprint

-- only where they are the cause
abbrev pub archived_by : ℕ → LedgerMap → TransactionExt → Cause → List LedgerKey
archived_by n map ext Archived = archived_at n map ext
archived_by n map ext Exceeded = []
archived_by n map ext Other = []

-- the declared keys whose entries are archived, if the result of the call is ENTRY_ARCHIVED
abbrev pub archived_of : Header → LedgerMap → Envelope → Effect → List LedgerKey
archived_of header map envelope effect =
    archived_by (next_seq header) map (transaction_in envelope).ext (cause_of (outcome_in effect.result.result.outcome))

-- ---- events

-- The events of a call that succeeded: those that it emitted, but for those that were dropped with a failure that it caught.
abbrev pub events_in : Option SuccessPreimage → List ContractEvent
events_in None = []
events_in (Some success) = success.events

-- ---- an envelope that may write more

-- Soroban data that allow as many written bytes as can be declared
abbrev pub ext_unlimited : TransactionExt → TransactionExt
ext_unlimited exts.None = exts.None
ext_unlimited (exts.Soroban resources) = exts.Soroban (record resources { write_bytes = 2 ^ 32 - 1 })

abbrev pub tx_unlimited : Transaction → Transaction
tx_unlimited tx = record tx { ext = ext_unlimited tx.ext }

-- the envelope whose transaction declares them, of a fee bump the inner one
abbrev pub unlimited : Envelope → Envelope
unlimited (envelopes.Transaction signed) = envelopes.Transaction (record signed { tx = tx_unlimited signed.tx })
unlimited (envelopes.FeeBump signed) = envelopes.FeeBump (record signed {
  fee_bump = record signed.fee_bump { inner = record signed.fee_bump.inner { tx = tx_unlimited signed.fee_bump.inner.tx } };
})

-- ---- bytes

-- the bytes that the live entries at the declared keys have, and those of the entries that are changed
abbrev pub bytes_by : ℕ → LedgerMap → List Change → SorobanData → Bytes
bytes_by n map changes resources = record {
  read = capped (read_bytes n map resources.footprint);
  most_read = resources.disk_read_bytes;
  written = capped (sum_by (changed_bytes n map) changes);
  most_written = resources.write_bytes;
}

-- The changes that count as written. Of a call that exceeded a limit they are those that it makes without the limit on written
-- bytes: there are none if it exceeds another limit.
abbrev pub changes_by : Header → Verdicts → LedgerMap → Envelope → List Change → Cause → List Change
changes_by header verdicts map envelope changes Exceeded = (enforced header verdicts map (unlimited envelope)).changes
changes_by header verdicts map envelope changes Archived = changes
changes_by header verdicts map envelope changes Other = changes

abbrev pub bytes_if : Bool → ℕ → LedgerMap → List Change → TransactionExt → Option Bytes
bytes_if calls n map changes exts.None = None
bytes_if calls n map changes (exts.Soroban resources) = if calls then Some (bytes_by n map changes resources) else None

-- the bytes of a call with this effect
abbrev pub bytes_of : Header → Verdicts → LedgerMap → Envelope → Effect → Option Bytes
bytes_of header verdicts map envelope effect =
    bytes_if (begins_with_call (transaction_in envelope).operations) (next_seq header) map
    (changes_by header verdicts map envelope effect.changes (cause_of (outcome_in effect.result.result.outcome)))
    (transaction_in envelope).ext
