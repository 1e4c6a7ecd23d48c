-- The results of transactions and fee bumps, their runs over a map of all entries, and what these runs may leave there (own,
-- after CAP-0015, CAP-0046-05 and CAP-0046-12). What becomes of a call is defined in call_spec.
use Rattle.std.specs.Prelude.{ℕ, pos, ◌+◌, Bool, true, false, ◌&&◌, List, [], ◌∷◌, Option, None, length, nat_lt, ◌==◌}
use Rattle.std.specs.Prelude.{if◌then◌else◌}
use Rattle.std.specs.List.{list_all, fold}
use Rattle.std.specs.Option.{option_map, unwrap_or}
use Rattle.budget_meter.specs.declared.budget.Used.{Used}
use Rattle.value_types.specs.declared.hash.Hash.{Hash}
use Rattle.value_types.specs.declared.account_id.AccountId.{AccountId}
use Rattle.auth_types.specs.declared.auth_entry.AuthEntry.{AuthEntry}
use Rattle.invoke_types.specs.declared.host_function.HostFunction.{HostFunction}
use Rattle.invoke_types.specs.declared.success.SuccessPreimage.{SuccessPreimage}
use Rattle.ledger_types.specs.declared.key.LedgerKey.{LedgerKey}
use Rattle.ledger_types.specs.declared.key.LedgerKey.TheVariants.{Account, Trustline, Offer, Data, ClaimableBalance}
use Rattle.ledger_types.specs.declared.key.LedgerKey.TheVariants.{LiquidityPool, ContractData, ContractCode, Ttl}
use Rattle.ledger_types.specs.declared.header.Header.{Header}
use Rattle.ledger_types.specs.declared.header.Settings.{Settings}
use Rattle.ledger_types.specs.declared.verdicts.Verdicts.{Verdicts}
use Rattle.tx_parts.specs.declared.account.MuxedAccount.{MuxedAccount}
use Rattle.tx_parts.specs.declared.account.MuxedAccount.TheVariants.{Ed25519, MuxedEd25519}
use Rattle.tx_xdr.specs.declared.transaction.Footprint.{Footprint}
use Rattle.tx_xdr.specs.declared.transaction.Operation.{Operation}
use Rattle.tx_xdr.specs.declared.transaction.OperationBody.{OperationBody}
use Rattle.tx_xdr.specs.declared.transaction.OperationBody.TheVariants.{InvokeHostFunction, ExtendFootprintTtl, RestoreFootprint}
use Rattle.tx_xdr.specs.declared.transaction.Transaction.{Transaction}
use Rattle.tx_xdr.specs.declared.transaction.TransactionExt.{TransactionExt}
use Rattle.tx_xdr.specs.declared.transaction.TransactionExt.TheVariants as exts
use Rattle.tx_xdr.specs.declared.envelope.Envelope.{Envelope}
use Rattle.tx_xdr.specs.declared.envelope.Envelope.TheVariants as envelopes
use Rattle.tx_xdr.specs.Envelope.{transaction_in}
use Rattle.tx_xdr.specs.Hashes.{transaction_hash, envelope_hash}
use Rattle.tx_results.specs.declared.codes.ExtendResult.TheVariants as extends
use Rattle.tx_results.specs.declared.operation.InvokeResult.{InvokeResult}
use Rattle.tx_results.specs.declared.operation.InvokeResult.TheVariants as invokes
use Rattle.tx_results.specs.declared.operation.InnerResult.TheVariants.{Invoke, Extend}
use Rattle.tx_results.specs.declared.operation.OperationResult.{OperationResult}
use Rattle.tx_results.specs.declared.operation.OperationResult.TheVariants.{Inner, NotSupported}
use Rattle.tx_results.specs.declared.results.TransactionOutcome.{TransactionOutcome}
use Rattle.tx_results.specs.declared.results.TransactionOutcome.TheVariants.{Success, Failed, TooEarly, TooLate, MissingOperation}
use Rattle.tx_results.specs.declared.results.TransactionOutcome.TheVariants.{Malformed, SorobanInvalid}
use Rattle.tx_results.specs.declared.results.InnerTransactionResultPair.{InnerTransactionResultPair}
use Rattle.tx_results.specs.declared.results.TransactionResultPair.{TransactionResultPair}
use Rattle.tx_results.specs.declared.results.EnvelopeOutcome.{EnvelopeOutcome}
use Rattle.tx_results.specs.declared.results.EnvelopeOutcome.TheVariants as outcomes
use Rattle.ledger_spec.specs.LedgerMap.{LedgerMap}
use Rattle.ledger_spec.specs.Changes.{raise}
use Rattle.ledger_spec.specs.Seen.{Seen, live, absent, archived, seen}
use Rattle.stage_runs.specs.Transactions.{Step}
use Rattle.stage_runs.specs.Whole as runs
use Rattle.call_spec.specs.World.{next_seq, Authority}
use Rattle.call_spec.specs.Invoked.{Invoked, invoked}
use Rattle.apply_spec.specs.Checks.{footprint_of, refusal_of}

-- ---- results

-- the result code of a transaction is txSUCCESS
abbrev pub is_success : TransactionOutcome → Bool
is_success (Success results) = true
is_success (Failed results) = false
is_success TooEarly = false
is_success TooLate = false
is_success MissingOperation = false
is_success Malformed = false
is_success SorobanInvalid = false

-- the hash of a fee bump's inner transaction, with its outcome; it pays no fee itself
abbrev pub inner_pair : Hash → Transaction → TransactionOutcome → InnerTransactionResultPair
inner_pair network tx outcome = record {
  hash = transaction_hash network tx;
  result = record { fee_charged = pos 0; outcome = outcome };
}

-- the result code of a fee bump says whether that of its inner transaction is txSUCCESS
abbrev pub fee_bump_outcome : TransactionOutcome → InnerTransactionResultPair → EnvelopeOutcome
fee_bump_outcome outcome inner =
    if is_success outcome then outcomes.FeeBumpInnerSuccess inner else outcomes.FeeBumpInnerFailed inner

-- the outcome of an envelope by that of its transaction
abbrev pub envelope_outcome : Hash → Envelope → TransactionOutcome → EnvelopeOutcome
envelope_outcome network (envelopes.Transaction signed) outcome = outcomes.Transaction outcome
envelope_outcome network (envelopes.FeeBump signed) outcome =
    fee_bump_outcome outcome (inner_pair network signed.fee_bump.inner.tx outcome)

-- the envelope's hash with its outcome; no fee is charged
abbrev pub result_pair : Hash → Envelope → TransactionOutcome → TransactionResultPair
result_pair network envelope outcome = record {
  hash = envelope_hash network envelope;
  result = record { fee_charged = pos 0; outcome = envelope_outcome network envelope outcome };
}

-- the result of an envelope whose transaction fails its checks
abbrev pub refusal : Header → Envelope → Option TransactionResultPair
refusal header envelope = option_map (result_pair header.network_id envelope) (refusal_of header (transaction_in envelope))

-- ---- the run of an operation over the whole map

-- the outcome of a transaction, the success preimage of a call that succeeded, the map then, and what the run used
pub record Performed : Type 0 where
  pub outcome : TransactionOutcome
  pub success : Option SuccessPreimage
  pub entries : LedgerMap
  pub used : Used

-- an outcome that is not metered and has no success preimage
abbrev pub unmetered : TransactionOutcome → LedgerMap → Performed
unmetered outcome entries = record { outcome = outcome; success = None; entries = entries; used = runs.nothing_used }

-- an operation that failed, and left the map as it was
abbrev pub failed : LedgerMap → OperationResult → Performed
failed entries only = unmetered (Failed (only ∷ [])) entries

-- ---- EXTEND_FOOTPRINT_TTL

-- only contract data and contract code have a live-until ledger
abbrev pub has_life : LedgerKey → Bool
has_life (ContractData contract key durability) = true
has_life (ContractCode hash) = true
has_life (Account account) = false
has_life (Trustline account asset) = false
has_life (Offer seller offer) = false
has_life (Data account name) = false
has_life (ClaimableBalance id) = false
has_life (LiquidityPool pool) = false
has_life (Ttl hash) = false

-- no key is declared read-write, each declared key has a live-until ledger, and extend_to is below the maximum TTL
abbrev pub may_extend : Settings → Footprint → ℕ → Bool
may_extend settings footprint extend_to =
    (length footprint.read_write == 0) && list_all has_life footprint.read_only && nat_lt extend_to settings.max_entry_ttl

-- an entry that is live, as an access sees it, lives until this ledger at least
abbrev pub lengthened_seen : Seen → LedgerMap → LedgerKey → ℕ → LedgerMap
lengthened_seen (live kept) entries key until = raise entries key until
lengthened_seen absent entries key until = entries
lengthened_seen archived entries key until = entries

-- an entry that is live in ledger n lives until this ledger at least
abbrev pub lengthened : ℕ → ℕ → LedgerMap → LedgerKey → LedgerMap
lengthened n until entries key = lengthened_seen (seen n entries key) entries key until

-- the entries at these keys that are live in ledger n live until this ledger at least
abbrev pub all_lengthened : ℕ → ℕ → LedgerMap → List LedgerKey → LedgerMap
all_lengthened n until entries keys = fold (lengthened n until) entries keys

-- EXTEND_FOOTPRINT_TTL
abbrev pub extended : Header → LedgerMap → Footprint → ℕ → Performed
extended header entries footprint extend_to =
    if may_extend header.settings footprint extend_to then
    unmetered (Success (Inner (Extend extends.Success) ∷ []))
    (all_lengthened (next_seq header) (next_seq header + extend_to) entries footprint.read_only)
    else failed entries (Inner (Extend extends.Malformed))

-- ---- INVOKE_HOST_FUNCTION

-- SUCCESS alone is txSUCCESS
abbrev pub outcome_of_call : InvokeResult → TransactionOutcome
outcome_of_call (invokes.Success preimage) = Success (Inner (Invoke (invokes.Success preimage)) ∷ [])
outcome_of_call result = Failed (Inner (Invoke result) ∷ [])

abbrev pub performed_call : Invoked → Performed
performed_call end =
    record { outcome = outcome_of_call end.result; success = end.success; entries = end.entries; used = end.used }

-- the account without the id of a muxed account
abbrev pub account_of : MuxedAccount → AccountId
account_of (Ed25519 key) = record { 0 = key }
account_of (MuxedEd25519 id key) = record { 0 = key }

-- the account that is an operation's source; without one, the transaction's
abbrev pub source_of : Transaction → Option MuxedAccount → AccountId
source_of tx source = account_of (unwrap_or source tx.source)

-- what may meet demands in an operation of the transaction with this source and these entries
abbrev pub authority_of : Verdicts → Transaction → Option MuxedAccount → List AuthEntry → Authority
authority_of verdicts tx source auth = record { entries = auth; source = source_of tx source; verdicts = verdicts }

-- The call has the resources that the transaction declares. The checks reject a transaction without Soroban data.
abbrev pub called : Header → Authority → LedgerMap → TransactionExt → HostFunction → Performed
called header authority entries exts.None function = unmetered Malformed entries
called header authority entries (exts.Soroban resources) function =
    performed_call (invoked header authority resources entries function)

-- ---- the run of a transaction, and its effect

-- the only operation, with this source
abbrev pub performed : Header → Verdicts → LedgerMap → Transaction → Option MuxedAccount → OperationBody → Performed
performed header verdicts entries tx source (ExtendFootprintTtl extend_to) = extended header entries (footprint_of tx) extend_to
performed header verdicts entries tx source RestoreFootprint = failed entries NotSupported
performed header verdicts entries tx source (InvokeHostFunction host_function auth) =
    called header (authority_of verdicts tx source auth) entries tx.ext host_function

-- the first operation; the checks reject a transaction without one
abbrev pub first_performed : Header → Verdicts → LedgerMap → Transaction → List Operation → Performed
first_performed header verdicts entries tx [] = unmetered MissingOperation entries
first_performed header verdicts entries tx (operation ∷ rest) =
    performed header verdicts entries tx operation.source operation.body

-- the run of an envelope, by that of its transaction
abbrev pub judged : Header → Envelope → Performed → runs.JudgedRun
judged header envelope done = record {
  succeeded = is_success done.outcome;
  result = result_pair header.network_id envelope done.outcome;
  success = done.success;
  entries = done.entries;
  used = done.used;
}

-- The run of an envelope over the whole map. A fee bump's inner transaction runs as if alone. Fees are not judged.
abbrev pub whole : Header → Verdicts → runs.JudgedStep
whole header verdicts entries envelope =
    judged header envelope
    (first_performed header verdicts entries (transaction_in envelope) (transaction_in envelope).operations)

-- The effect of an envelope. If a check fails, it is the result alone. Otherwise it is what the run changes at the declared keys.
abbrev pub enforced : Header → Verdicts → Step
enforced header verdicts = runs.enforced (whole header verdicts) (refusal header)
