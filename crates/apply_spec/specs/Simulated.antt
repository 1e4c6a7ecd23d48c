-- A transaction that is simulated: the footprint that its run needs, and its effect with that footprint (own, after CAP-0046-05
-- and CAP-0046-07).
use Rattle.std.specs.Prelude.{ℕ, ◌==◌, Bool, true, false, ◌&&◌, List, [], ◌∷◌, length, Option, Some, None, if◌then◌else◌}
use Rattle.std.specs.List.{list_all}
use Rattle.budget_meter.specs.declared.budget.Used.{Used}
use Rattle.ledger_types.specs.declared.header.Header.{Header}
use Rattle.ledger_types.specs.declared.verdicts.Verdicts.{Verdicts}
use Rattle.value_types.specs.Datum.{Datum}
use Rattle.tx_parts.specs.declared.account.MuxedAccount.{MuxedAccount}
use Rattle.tx_xdr.specs.declared.transaction.Footprint.{Footprint}
use Rattle.tx_xdr.specs.declared.transaction.Operation.{Operation}
use Rattle.tx_xdr.specs.declared.transaction.OperationBody.{OperationBody}
use Rattle.tx_xdr.specs.declared.transaction.OperationBody.TheVariants.{InvokeHostFunction, ExtendFootprintTtl, RestoreFootprint}
use Rattle.tx_xdr.specs.declared.transaction.Transaction.{Transaction}
use Rattle.tx_xdr.specs.declared.transaction.TransactionExt.{TransactionExt}
use Rattle.tx_xdr.specs.declared.transaction.TransactionExt.TheVariants as exts
use Rattle.tx_xdr.specs.declared.envelope.Envelope.{Envelope}
use Rattle.tx_xdr.specs.declared.envelope.Envelope.TheVariants as envelopes
use Rattle.tx_xdr.specs.Envelope.{transaction_in}
use Rattle.tx_results.specs.declared.results.TransactionOutcome.{TransactionOutcome}
use Rattle.stage_runs.specs.Maps.{LedgerMap}
use Rattle.stage_runs.specs.Transactions.{Effect}
use Rattle.stage_runs.specs.Whole.{nothing_used}
use Rattle.call_spec.specs.World.{Authority}
use Rattle.call_spec.specs.Acts.{Out, world_of}
use Rattle.call_spec.specs.WholeRuns.{Work, work_of, whole}
use Rattle.apply_spec.specs.Recorded.{recorded, no_footprint}
use Rattle.apply_spec.specs.Checks.{footprint_of, is_soroban, form_checks, first_failed}
use Rattle.apply_spec.specs.Enforced.{authority_of, enforced}

-- ---- another footprint

-- Soroban data with this footprint; a transaction without Soroban data stays as it is
abbrev pub ext_with : Footprint → TransactionExt → TransactionExt
ext_with footprint exts.None = exts.None
ext_with footprint (exts.Soroban resources) = exts.Soroban (record resources { footprint = footprint })

abbrev pub tx_with : Footprint → Transaction → Transaction
tx_with footprint tx = record tx { ext = ext_with footprint tx.ext }

-- the envelope whose transaction has this footprint, of a fee bump the inner one
abbrev pub with_footprint : Footprint → Envelope → Envelope
with_footprint footprint (envelopes.Transaction signed) =
    envelopes.Transaction (record signed { tx = tx_with footprint signed.tx })
with_footprint footprint (envelopes.FeeBump signed) = envelopes.FeeBump (record signed {
  fee_bump = record signed.fee_bump { inner = record signed.fee_bump.inner { tx = tx_with footprint signed.fee_bump.inner.tx } };
})

-- ---- the footprint that is needed

-- a footprint, and the sums of the run that needs it
pub record Needs : Type 0 where
  pub footprint : Footprint
  pub used : Used

-- no keys; nothing ran
abbrev pub needs_nothing : Needs
needs_nothing = record { footprint = no_footprint; used = nothing_used }

-- what a whole run touched, however it ended
abbrev pub needs_of : Out Datum → Needs
needs_of out = record { footprint = recorded (world_of out).trace; used = (world_of out).meter.used }

-- a malformed call runs nothing
abbrev pub work_needs : Header → Authority → ℕ → LedgerMap → Option Work → Needs
work_needs header authority instructions entries None = needs_nothing
work_needs header authority instructions entries (Some work) = needs_of (whole header authority instructions work entries)

-- The declared footprint of a call is not read. The checks reject a transaction without Soroban data.
abbrev pub body_needs : Header → Verdicts → LedgerMap → Transaction → TransactionExt → Option MuxedAccount → OperationBody → Needs
body_needs header verdicts entries tx exts.None source body = needs_nothing
body_needs header verdicts entries tx (exts.Soroban resources) source (InvokeHostFunction host_function auth) =
    work_needs header (authority_of verdicts tx source auth) resources.instructions entries (work_of host_function)
body_needs header verdicts entries tx (exts.Soroban resources) source (ExtendFootprintTtl extend_to) = needs_nothing
body_needs header verdicts entries tx (exts.Soroban resources) source RestoreFootprint = needs_nothing

-- the first operation; the checks reject a transaction without one
abbrev pub first_needs : Header → Verdicts → LedgerMap → Transaction → List Operation → Needs
first_needs header verdicts entries tx [] = needs_nothing
first_needs header verdicts entries tx (operation ∷ rest) =
    body_needs header verdicts entries tx tx.ext operation.source operation.body

-- A transaction that a check rejects runs nothing. The footprint's own check is left out.
abbrev pub unless_refused : Option TransactionOutcome → Needs → Needs
unless_refused (Some outcome) needs = needs_nothing
unless_refused None needs = needs

-- ---- the footprint that is kept

-- EXTEND_FOOTPRINT_TTL and RESTORE_FOOTPRINT act on the footprint that is declared
abbrev pub acts_on_footprint : OperationBody → Bool
acts_on_footprint (InvokeHostFunction host_function auth) = false
acts_on_footprint (ExtendFootprintTtl extend_to) = true
acts_on_footprint RestoreFootprint = true

-- the only operation of a transaction with Soroban data is one of these
abbrev pub keeps_footprint : Transaction → Bool
keeps_footprint tx =
    is_soroban tx.ext && (length tx.operations == 1) && list_all (λ operation. acts_on_footprint operation.body) tx.operations

-- What a transaction needs. An operation on the declared footprint keeps it, whatever its result.
abbrev pub needs : Header → Verdicts → LedgerMap → Transaction → Needs
needs header verdicts entries tx =
    if keeps_footprint tx then record { footprint = footprint_of tx; used = nothing_used }
    else unless_refused (first_failed (form_checks header tx)) (first_needs header verdicts entries tx tx.operations)

-- ---- the simulated transaction

-- The footprint, the envelope with it, the effect of that envelope, and the sums of the whole run. These are not the effect's own
-- if a test stops the operation before it runs.
pub record Simulated : Type 0 where
  pub footprint : Footprint
  pub envelope : Envelope
  pub effect : Effect
  pub used : Used

abbrev pub simulated_with : Header → Verdicts → LedgerMap → Envelope → Needs → Simulated
simulated_with header verdicts entries envelope n = record {
  footprint = n.footprint;
  envelope = with_footprint n.footprint envelope;
  effect = enforced header verdicts entries (with_footprint n.footprint envelope);
  used = n.used;
}

-- An envelope over the entries of a ledger. The header is that of the ledger before, with the close time of the one that is made.
abbrev pub simulated : Header → Verdicts → LedgerMap → Envelope → Simulated
simulated header verdicts entries envelope =
    simulated_with header verdicts entries envelope (needs header verdicts entries (transaction_in envelope))
