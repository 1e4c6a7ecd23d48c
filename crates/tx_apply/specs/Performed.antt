-- The outcome of a transaction with its effect: that of its operation, unless a check fails (own, after CAP-0046-05).
use Rattle.std.specs.Prelude.{List, [], ◌∷◌, Option, Some, None}
use Rattle.ledger_types.specs.declared.header.Header.{Header}
use Rattle.ledger_types.specs.declared.verdicts.Verdicts.{Verdicts}
use Rattle.invoke_types.specs.declared.host_function.HostFunction.{HostFunction}
use Rattle.tx_parts.specs.declared.account.MuxedAccount.{MuxedAccount}
use Rattle.tx_xdr.specs.declared.transaction.Operation.{Operation}
use Rattle.tx_xdr.specs.declared.transaction.OperationBody.{OperationBody}
use Rattle.tx_xdr.specs.declared.transaction.OperationBody.TheVariants.{InvokeHostFunction, ExtendFootprintTtl, RestoreFootprint}
use Rattle.tx_xdr.specs.declared.transaction.Transaction.{Transaction}
use Rattle.tx_xdr.specs.declared.transaction.TransactionExt.{TransactionExt}
use Rattle.tx_xdr.specs.declared.transaction.TransactionExt.TheVariants as exts
use Rattle.tx_results.specs.declared.operation.OperationResult.TheVariants.{NotSupported}
use Rattle.tx_results.specs.declared.results.TransactionOutcome.{TransactionOutcome}
use Rattle.tx_results.specs.declared.results.TransactionOutcome.TheVariants.{Failed, MissingOperation, Malformed}
use Rattle.stage_runs.specs.Maps.{LedgerMap}
use Rattle.call_spec.specs.World.{Authority}
use Rattle.call_spec.specs.Invoked.{invoked}
use Rattle.apply_spec.specs.Checks.{footprint_of, refusal_of}
use Rattle.apply_spec.specs.Enforced.{authority_of}
use Rattle.tx_steps.specs.Outcomes.{Ended, without_effect, extended, ended_of_call}

-- the checks reject a transaction without Soroban data
abbrev pub called : Header → Authority → LedgerMap → TransactionExt → HostFunction → Ended
called header authority entries exts.None function = without_effect Malformed
called header authority entries (exts.Soroban resources) function =
    ended_of_call entries resources.footprint (invoked header authority resources entries function)

-- the only operation, with this source
abbrev pub performed : Header → Verdicts → LedgerMap → Transaction → Option MuxedAccount → OperationBody → Ended
performed header verdicts entries tx source (ExtendFootprintTtl extend_to) = extended header entries (footprint_of tx) extend_to
performed header verdicts entries tx source RestoreFootprint = without_effect (Failed (NotSupported ∷ []))
performed header verdicts entries tx source (InvokeHostFunction host_function auth) =
    called header (authority_of verdicts tx source auth) entries tx.ext host_function

-- the first operation; the checks reject a transaction without one
abbrev pub first_performed : Header → Verdicts → LedgerMap → Transaction → List Operation → Ended
first_performed header verdicts entries tx [] = without_effect MissingOperation
first_performed header verdicts entries tx (operation ∷ rest) =
    performed header verdicts entries tx operation.source operation.body

-- a transaction that fails a check has no effect
abbrev pub unless_refused : Option TransactionOutcome → Ended → Ended
unless_refused (Some outcome) done = without_effect outcome
unless_refused None done = done

-- the checks come first, then the operation
abbrev pub ended : Header → Verdicts → LedgerMap → Transaction → Ended
ended header verdicts entries tx =
    unless_refused (refusal_of header tx) (first_performed header verdicts entries tx tx.operations)
