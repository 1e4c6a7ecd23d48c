use Rattle.std.proofs.Common.{subst}
use Rattle.tx_xdr.specs.Operation.{body_format}
use Rattle.tx_xdr.specs.declared.transaction.OperationBody.{OperationBody}
use Rattle.tx_apply.proofs.Lemmas.{function_fits}
use Rattle.auth_record.proofs.record.record_operation.Goals as goal

pub record_call-requires-clause-function : goal.record_call-requires-clause-function
record_call-requires-clause-function g c =
    function_fits c.in-InvokeHostFunction.host_function c.in-InvokeHostFunction.auth (subst (λ (b : OperationBody). body_format.fits b) c.in-InvokeHostFunction.is c.requires.body)
