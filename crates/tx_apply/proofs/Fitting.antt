-- Parts of a transaction within its XDR format are within theirs.
use Rattle.std.proofs.Common.{◌≡◌, ◌≤◌, List, [], ◌∷◌, All, length, get_or, sym, subst, arith}
use Rattle.std.proofs.lemmas.List.Elements.{All-from_recursion}
use Rattle.xdr_spec.specs.Format.{list}
use Rattle.auth_types.specs.AuthEntry.{auth_entry_format}
use Rattle.auth_types.specs.declared.auth_entry.AuthEntry.{AuthEntry}
use Rattle.invoke_types.specs.HostFunction.{host_function_format}
use Rattle.invoke_types.specs.declared.host_function.HostFunction.{HostFunction}
use Rattle.tx_xdr.specs.Operation.{body_format, operation_format}
use Rattle.tx_xdr.specs.Transaction.{transaction_format}
use Rattle.tx_xdr.specs.declared.transaction.Operation.{Operation}
use Rattle.tx_xdr.specs.declared.transaction.OperationBody.TheVariants.{InvokeHostFunction}
use Rattle.tx_xdr.specs.declared.transaction.Transaction.{Transaction}

-- the host function of a call
pub function_fits : (function : HostFunction) (auth : List AuthEntry) → body_format.fits (InvokeHostFunction function auth) → host_function_format.fits function
unfolding body_format
function_fits function auth h = h.0

-- the authorisation entries of a call
pub auth_fits : (function : HostFunction) (auth : List AuthEntry) → body_format.fits (InvokeHostFunction function auth) → All auth_entry_format.fits auth
unfolding body_format list
auth_fits function auth h = All-from_recursion auth_entry_format.fits auth h.1.2

first_fits : (operations : List Operation) (operation : Operation) → 1 ≤ length operations → operation ≡ get_or operations 0 operation → (list 100 operation_format).fits operations → body_format.fits operation.body
unfolding list operation_format
first_fits [] operation lt e h = absurd (omega arith)
first_fits (first ∷ others) operation lt e h = subst (λ (x : Operation). body_format.fits x.body) (sym e) h.2.0.1

-- the first operation of a transaction, as a slice lends it
pub body_at : (tx : Transaction) (lent : List Operation) (operation : Operation) → lent ≡ tx.operations → 1 ≤ length lent → operation ≡ get_or lent 0 operation → transaction_format.fits tx → body_format.fits operation.body
unfolding transaction_format
body_at tx lent operation e lt is h = first_fits lent operation lt is (subst (λ (ops : List Operation). (list 100 operation_format).fits ops) (sym e) h.1.1.1.1.1.0)
