-- The bytes of a call that exceeded a limit, by its changes where it may write more.
use Rattle.std.proofs.Common.{◌≡◌, Option, ap, ◌∙◌}
use Rattle.ledger_types.specs.declared.header.Header.{Header}
use Rattle.ledger_types.specs.declared.verdicts.Verdicts.{Verdicts}
use Rattle.tx_xdr.specs.Envelope.{transaction_in}
use Rattle.tx_xdr.specs.declared.envelope.Envelope.{Envelope}
use Rattle.tx_xdr.specs.declared.transaction.Transaction.{Transaction}
use Rattle.stage_runs.specs.Maps.{LedgerMap}
use Rattle.stage_runs.specs.Transactions.{Effect}
use Rattle.call_spec.specs.World.{next_seq}
use Rattle.apply_spec.specs.Enforced.{enforced}
use Rattle.run_trace.specs.declared.summary.Bytes.{Bytes}
use Rattle.why_top.specs.Counted.{begins_with_call, bytes_if, unlimited}

-- the run is that of the envelope which may write more
pub lifted_bytes : (header : Header) (verdicts : Verdicts) (map : LedgerMap) (envelope again : Envelope) (tx : Transaction) (lifted : Effect) (bytes : Option Bytes)
    → bytes ≡ bytes_if (begins_with_call tx.operations) (next_seq header) map lifted.changes tx.ext
    → tx ≡ transaction_in envelope → lifted ≡ enforced header verdicts map again → again ≡ unlimited envelope
    → bytes ≡ bytes_if (begins_with_call (transaction_in envelope).operations) (next_seq header) map (enforced header verdicts map (unlimited envelope)).changes (transaction_in envelope).ext
lifted_bytes header verdicts map envelope again tx lifted bytes is is_tx run made =
    is
    ∙ ap (λ (t : Transaction). bytes_if (begins_with_call t.operations) (next_seq header) map lifted.changes t.ext) is_tx
    ∙ ap (λ (e : Effect). bytes_if (begins_with_call (transaction_in envelope).operations) (next_seq header) map e.changes (transaction_in envelope).ext)
    (run ∙ ap (enforced header verdicts map) made)
