use Rattle.std.proofs.Common.{◌≡◌, Option, IfOk, sym, subst, ◌∙◌}
use Rattle.tx_xdr.specs.Envelope.{transaction_in}
use Rattle.tx_xdr.specs.Ext.{ext_format}
use Rattle.tx_xdr.specs.declared.transaction.Transaction.{Transaction}
use Rattle.call_spec.specs.World.{next_seq}
use Rattle.run_trace.specs.declared.summary.Bytes.{Bytes}
use Rattle.why_top.specs.declared.counted.Cause.{Cause}
use Rattle.why_top.specs.Counted.{begins_with_call, bytes_if, changes_by}
use Rattle.why_top.proofs.Fitting.{ext_fits}
use Rattle.why_top.proofs.counted.bytes_of.Goals as goal

pub bytes_if-requires-clause-ext : goal.bytes_if-requires-clause-ext
bytes_if-requires-clause-ext g c =
    subst (λ (tx : Transaction). ext_format.fits tx.ext) (sym c.transaction-tx.ensures) (ext_fits c.args.envelope.now c.requires.envelope)

pub returns-in-Exceeded : goal.returns-in-Exceeded
returns-in-Exceeded g c =
    let header = c.args.header.now in
    let map = g.G.Ground.map c.args.ground.now in
    let envelope = c.args.envelope.now in
    let tx = transaction_in envelope in
    subst
    (λ (cause : Cause). IfOk c.exceeded_bytes.result (λ (bytes : Option Bytes). bytes
    ≡ bytes_if (begins_with_call tx.operations) (next_seq header) map (changes_by header c.args.verdicts.now map envelope c.args.done.now.changes cause) tx.ext))
    (sym c.in-Exceeded.is ∙ c.cause_of.ensures) c.exceeded_bytes.ensures
