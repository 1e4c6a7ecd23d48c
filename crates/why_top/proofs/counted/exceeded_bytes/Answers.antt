use Rattle.std.proofs.Common.{List, sym, ap, subst, ◌∙◌}
use Rattle.tx_xdr.specs.Ext.{ext_format}
use Rattle.tx_xdr.specs.declared.transaction.Transaction.{Transaction}
use Rattle.stage_runs.specs.declared.Change.{Change}
use Rattle.call_spec.specs.World.{next_seq}
use Rattle.tx_apply.specs.Done.{effect_of}
use Rattle.why_top.specs.Counted.{begins_with_call, bytes_if, unlimited}
use Rattle.why_top.proofs.Counting.{lifted_bytes}
use Rattle.why_top.proofs.Fitting.{ext_fits}
use Rattle.why_top.proofs.counted.exceeded_bytes.Goals as goal

pub bytes_if-requires-clause-ext : goal.bytes_if-requires-clause-ext
bytes_if-requires-clause-ext g c =
    subst (λ (tx : Transaction). ext_format.fits tx.ext) (sym c.transaction-tx.ensures) (ext_fits c.args.envelope.now c.requires.envelope)

pub returns : goal.returns
returns g c =
    let header = c.args.header.now in
    let map = g.G.Ground.map c.args.ground.now in
    let tx = c.transaction-tx.result.now in
    lifted_bytes header c.args.verdicts.now map c.args.envelope.now c.unlimited-again.result tx (effect_of c.in_ok-lifted.lifted) c.bytes_if.result
    (c.bytes_if.ensures ∙ ap (λ (changes : List Change). bytes_if (begins_with_call tx.operations) (next_seq header) map changes tx.ext) c.as_slice.ensures)
    c.transaction-tx.ensures c.in_ok-lifted.ensures.done (c.unlimited-again.ensures.with ∙ ap unlimited c.in_ok-clone.ensures.cases)
