use Rattle.std.proofs.Common.{ap, ◌+◌, ◌∙◌, arith, ◌≡◌}
use Rattle.ledger_types.specs.declared.key.LedgerKey.{LedgerKey}
use Rattle.ledger_spec.specs.Seen.{seen}
use Rattle.xdr_core.specs.Sizes.{capped}
use Rattle.call_spec.specs.Invoked.{live_bytes}
use Rattle.tx_steps.proofs.Adding.{capped_small, sum_more}
use Rattle.tx_steps.proofs.reading.add_live.Goals as goal

pub loop-key-init : goal.loop-key-init
loop-key-init g c =
    let zero : c.args.before ≡ c.args.before + 0 = omega arith in
    capped_small c.args.before (omega arith) ∙ ap capped zero

pub loop-key-preserved : goal.loop-key-preserved
loop-key-preserved g c =
    c.add_sizes-total.ensures
    ∙ sum_more (λ (key : LedgerKey). live_bytes (seen c.args.n (g.G.Ground.map c.args.ground.now) key)) c.args.before c.args.keys.now c.loop-key.key-index c.key-item.result c.loop-key-test.true c.key-item.is
    c.loop-key.total c.live_bytes.result c.loop-key.invariant c.live_bytes.ensures
