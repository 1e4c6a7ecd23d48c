use Rattle.std.proofs.Common.{◌+◌, List, nat_lt, ap, ap₂, ◌∙◌, arith}
use Rattle.std.specs.List.{sum_by}
use Rattle.ledger_types.specs.declared.key.LedgerKey.{LedgerKey}
use Rattle.ledger_spec.specs.Seen.{seen}
use Rattle.xdr_core.specs.Sizes.{capped}
use Rattle.call_spec.specs.Invoked.{live_bytes, read_bytes}
use Rattle.tx_steps.proofs.Adding.{both_sums, capped_test}
use Rattle.tx_steps.proofs.reading.reads_more.Goals as goal

pub returns : goal.returns
returns g c =
    let f = λ (key : LedgerKey). live_bytes (seen c.args.n (g.G.Ground.map c.args.ground.now) key) in
    let footprint = c.args.footprint.now in
    let total = both_sums f footprint.read_only footprint.read_write c.add_live-read_only.result c.add_live-total.result
    (c.add_live-read_only.ensures ∙ ap (λ (ks : List LedgerKey). capped (0 + sum_by f ks)) c.as_slice.ensures)
    (c.add_live-total.ensures ∙ ap (λ (ks : List LedgerKey). capped (c.add_live-read_only.result + sum_by f ks)) c.as_slice-2.ensures) in
    ap₂ nat_lt c.from.ensures total ∙ capped_test c.args.most (read_bytes c.args.n (g.G.Ground.map c.args.ground.now) footprint) (omega arith)
