use Rattle.std.proofs.Common.{◌+◌, List, ap, ◌∙◌}
use Rattle.std.specs.List.{sum_by}
use Rattle.xdr_core.specs.Sizes.{capped}
use Rattle.ledger_types.specs.declared.key.LedgerKey.{LedgerKey}
use Rattle.ledger_spec.specs.Seen.{seen}
use Rattle.call_spec.specs.Invoked.{live_bytes}
use Rattle.declared_bytes.proofs.Adding.{both_sums}
use Rattle.declared_bytes.proofs.read.read_bytes.Goals as goal

pub returns : goal.returns
returns g c =
    let f = λ (key : LedgerKey). live_bytes (seen c.args.n (g.G.Ground.map c.args.ground.now) key) in
    let footprint = c.args.footprint.now in
    both_sums f footprint.read_only footprint.read_write c.add_live-read_only.result c.add_live.result
    (c.add_live-read_only.ensures ∙ ap (λ (ks : List LedgerKey). capped (0 + sum_by f ks)) c.as_slice.ensures)
    (c.add_live.ensures ∙ ap (λ (ks : List LedgerKey). capped (c.add_live-read_only.result + sum_by f ks)) c.as_slice-2.ensures)
