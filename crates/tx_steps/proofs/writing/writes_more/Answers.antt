use Rattle.std.proofs.Common.{nat_lt, ap, ap₂, ◌∙◌, arith}
use Rattle.xdr_core.specs.Sizes.{capped}
use Rattle.call_spec.specs.Invoked.{written_bytes}
use Rattle.tx_steps.proofs.Adding.{capped_test}
use Rattle.tx_steps.proofs.Sums.{written_by_changes}
use Rattle.tx_steps.proofs.writing.writes_more.Goals as goal

pub returns : goal.returns
returns g c new are =
    let old = g.G.Ground.map c.args.ground.now in
    ap₂ nat_lt c.from.ensures (c.all_changed_bytes.ensures ∙ ap capped (written_by_changes c.args.n old new c.args.changes.now are))
    ∙ capped_test c.args.most (written_bytes c.args.n old new) (omega arith)
