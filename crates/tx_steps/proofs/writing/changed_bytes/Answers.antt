use Rattle.std.proofs.Common.{◌≤◌, Option, sym, ap, ◌∙◌, arith}
use Rattle.ledger_spec.specs.declared.Kept.{Kept}
use Rattle.ledger_spec.specs.LedgerMap.{key_bytes}
use Rattle.ledger_spec.specs.Seen.{seen, seen_of}
use Rattle.tx_steps.specs.Changed.{is_unaltered_by}
use Rattle.tx_steps.proofs.Adding.{altered_is, fits_in, size_is}
use Rattle.tx_steps.proofs.writing.changed_bytes.Goals as goal

pub returns-else-is_unaltered : goal.returns-else-is_unaltered
returns-else-is_unaltered g c =
    let change = c.args.change.now in
    let kept = c.in-Some.kept in
    let old = g.G.Ground.map c.args.ground.now in
    let alive : c.args.n ≤ kept.live_until = omega arith in
    altered_is c.args.n c.size.result kept change.now (seen c.args.n old change.key) c.in-Some.is alive
    (size_is kept.entry c.size.result c.size.ensures (fits_in change.now kept (key_bytes change.key) c.in-Some.is c.requires.kept))
    (ap (λ (o : Option Kept). is_unaltered_by kept (seen_of c.args.n o)) (sym c.find.ensures.found) ∙ sym c.is_unaltered.ensures ∙ c.if-is_unaltered.false)
