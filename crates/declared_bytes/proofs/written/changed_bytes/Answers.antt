use Rattle.std.proofs.Common.{◌≤◌, sym, ◌∙◌, arith}
use Rattle.ledger_spec.specs.LedgerMap.{key_bytes}
use Rattle.ledger_spec.specs.Seen.{seen}
use Rattle.declared_bytes.proofs.Adding.{altered_is, fits_in, size_is}
use Rattle.declared_bytes.proofs.written.changed_bytes.Goals as goal

pub returns-else-is_unaltered : goal.returns-else-is_unaltered
returns-else-is_unaltered g c =
    let change = c.args.change.now in
    let kept = c.in-Some.kept in
    let alive : c.args.n ≤ kept.live_until = omega arith in
    altered_is c.args.n c.size.result kept change.after (seen c.args.n (g.G.Ground.map c.args.ground.now) change.key) c.in-Some.is alive
    (size_is kept.entry c.size.result c.size.ensures (fits_in change.after kept (key_bytes change.key) c.in-Some.is c.requires.after))
    (sym c.is_unaltered.ensures ∙ c.if-is_unaltered.false)
