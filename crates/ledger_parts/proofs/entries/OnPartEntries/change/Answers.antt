use Rattle.std.proofs.Common.{ap, arith}
use Rattle.std.specs.FinMap.{len}
use Rattle.ledger_spec.specs.LedgerMap.{LedgerMap, key_bytes}
use Rattle.ledger_parts.proofs.Maps.{no_more_removed}
use Rattle.ledger_parts.proofs.entries.OnPartEntries.change.Goals as goal

pub invariant_of-self-in-None : goal.invariant_of-self-in-None
invariant_of-self-in-None c =
    let seen = c.args.self.now in
    record { few = omega (arith, ap (λ (m : LedgerMap). len m) c.take-taken.ensures.left, no_more_removed seen.part.own (key_bytes c.args.change.key), seen.few) }
