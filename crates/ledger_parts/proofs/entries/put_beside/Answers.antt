use Rattle.std.proofs.Common.{arith}
use Rattle.ledger_spec.specs.LedgerMap.{key_bytes}
use Rattle.ledger_parts.proofs.Maps.{few_after}
use Rattle.ledger_parts.proofs.entries.put_beside.Goals as goal

pub returns-clause-few : goal.returns-clause-few
returns-clause-few c =
    few_after c.set.result c.args.entries.now c.set.new.self (key_bytes c.args.key.now) c.args.kept c.args.others c.set.ensures.ok c.set.ensures.err
    (omega (arith, c.if-len-others-ge-MOST_ENTRIES.false, c.len.ensures.len))
