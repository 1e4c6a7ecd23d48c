use Rattle.std.proofs.Common.{◌≡◌}
use Rattle.set_generator.specs.GeneratedLedger.{entries_for}
use Rattle.set_generator.proofs.ledger.generated_entries.Given as goal

abbrev pub invariant-loop-number : goal.invariant-loop-number
invariant-loop-number l = l.entries ≡ entries_for l.number
