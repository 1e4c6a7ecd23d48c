use Rattle.std.proofs.Common.{◌≡◌, All, take}
use Rattle.ledger_spec.specs.LedgerMap.{LedgerMap}
use Rattle.stage_runs.specs.Whole.{changes_of}
use Rattle.tx_steps.specs.Changed.{Leads}
use Rattle.tx_steps.specs.Effects.{CanChange}
use Rattle.tx_steps.proofs.changes.changes_at.Given as goal

abbrev pub invariant-loop-key : goal.invariant-loop-key
invariant-loop-key g l =
    ((new : LedgerMap) → Leads (g.G.Ground.map l.ground) new l.changed.entries → l.changes.items ≡ changes_of new (take l.key-index l.keys))
    × All CanChange l.changes.items
