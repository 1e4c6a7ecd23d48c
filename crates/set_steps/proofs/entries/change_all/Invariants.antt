use Rattle.std.proofs.Common.{◌≡◌, All}
use Rattle.stage_runs.specs.Runs.{change_all}
use Rattle.tx_steps.specs.Effects.{CanChange}
use Rattle.set_steps.proofs.entries.change_all.Given as goal

abbrev pub invariant-loop-change : goal.invariant-loop-change
invariant-loop-change g l = record {
  own : g.E.Entries.own l.entries ≡ change_all (g.E.Entries.own l.initial.entries) l.yielded;
  shown : g.E.Entries.shown l.entries ≡ g.E.Entries.shown l.initial.entries;
  left : All CanChange l.change-iterator.rest.items;
}
