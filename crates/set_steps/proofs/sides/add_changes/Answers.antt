use Rattle.std.specs.FinMap.{get}
use Rattle.std.proofs.Common.{List, subst, sym, arith}
use Rattle.stage_runs.specs.declared.Change.{Change}
use Rattle.tx_steps.specs.Effects.{CanChange}
use Rattle.set_steps.specs.Sides.{sides_in, AddsChanges}
use Rattle.set_steps.proofs.Lists.{take_all}
use Rattle.set_steps.proofs.Telling.{changes_more}
use Rattle.set_steps.proofs.sides.add_changes.Goals as goal

pub loop-change-init : goal.loop-change-init
loop-change-init g c = λ before own are. are

pub add_change-requires : goal.add_change-requires
add_change-requires g c =
    subst CanChange (sym c.change-item.is) (c.requires c.loop-change.change-index c.change-item.result c.loop-change-test.true)

pub loop-change-preserved : goal.loop-change-preserved
loop-change-preserved g c =
    changes_more (g.E.Entries.shown c.args.entries.now) (g.met.E.Entries.sees c.args.entries.now) (get (g.E.Ground.map c.args.entries.now))
    c.args.changes.now c.loop-change.change-index c.change-item.result (sides_in c.args.sides.now) (sides_in c.loop-change.sides)
    (sides_in c.add_change.new.sides) c.loop-change-test.true c.change-item.is c.loop-change.invariant c.in_ok-add_change.ensures

pub returns : goal.returns
returns g c =
    subst
    (λ (cs : List Change). AddsChanges (g.E.Entries.shown c.args.entries.now) (get (g.E.Ground.map c.args.entries.now)) cs
    (sides_in c.args.sides.now) (sides_in c.loop-change.sides))
    (take_all c.args.changes.now c.loop-change.change-index (omega arith) (omega arith)) c.loop-change.invariant
