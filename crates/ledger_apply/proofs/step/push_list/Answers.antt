use Rattle.std.proofs.Common.{Bool, List, refl, sym, subst}
use Rattle.stage_runs.specs.declared.Change.{Change}
use Rattle.set_steps.specs.Sides.{AddsList, HasList, IsMade}
use Rattle.ledger_apply.proofs.step.push_list.Goals as goal

pub returns-then-not-logs : goal.returns-then-not-logs
returns-then-not-logs g c =
    let now = c.args.entries.now in
    let old = c.args.log.now.items in
    subst (λ (b : Bool). AddsList b (IsMade (g.E.Entries.shown now) (g.E.Entries.own now) (g.E.Ground.map now) c.args.lives.now c.args.done.now.changes) old old)
    (sym c.if-not-logs.true) refl

pub returns : goal.returns
returns g c =
    let now = c.args.entries.now in
    let old = c.args.log.now.items in
    let new = c.push.new.self.items in
    let made = λ (cs : List Change). IsMade (g.E.Entries.shown now) (g.E.Entries.own now) (g.E.Ground.map now) c.args.lives.now cs in
    let has : HasList (made c.args.done.now.changes) old new =
    subst (λ (cs : List Change). HasList (made cs) old new) c.as_slice.ensures
    (record { list = c.in_ok-list.list; told = c.in_ok-list.ensures; added = c.in_ok-push.ensures.items }) in
    subst (λ (b : Bool). AddsList b (made c.args.done.now.changes) old new) (sym c.if-not-logs.false) has
