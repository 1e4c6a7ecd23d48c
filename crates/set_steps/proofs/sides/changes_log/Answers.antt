use Rattle.std.specs.FinMap.{get}
use Rattle.std.specs.List.{AllByRecursion}
use Rattle.std.proofs.Common.{sym, subst, ◌∙◌}
use Rattle.change_log.specs.Views.{IsChanged}
use Rattle.stage_runs.specs.Runs.{change_all}
use Rattle.set_steps.specs.Lives.{before_lives}
use Rattle.set_steps.proofs.Lists.{both_ok}
use Rattle.set_steps.proofs.SidesListed.{list_fits, list_is}
use Rattle.set_steps.proofs.Telling.{all_told}
use Rattle.set_steps.proofs.sides.changes_log.Goals as goal

pub log_listed-requires : goal.log_listed-requires
log_listed-requires g c =
    let m = g.E.Ground.map c.args.entries.now in
    let lives = c.args.lives.now in
    let shown = g.E.Entries.shown c.args.entries.now in
    let own = g.E.Entries.own c.args.entries.now in
    let are = all_told shown own m lives c.args.changes.now c.new-sides.result c.add_lives.new.sides c.add_changes.new.sides c.len-count.ensures.map
    (g.met.E.Entries.shows c.args.entries.now) c.new-sides.ensures.empty c.in_ok-add_lives.ensures c.in_ok-add_changes.ensures in
    subst (AllByRecursion IsChanged) (sym c.deref.ensures.value)
    (list_fits (λ q. before_lives lives q (get m q)) (get (shown (change_all own c.args.changes.now))) (get m) c.add_changes.new.sides are
    c.in_ok-list.list.items c.in_ok-list.ensures.same c.listed.ensures.ordered)

pub returns : goal.returns
returns g c =
    let m = g.E.Ground.map c.args.entries.now in
    let lives = c.args.lives.now in
    let shown = g.E.Entries.shown c.args.entries.now in
    let own = g.E.Entries.own c.args.entries.now in
    let are = all_told shown own m lives c.args.changes.now c.new-sides.result c.add_lives.new.sides c.add_changes.new.sides c.len-count.ensures.map
    (g.met.E.Entries.shows c.args.entries.now) c.new-sides.ensures.empty c.in_ok-add_lives.ensures c.in_ok-add_changes.ensures in
    both_ok c.log_listed.result _ _ _
    (λ made is few. list_is (λ q. before_lives lives q (get m q)) (get (shown (change_all own c.args.changes.now))) (get m) c.add_changes.new.sides are
    c.deref.result.now made (c.deref.ensures.value ∙ c.in_ok-list.ensures.same) c.listed.ensures.ordered is few)
    c.log_listed.ensures.list c.log_listed.ensures.few
