use Rattle.std.specs.FinMap.{get}
use Rattle.std.specs.List.{AllByRecursion}
use Rattle.std.proofs.Common.{sym, subst, ◌∙◌}
use Rattle.change_log.specs.Views.{IsChanged}
use Rattle.set_steps.specs.Lives.{before_lives}
use Rattle.set_steps.proofs.Lists.{both_ok}
use Rattle.set_steps.proofs.SidesListed.{list_fits, list_is}
use Rattle.set_steps.proofs.Telling.{lives_told}
use Rattle.set_steps.proofs.sides.lives_log.Goals as goal

pub add_lives-requires : goal.add_lives-requires
add_lives-requires g c = c.requires.keyed

pub log_listed-requires : goal.log_listed-requires
log_listed-requires g c =
    let m = g.G.Ground.map c.args.ground.now in
    let lives = c.args.lives.now in
    let are = lives_told m lives c.new-sides.result c.add_lives.new.sides c.requires.map c.new-sides.ensures.empty c.in_ok-add_lives.ensures in
    subst (AllByRecursion IsChanged) (sym c.deref.ensures.value)
    (list_fits (λ q. before_lives lives q (get m q)) (get m) (get m) c.add_lives.new.sides are c.in_ok-list.list.items c.in_ok-list.ensures.same
    c.listed.ensures.ordered)

pub returns : goal.returns
returns g c =
    let m = g.G.Ground.map c.args.ground.now in
    let lives = c.args.lives.now in
    let are = lives_told m lives c.new-sides.result c.add_lives.new.sides c.requires.map c.new-sides.ensures.empty c.in_ok-add_lives.ensures in
    both_ok c.log_listed.result _ _ _
    (λ made is few. list_is (λ q. before_lives lives q (get m q)) (get m) (get m) c.add_lives.new.sides are c.deref.result.now made
    (c.deref.ensures.value ∙ c.in_ok-list.ensures.same) c.listed.ensures.ordered is few)
    c.log_listed.ensures.list c.log_listed.ensures.few
