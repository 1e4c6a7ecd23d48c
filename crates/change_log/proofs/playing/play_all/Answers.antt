use Rattle.std.proofs.Common.{◌≡◌, List, sym, ap, subst, ◌∙◌}
use Rattle.std.specs.Prelude.{All}
use Rattle.change_log.specs.Fits.{FitsChange}
use Rattle.change_log.specs.Play.{in_order, lists_of, played_all}
use Rattle.change_log.specs.Views.{placed_of, all_placed, IsPlayedTo}
use Rattle.change_log.specs.declared.playing.Placed.{Placed}
use Rattle.change_log.proofs.Listed.{log_fits, all_fit}
use Rattle.change_log.proofs.Ordered.{order_all, order_map}
use Rattle.change_log.proofs.playing.play_all.Goals as goal

pub play_lists-requires : goal.play_lists-requires
play_lists-requires c =
    let lists = c.in_ok-lists_of.field-0.items in
    let fit = all_fit lists (lists_of c.args.log.now) c.in_ok-lists_of.ensures (log_fits c.args.log.now c.requires) in
    subst (λ (ps : List Placed). All (λ (p : Placed). All FitsChange p.changes.now) ps)
    (sym (c.deref.ensures.value ∙ c.in_order-lists.ensures))
    (order_all (λ (p : Placed). All FitsChange p.changes.now) c.args.back c.in_ok-lists_of.field-0.items fit)

pub returns-in-Some-clause-unfit : goal.returns-in-Some-clause-unfit
returns-in-Some-clause-unfit c =
    let e : all_placed c.deref.result.now ≡ in_order c.args.back (lists_of c.args.log.now) =
    ap all_placed (c.deref.ensures.value ∙ c.in_order-lists.ensures)
    ∙ order_map placed_of c.args.back c.in_ok-lists_of.field-0.items
    ∙ ap (in_order c.args.back) c.in_ok-lists_of.ensures in
    let after = played_all c.args.back c.args.entries (all_placed c.deref.result.now) in
    let h = subst (λ o. IsPlayedTo o c.play_lists.new.entries after) c.in-Some.is c.in_ok-at.ensures in
    ap (played_all c.args.back c.args.entries) (sym e) ∙ h

pub returns-in-None-clause-ok : goal.returns-in-None-clause-ok
returns-in-None-clause-ok c =
    let e : all_placed c.deref.result.now ≡ in_order c.args.back (lists_of c.args.log.now) =
    ap all_placed (c.deref.ensures.value ∙ c.in_order-lists.ensures)
    ∙ order_map placed_of c.args.back c.in_ok-lists_of.field-0.items
    ∙ ap (in_order c.args.back) c.in_ok-lists_of.ensures in
    let after = played_all c.args.back c.args.entries (all_placed c.deref.result.now) in
    let h = subst (λ o. IsPlayedTo o c.play_lists.new.entries after) c.in-None.is c.in_ok-at.ensures in
    ap (played_all c.args.back c.args.entries) (sym e) ∙ h
