use Rattle.std.proofs.Common.{◌≡◌, ap, ◌∙◌}
use Rattle.change_log.specs.Play.{in_order}
use Rattle.change_log.specs.Views.{group_of, groups_of}
use Rattle.change_log.proofs.Ordered.{order_map}
use Rattle.change_log.proofs.playing.play_read.Goals as goal

pub returns : goal.returns
returns c =
    let e : groups_of c.deref.result.now ≡ in_order c.args.back (groups_of c.args.groups.items) =
    ap groups_of c.deref.ensures.value ∙ ap groups_of c.in_order-groups.ensures
    ∙ order_map group_of c.args.back c.args.groups.items in
    simp e at c.play_groups.ensures
