use Rattle.std.proofs.Common.{sym, ◌∙◌}
use Rattle.host_acts.proofs.Living.{forward_lives}
use Rattle.host_acts.proofs.lives.extend_lives.Goals as goal

pub returns-clause-does : goal.returns-clause-does
returns-clause-does g c =
    forward_lives c.extend_both.result c.args.contract c.args.code c.args.threshold c.args.extend_to c.args.storage.now c.extend_both.new.storage (sym c.is_backward.ensures ∙ c.if-is_backward.false) c.extend_both.ensures.does
