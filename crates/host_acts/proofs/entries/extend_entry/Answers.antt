use Rattle.std.proofs.Common.{sym, ◌∙◌}
use Rattle.host_acts.proofs.Linking.{forward_entry}
use Rattle.host_acts.proofs.entries.extend_entry.Goals as goal

pub returns-clause-does : goal.returns-clause-does
returns-clause-does g c =
    forward_entry c.extend.result c.args.contract _ _ c.args.durability _ _ c.args.storage.now c.extend.new.storage (sym c.is_backward.ensures ∙ c.if-is_backward.false) c.in_ok-key.ensures.key c.extend.ensures.does
