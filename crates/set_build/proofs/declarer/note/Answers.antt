use Rattle.std.proofs.Common.{◌∙◌}
use Rattle.set_build.proofs.Declaring.{noted_at}
use Rattle.set_build.proofs.declarer.note.Goals as goal

pub returns : goal.returns
returns c =
    noted_at c.args.key c.requires c.args.declarers.now c.insert.new.self c.args.number c.args.writes c.copied-found.result c.declared_too.result c.in_ok-insert.ensures.updates
    (c.copied-found.ensures ∙ c.get.ensures.value) c.declared_too.ensures
