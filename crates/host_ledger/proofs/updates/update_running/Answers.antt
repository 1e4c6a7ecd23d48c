use Rattle.std.proofs.Common.{refl, sym, subst}
use Rattle.host_ledger.specs.Worlds.{IsHeld, world_at}
use Rattle.host_acts.proofs.Lemmas.{later_read}
use Rattle.host_ledger.proofs.updates.update_running.Goals as goal

pub returns-clause-does : goal.returns-clause-does
returns-clause-does g c = record {
  does = λ env is rest trace. c.update_code.ensures.does env is.serves (world_at rest c.args.host.now trace) refl refl refl (sym c.new-values.ensures) refl refl;
  made = c.update_code.ensures.made;
  stays = record {
    header = refl;
    storage = later_read c.args.host.now.storage c.update_code.new.storage c.update_code.ensures.read;
    events = c.update_code.ensures.later;
    objects = refl;
    frame = refl;
    copy = λ h. subst IsHeld (sym c.update_code.ensures.storage) h;
  };
}
