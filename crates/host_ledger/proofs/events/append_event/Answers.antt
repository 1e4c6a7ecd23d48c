use Rattle.std.proofs.Common.{refl, sym}
use Rattle.host_ledger.specs.Worlds.{world_at}
use Rattle.host_frame.specs.Answered.{answer_of}
use Rattle.host_acts.proofs.Lemmas.{later_same, quietly}
use Rattle.host_ledger.proofs.events.append_event.Goals as goal

pub returns-clause-does : goal.returns-clause-does
returns-clause-does g c = record {
  does = λ env is rest trace.
      quietly c.emit_event.result answer_of _ c.args.host.now.storage (world_at rest c.args.host.now trace) _
      (c.emit_event.ensures.does env (world_at rest c.args.host.now trace) refl refl (sym c.new-values.ensures) refl);
  made = c.emit_event.ensures.made;
  stays = record {
    header = refl;
    storage = later_same _ _ refl;
    events = c.emit_event.ensures.later;
    objects = refl;
    frame = refl;
    copy = λ h. h;
  };
}
