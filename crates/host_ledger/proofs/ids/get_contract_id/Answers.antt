use Rattle.std.proofs.Common.{[], ap, refl, sym, arith}
use Rattle.std.proofs.lemmas.Grind.{common_steps}
use Rattle.ledger_types.specs.declared.header.Header.{Header}
use Rattle.host_ledger.specs.Worlds.{world_at}
use Rattle.host_frame.specs.Answered.{answer_of}
use Rattle.host_acts.proofs.Lemmas.{later_same, quietly}
use Rattle.host_ledger.proofs.ids.get_contract_id.Goals as goal

pub returns-clause-does : goal.returns-clause-does
returns-clause-does g c = record {
  does = λ env is rest trace.
      quietly c.id_of_words.result answer_of _ c.args.host.now.storage (world_at rest c.args.host.now trace) _
      (c.id_of_words.ensures.does env (ap (λ (h : Header). h.network_id) is.header) (world_at rest c.args.host.now trace) refl (sym c.new-values.ensures));
  made = c.id_of_words.ensures.made;
  stays = record {
    header = refl;
    storage = later_same _ _ refl;
    events = ([], grind (arith, common_steps));
    objects = refl;
    frame = refl;
    copy = λ h. h;
  };
}
