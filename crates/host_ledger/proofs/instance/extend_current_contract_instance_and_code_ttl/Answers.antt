use Rattle.std.proofs.Common.{[], refl, sym, arith}
use Rattle.std.proofs.lemmas.Grind.{common_steps}
use Rattle.host_ledger.specs.Worlds.{world_at}
use Rattle.host_ledger.proofs.instance.extend_current_contract_instance_and_code_ttl.Goals as goal

pub returns-clause-does : goal.returns-clause-does
returns-clause-does g c = record {
  does = λ env is rest trace. c.extend_instance.ensures.does env is.serves (world_at rest c.args.host.now trace) refl refl (sym c.new-values.ensures) refl refl;
  made = c.extend_instance.ensures.made;
  stays = record {
    header = refl;
    storage = c.extend_instance.ensures.later;
    events = ([], grind (arith, common_steps));
    objects = refl;
    frame = refl;
    copy = λ h. h;
  };
}
