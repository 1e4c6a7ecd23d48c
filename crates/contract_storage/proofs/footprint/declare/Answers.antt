use Rattle.std.proofs.Common.{◌∙◌, ap, sym}
use Rattle.contract_storage.specs.Layered.{Layered}
use Rattle.contract_storage.proofs.Placing.{key_added, key_kept}
use Rattle.contract_storage.proofs.footprint.declare.Goals as goal

pub returns-in-Some-clause-keys : goal.returns-in-Some-clause-keys
returns-in-Some-clause-keys g c = sym (key_kept c.args.layer.now.keys c.args.key.now c.args.writes _ (sym c.in-Some.ensures))

pub returns-in_ok-add-in-None-clause-keys : goal.returns-in_ok-add-in-None-clause-keys
returns-in_ok-add-in-None-clause-keys g c =
    ap (λ (l : Layered). l.keys) c.in_ok-add-in-None.ensures.ok ∙ sym (key_added c.args.layer.now.keys c.args.key.now c.args.writes (sym c.in-None.ensures))
