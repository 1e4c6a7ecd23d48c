use Rattle.std.proofs.Common.{◌∙◌, true, false, ap}
use Rattle.contract_storage.specs.Footprint.{with_keys}
use Rattle.contract_storage.specs.Layered.{Layered, with_slots}
use Rattle.contract_storage.proofs.Footprints.{declared_is}
use Rattle.contract_storage.proofs.Placing.{Keys}
use Rattle.contract_storage.proofs.footprint.declared_layer.Goals as goal

pub returns-clause-declared : goal.returns-clause-declared
returns-clause-declared g c =
    declared_is c.args.read_only.now c.args.read_write.now _ c.requires.read_only c.requires.read_write
    (c.in_ok-declare_all-2.ensures.keys
    ∙ ap (λ (ks : Keys). with_keys ks c.args.read_only.now false) (c.in_ok-declare_all.ensures.keys ∙ ap (λ (l : Layered). with_keys l.keys c.args.read_write.now true) c.new-layer.ensures))

pub returns-clause-starts : goal.returns-clause-starts
returns-clause-starts g c =
    c.declare_all-2.ensures.same ∙ ap (λ (l : Layered). with_slots l c.declare_all-2.new.layer.keys) (c.declare_all.ensures.same ∙ ap (λ (l : Layered). with_slots l c.declare_all.new.layer.keys) c.new-layer.ensures)
