use Rattle.std.proofs.Common.{◌≡◌, take}
use Rattle.contract_storage.specs.Footprint.{with_keys}
use Rattle.contract_storage.specs.Layered.{with_slots}
use Rattle.contract_storage.proofs.footprint.declare_all.Given as goal

abbrev pub invariant-loop-key : goal.invariant-loop-key
invariant-loop-key g l =
    (l.layer.keys ≡ with_keys l.initial.layer.keys (take l.key-index l.keys) l.writes) × (l.layer ≡ with_slots l.initial.layer l.layer.keys)
