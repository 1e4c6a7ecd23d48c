-- The stages of a transaction set, in their order (own, after CAP-0063; sets are those of the Stellar XDR files).
use Rattle.std.specs.Prelude.{List, [], ◌∷◌, map}
use Rattle.std.specs.List.{flat_map}
use Rattle.tx_xdr.specs.declared.set.Component.{Component}
use Rattle.tx_xdr.specs.declared.set.Phase.{Phase}
use Rattle.tx_xdr.specs.declared.set.Phase.TheVariants.{Components, Parallel}
use Rattle.tx_xdr.specs.declared.set.Stage.{Stage}
use Rattle.tx_xdr.specs.declared.set.TxSet.{TxSet}

-- a component is a stage of one cluster
abbrev pub component_stage : Component → Stage
component_stage component = record { clusters = (record { envelopes = component.envelopes }) ∷ [] }

-- the stages of a phase
abbrev pub stages_in : Phase → List Stage
stages_in (Components components) = map component_stage components
stages_in (Parallel base_fee stages) = stages

-- the stages of a set, phase after phase
abbrev pub stages_of : TxSet → List Stage
stages_of set = flat_map stages_in set.phases
