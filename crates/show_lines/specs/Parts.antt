-- The stages that the code's parts of a set mean (own).
use Rattle.tx_xdr.specs.Stages.{component_stage}
use Rattle.tx_xdr.specs.declared.set.Stage.{Stage}
use Rattle.show_lines.specs.declared.sets.Part.{Part}
use Rattle.show_lines.specs.declared.sets.Part.TheVariants as parts

-- the stage of a part
abbrev pub part_of : Part → Stage
part_of (parts.Component component) = component_stage component.now
part_of (parts.Stage stage) = stage.now
