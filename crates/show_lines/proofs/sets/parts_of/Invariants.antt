use Rattle.std.proofs.Common.{◌≡◌, map, take}
use Rattle.std.specs.List.{flat_map}
use Rattle.tx_xdr.specs.Stages.{stages_in}
use Rattle.show_lines.specs.Parts.{part_of}
use Rattle.show_lines.proofs.sets.parts_of.Given as goal

abbrev pub invariant-loop-phase : goal.invariant-loop-phase
invariant-loop-phase l = map part_of l.parts.items ≡ flat_map stages_in (take l.phase-index l.set.phases)
