use Rattle.std.proofs.Common.{take}
use Rattle.std.specs.List.{AllByRecursion}
use Rattle.value_types.specs.Formats.{scval_format}
use Rattle.auth_record.proofs.bounded.values_fit.Given as goal

abbrev pub invariant-loop-value : goal.invariant-loop-value
invariant-loop-value l = AllByRecursion scval_format.fits (take l.value-index l.values)
