use Rattle.std.proofs.Common.{◌≡◌, ◌++◌, take}
use Rattle.std.specs.List.{flat_map}
use Rattle.xdr_spec.specs.Format.{optional}
use Rattle.invoke_types.specs.Success.{success_format}
use Rattle.tx_results.specs.Results.{result_set_format}
use Rattle.tx_results.proofs.writing.write_report.Given as goal

abbrev pub invariant-loop-success : goal.invariant-loop-success
invariant-loop-success l = l.out ≡ result_set_format.spell l.results ++ flat_map (optional success_format).spell (take l.success-index l.successes)
