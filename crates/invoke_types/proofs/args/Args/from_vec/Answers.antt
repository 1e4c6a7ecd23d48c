use Rattle.std.proofs.Common.{ap, ◌∙◌}
use Rattle.std.specs.Prelude.{map}
use Rattle.value_types.specs.Views.{scval}
use Rattle.invoke_types.proofs.Giving.{values_back}
use Rattle.invoke_types.proofs.args.Args.from_vec.Goals as goal

pub returns : goal.returns
returns c = ap (map scval) c.in_ok-from_vec.ensures ∙ values_back _
