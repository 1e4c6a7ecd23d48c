use Rattle.std.proofs.Common.{◌∙◌}
use Rattle.invoke_types.proofs.Giving.{data_back}
use Rattle.invoke_types.proofs.args.Args.of.Goals as goal

pub returns : goal.returns
returns c = data_back _ ∙ c.in_ok-clone.ensures.cases
