use Rattle.std.proofs.Common.{arith}
use Rattle.std.proofs.lemmas.Grind.{common_steps}
use Rattle.object_store.proofs.SmallHosted.{symbol_hosted}
use Rattle.object_store.proofs.small.symbol_value.Goals as goal

pub returns-in-Ok-clause-hosted : goal.returns-in-Ok-clause-hosted
returns-in-Ok-clause-hosted c = symbol_hosted c.args.val.0 c.from_vec.result c.requires (grind (arith, common_steps))
