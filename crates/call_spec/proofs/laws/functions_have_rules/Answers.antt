use Rattle.call_spec.proofs.Each.{each_has_rule}
use Rattle.call_spec.proofs.laws.functions_have_rules.Goals as goal

pub returns : goal.returns
returns c = each_has_rule
