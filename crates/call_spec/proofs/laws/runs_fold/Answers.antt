use Rattle.call_spec.proofs.Folding.{fold_law}
use Rattle.call_spec.proofs.laws.runs_fold.Goals as goal

pub returns : goal.returns
returns c = fold_law
