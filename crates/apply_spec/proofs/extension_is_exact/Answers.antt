use Rattle.apply_spec.proofs.Exact.{extension_exact}
use Rattle.apply_spec.proofs.extension_is_exact.Goals as goal

pub returns : goal.returns
returns c header verdicts entries envelope extend_to is = extension_exact header entries envelope extend_to verdicts is
