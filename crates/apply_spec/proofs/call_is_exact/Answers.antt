use Rattle.apply_spec.proofs.Called.{invoke_law}
use Rattle.apply_spec.proofs.call_is_exact.Goals as goal

pub returns : goal.returns
returns c header verdicts entries envelope resources operation function auth is =
    invoke_law header verdicts entries envelope resources operation function auth is
