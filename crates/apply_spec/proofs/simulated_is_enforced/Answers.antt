use Rattle.std.proofs.Common.{sym}
use Rattle.apply_spec.specs.Simulated.{simulated}
use Rattle.apply_spec.proofs.Framed.{step_framed}
use Rattle.apply_spec.proofs.Halves.{smaller_traps}
use Rattle.apply_spec.proofs.simulated_is_enforced.Goals as goal

pub returns-clause-same : goal.returns-clause-same
returns-clause-same c header verdicts entries other envelope agree =
    sym ((step_framed header verdicts).framed entries other (simulated header verdicts entries envelope).envelope agree)

pub returns-clause-smaller : goal.returns-clause-smaller
returns-clause-smaller c header verdicts entries other envelope smaller success agree less =
    smaller_traps header verdicts entries other envelope smaller success agree less
