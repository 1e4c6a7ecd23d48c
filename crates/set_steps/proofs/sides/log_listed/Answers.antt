use Rattle.std.proofs.Common.{◌<◌, ◌^◌, length, subst, arith}
use Rattle.change_log.specs.Log.{Changes}
use Rattle.set_steps.proofs.sides.log_listed.Goals as goal

pub returns-clause-few : goal.returns-clause-few
returns-clause-few c =
    subst (λ (changes : Changes). length changes < 2 ^ 32) c.as_slice.ensures (omega (arith, c.if-as_slice-gt-MOST_CHANGES.false))
