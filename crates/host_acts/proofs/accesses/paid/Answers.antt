use Rattle.std.proofs.Common.{◌≡◌, true, false, refl}
use Rattle.host_acts.proofs.Putting.{paid_good, paid_spent}
use Rattle.host_acts.proofs.accesses.paid.Goals as goal

pub returns-in-Ok-clause-does : goal.returns-in-Ok-clause-does
returns-in-Ok-clause-does c w map j = paid_good _ c.args.size c.args.budget.now c.charge.new.self (c.in-Ok.ensures.fits.0 refl) c.in-Ok.ensures.ok c.void.result refl c.void.ensures.value w map j

pub returns-in-Err-clause-does : goal.returns-in-Err-clause-does
returns-in-Err-clause-does c w map j =
    paid_spent _ c.args.size c.args.budget.now c.charge.new.self (λ h. absurd (let e : false ≡ true = c.in-Err.ensures.fits.1 h in cc)) c.in-Err.ensures.spent refl w map j
