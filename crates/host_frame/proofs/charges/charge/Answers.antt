use Rattle.std.proofs.Common.{◌≡◌, true, false, refl}
use Rattle.host_frame.proofs.Acting.{charged_good, charged_spent}
use Rattle.host_frame.proofs.charges.charge.Goals as goal

pub returns-in-Ok : goal.returns-in-Ok
returns-in-Ok c shown memory = charged_good c.args.kind c.args.input shown memory c.args.budget.now c.charge.new.self (c.in-Ok.ensures.fits.0 refl) c.in-Ok.ensures.ok

pub returns-in-Err : goal.returns-in-Err
returns-in-Err c shown memory = charged_spent c.args.kind c.args.input shown memory c.args.budget.now c.charge.new.self (λ h. absurd (let e : false ≡ true = c.in-Err.ensures.fits.1 h in cc)) c.in-Err.ensures.spent
