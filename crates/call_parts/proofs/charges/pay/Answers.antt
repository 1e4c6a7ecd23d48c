use Rattle.std.proofs.Common.{◌≡◌, true, false, refl}
use Rattle.call_parts.proofs.Joining.{pay_good, pay_spent}
use Rattle.call_parts.proofs.charges.pay.Goals as goal

pub returns-in-Ok-clause-does : goal.returns-in-Ok-clause-does
returns-in-Ok-clause-does c = pay_good tt c.args.kind c.args.input c.args.budget.now c.charge.new.self (c.in-Ok.ensures.fits.0 refl) c.in-Ok.ensures.ok

pub returns-in-Err-clause-does : goal.returns-in-Err-clause-does
returns-in-Err-clause-does c =
    pay_spent c.args.kind c.args.input c.args.budget.now c.charge.new.self (λ h. absurd (let e : false ≡ true = c.in-Err.ensures.fits.1 h in cc)) c.in-Err.ensures.spent
