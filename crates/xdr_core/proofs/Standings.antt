-- Calls one after another, of a source or of what pours.
use Rattle.std.proofs.Common.{refl, ◌∙◌, arith}
use Rattle.xdr_core.specs.Sources.{Standing, GoesOn, Halts}

-- no call
pub none : {K : Type 0} (a : Standing K) → GoesOn a a
none a = (refl, omega arith, λ x. x, λ x. x)

-- two calls
pub then : {K : Type 0} (a b c : Standing K) → GoesOn a b → GoesOn b c → GoesOn a c
then a b c h k = (k.0 ∙ h.0, omega (arith, h.1, k.1), λ x. k.2 (h.2 x), λ x. k.3 (h.3 x))

-- a call, and one that stopped
pub halt : {K : Type 0} (a b c : Standing K) → GoesOn a b → Halts b c → Halts a c
halt a b c h k = (k.0 ∙ h.0, omega (arith, h.1, k.1), λ x. k.2 (h.2 x), λ x. k.3 (h.3 x))
