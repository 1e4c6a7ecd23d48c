use Rattle.std.proofs.Common.{sym, refl}
use Rattle.host_frame.proofs.answer.give.Goals as goal

pub returns-in-Raw-clause-does : goal.returns-in-Raw-clause-does
returns-in-Raw-clause-does c memory = rw c.in-Raw.is refl

pub returns-in-Object-clause-does : goal.returns-in-Object-clause-does
returns-in-Object-clause-does c memory = rw c.in-Object.is (c.show_object.ensures.does memory)

pub returns-in-Some-clause-does : goal.returns-in-Some-clause-does
returns-in-Some-clause-does c memory = rw (c.in-Value.is, sym c.in-Some.ensures) refl

pub returns-in-None-clause-does : goal.returns-in-None-clause-does
returns-in-None-clause-does c memory = rw (c.in-Value.is, sym c.in-None.ensures) (c.show_object-in-None.ensures.does memory)
