use Rattle.host_values.proofs.call.call_function.Goals as goal

pub returns-in-VecNewFromLinearMemory-clause-does : goal.returns-in-VecNewFromLinearMemory-clause-does
returns-in-VecNewFromLinearMemory-clause-does c = rw c.in-VecNewFromLinearMemory.is c.shown_vec.ensures.does
