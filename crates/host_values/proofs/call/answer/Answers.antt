use Rattle.host_values.proofs.call.answer.Goals as goal

pub returns-in-VecUnpackToLinearMemory-clause-answers : goal.returns-in-VecUnpackToLinearMemory-clause-answers
returns-in-VecUnpackToLinearMemory-clause-answers c = rw c.in-VecUnpackToLinearMemory.is c.unpacked.ensures.answers
