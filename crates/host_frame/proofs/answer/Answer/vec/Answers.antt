use Rattle.std.proofs.Common.{arith}
use Rattle.value_types.specs.Views.{datums}
use Rattle.host_frame.proofs.Making.{vec_made, datums_length}
use Rattle.host_frame.proofs.answer.Answer.vec.Goals as goal

pub returns-clause-made : goal.returns-clause-made
returns-clause-made c = rw c.in_ok-items.ensures (vec_made (datums c.args.items.items) (omega (arith, datums_length c.args.items.items, c.requires.few)) c.requires.made)
