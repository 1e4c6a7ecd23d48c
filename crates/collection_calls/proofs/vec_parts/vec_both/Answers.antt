use Rattle.value_types.specs.Views.{datums}
use Rattle.collection_calls.proofs.VecLaws.{part_all}
use Rattle.collection_calls.proofs.vec_parts.vec_both.Goals as goal

pub vec_joined-requires-clause-front : goal.vec_joined-requires-clause-front
vec_joined-requires-clause-front c = part_all (datums c.args.front.now) c.requires.front

pub vec_joined-requires-clause-back : goal.vec_joined-requires-clause-back
vec_joined-requires-clause-back c = part_all (datums c.args.back.now) c.requires.back
