use Rattle.value_types.specs.Views.{datums}
use Rattle.collection_calls.proofs.VecLaws.{part_all}
use Rattle.collection_calls.proofs.vec_parts.vec_longer.Goals as goal

pub vec_joined_by-requires-clause-front : goal.vec_joined_by-requires-clause-front
vec_joined_by-requires-clause-front c = part_all (datums c.args.items.now) c.requires.hosted
