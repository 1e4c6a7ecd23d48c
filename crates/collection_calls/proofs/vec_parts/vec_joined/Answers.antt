use Rattle.value_types.specs.Views.{datums}
use Rattle.collection_calls.proofs.VecLaws.{joined_made, joined_few}
use Rattle.collection_calls.proofs.vec_parts.vec_joined.Goals as goal

pub vec-requires-clause-few : goal.vec-requires-clause-few
vec-requires-clause-few c = joined_few _ (datums c.args.front.now) (datums c.args.back.now) c.requires.front c.requires.back c.in_ok-made.ensures.value

pub vec-requires-clause-made : goal.vec-requires-clause-made
vec-requires-clause-made c = joined_made _ (datums c.args.front.now) (datums c.args.back.now) c.requires.front c.requires.back c.in_ok-made.ensures.value
