use Rattle.value_types.specs.Views.{datum, datums}
use Rattle.collection_calls.proofs.VecLaws.{joined_by_made, joined_by_few}
use Rattle.collection_calls.proofs.vec_parts.vec_joined_by.Goals as goal

pub vec-requires-clause-few : goal.vec-requires-clause-few
vec-requires-clause-few c = joined_by_few _ (datums c.args.front.now) (datum c.args.value.now) (datums c.args.back.now) c.requires.front c.requires.back c.in_ok-made.ensures.value

pub vec-requires-clause-made : goal.vec-requires-clause-made
vec-requires-clause-made c = joined_by_made _ (datums c.args.front.now) (datum c.args.value.now) (datums c.args.back.now) c.requires.front c.requires.value c.requires.back c.in_ok-made.ensures.value
