use Rattle.value_types.specs.Views.{datum, datums}
use Rattle.collection_calls.proofs.VecLaws.{part_all, inserted}
use Rattle.collection_calls.proofs.vec_parts.vec_grown.Goals as goal

pub before-front-requires-clause-part : goal.before-front-requires-clause-part
before-front-requires-clause-part c = part_all (datums c.args.items.now) c.requires.hosted

pub behind-back-requires-clause-part : goal.behind-back-requires-clause-part
behind-back-requires-clause-part c = part_all (datums c.args.items.now) c.requires.hosted

pub returns-clause-value : goal.returns-clause-value
returns-clause-value c = inserted c.vec_joined_by.result (datums c.args.items.now) _ _ (datum c.args.value.now) c.args.index c.before-front.ensures.value c.behind-back.ensures.value c.vec_joined_by.ensures.value
