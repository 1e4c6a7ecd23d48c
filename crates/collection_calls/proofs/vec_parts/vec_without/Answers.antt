use Rattle.value_types.specs.Views.{datums}
use Rattle.collection_calls.proofs.VecLaws.{part_all, removed}
use Rattle.collection_calls.proofs.vec_parts.vec_without.Goals as goal

pub before-front-requires-clause-part : goal.before-front-requires-clause-part
before-front-requires-clause-part c = part_all (datums c.args.items.now) c.requires.hosted

pub behind-back-requires-clause-part : goal.behind-back-requires-clause-part
behind-back-requires-clause-part c = part_all (datums c.args.items.now) c.requires.hosted

pub returns-clause-value : goal.returns-clause-value
returns-clause-value c = removed c.vec_joined.result (datums c.args.items.now) _ _ c.args.index c.before-front.ensures.value c.behind-back.ensures.value c.vec_joined.ensures.value
