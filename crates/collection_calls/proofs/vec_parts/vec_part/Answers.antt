use Rattle.value_types.specs.Views.{datums}
use Rattle.collection_calls.proofs.VecLaws.{part_all, ranged}
use Rattle.collection_calls.proofs.vec_parts.vec_part.Goals as goal

pub behind-rest-requires-clause-part : goal.behind-rest-requires-clause-part
behind-rest-requires-clause-part c = part_all (datums c.args.items.now) c.requires.hosted

pub returns-clause-value : goal.returns-clause-value
returns-clause-value c = ranged c.vec_joined.result (datums c.args.items.now) _ _ c.args.from c.args.to c.behind-rest.ensures.value c.before-part.ensures.value c.vec_joined.ensures.value
