use Rattle.value_types.specs.Views.{datums}
use Rattle.collection_calls.proofs.VecLaws.{part_all, shortened}
use Rattle.collection_calls.proofs.vec_parts.vec_shorter.Goals as goal

pub before-front-requires-clause-part : goal.before-front-requires-clause-part
before-front-requires-clause-part c = part_all (datums c.args.items.now) c.requires.hosted

pub returns-clause-value : goal.returns-clause-value
returns-clause-value c = shortened c.vec_joined.result c.args.items.now _ c.before-front.ensures.value c.vec_joined.ensures.value
