use Rattle.value_types.specs.Views.{datum, datum_pairs}
use Rattle.collection_calls.proofs.MapLaws.{made_put}
use Rattle.collection_calls.proofs.map_parts.map_with.Goals as goal

pub map-requires : goal.map-requires
map-requires c = made_put _ (datum_pairs c.args.entries.now) (datum c.args.key.now) (datum c.args.val.now) c.requires.hosted c.requires.key c.requires.val c.in_ok-made.ensures.value
