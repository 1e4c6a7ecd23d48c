use Rattle.value_types.specs.Views.{datum, datum_pairs}
use Rattle.collection_calls.proofs.MapLaws.{made_without}
use Rattle.collection_calls.proofs.map_parts.map_left_out.Goals as goal

pub map-requires : goal.map-requires
map-requires c = made_without _ (datum_pairs c.args.entries.now) (datum c.args.key.now) c.requires.hosted c.in_ok-made.ensures.value
