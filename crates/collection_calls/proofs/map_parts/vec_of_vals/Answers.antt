use Rattle.std.proofs.Common.{◌∙◌}
use Rattle.value_types.specs.Views.{datum_pairs}
use Rattle.collection_calls.proofs.MapLaws.{made_vals}
use Rattle.collection_calls.proofs.map_parts.vec_of_vals.Goals as goal

pub value-requires : goal.value-requires
value-requires c = made_vals _ (datum_pairs c.args.entries.now) c.requires (c.in_ok-vals.ensures ∙ c.in_ok-made.ensures.value)
