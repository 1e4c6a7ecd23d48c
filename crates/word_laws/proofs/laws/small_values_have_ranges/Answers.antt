use Rattle.word_laws.proofs.Ranges.{in_range}
use Rattle.word_laws.proofs.laws.small_values_have_ranges.Goals as goal

pub returns : goal.returns
returns c = in_range
