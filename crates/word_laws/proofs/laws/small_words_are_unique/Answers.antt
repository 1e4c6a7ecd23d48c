use Rattle.word_laws.proofs.Unique.{unique}
use Rattle.word_laws.proofs.laws.small_words_are_unique.Goals as goal

pub returns : goal.returns
returns c = unique
