use Rattle.word_laws.proofs.Reading.{small_read}
use Rattle.word_laws.proofs.laws.small_words_are_read.Goals as goal

pub returns : goal.returns
returns c = small_read
