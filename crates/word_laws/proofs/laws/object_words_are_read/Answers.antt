use Rattle.word_laws.proofs.Reading.{object_read}
use Rattle.word_laws.proofs.laws.object_words_are_read.Goals as goal

pub returns : goal.returns
returns c = object_read
