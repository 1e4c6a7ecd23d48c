use Rattle.word_laws.proofs.Reading.{shown_read}
use Rattle.word_laws.proofs.laws.shown_words_are_read.Goals as goal

pub returns : goal.returns
returns c = shown_read
