use Rattle.host_ledger.proofs.Steps.{no_words, just_one, just_two, just_three, just_four, answers_as}
use Rattle.host_ledger.proofs.call.answer.Goals as goal

pub returns-in-empty-clause-does : goal.returns-in-empty-clause-does
returns-in-empty-clause-does g c = answers_as _ c.args.import c.args.words.now _ _ _ (no_words c.args.words.now c.in-empty.len_below) c.without_words.ensures.does

pub returns-in-len1-clause-does : goal.returns-in-len1-clause-does
returns-in-len1-clause-does g c = answers_as _ c.args.import c.args.words.now _ _ _ (just_one c.args.words.now c.in-len1.len_at_least c.in-len1.len_below) c.one_word.ensures.does

pub returns-in-len2-clause-does : goal.returns-in-len2-clause-does
returns-in-len2-clause-does g c = answers_as _ c.args.import c.args.words.now _ _ _ (just_two c.args.words.now c.in-len2.len_at_least c.in-len2.len_below) c.two_words.ensures.does

pub returns-in-len3-clause-does : goal.returns-in-len3-clause-does
returns-in-len3-clause-does g c = answers_as _ c.args.import c.args.words.now _ _ _ (just_three c.args.words.now c.in-len3.len_at_least c.in-len3.len_below) c.three_words.ensures.does

pub returns-in-len4-clause-does : goal.returns-in-len4-clause-does
returns-in-len4-clause-does g c = answers_as _ c.args.import c.args.words.now _ _ _ (just_four c.args.words.now c.in-len4.len_at_least c.in-len4.len_below) c.four_words.ensures.does
