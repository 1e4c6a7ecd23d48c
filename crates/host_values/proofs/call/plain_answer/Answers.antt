use Rattle.host_values.proofs.Steps.{no_words, just_one, just_three, answers_as}
use Rattle.host_values.proofs.call.plain_answer.Goals as goal

pub returns-in-empty : goal.returns-in-empty
returns-in-empty c = answers_as c.without_words.result c.args.import c.args.words.now _ _ _ (no_words c.args.words.now c.in-empty.len_below) (c.without_words.ensures c.args.memory.now)

pub returns-in-len1 : goal.returns-in-len1
returns-in-len1 c =
    answers_as c.one_word.result c.args.import c.args.words.now _ _ _ (just_one c.args.words.now c.in-len1.len_at_least c.in-len1.len_below) (c.one_word.ensures c.args.memory.now)

pub returns-in-len3 : goal.returns-in-len3
returns-in-len3 c =
    answers_as c.three_words.result c.args.import c.args.words.now _ _ _ (just_three c.args.words.now c.in-len3.len_at_least c.in-len3.len_below) (c.three_words.ensures c.args.memory.now)
