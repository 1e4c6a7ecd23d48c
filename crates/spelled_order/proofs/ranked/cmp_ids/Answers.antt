use Rattle.std.proofs.Common.{◌≡◌, length, rules}
use Rattle.spelled_order.proofs.Numbers.{first_word, second_word, third_word, fourth_word}
use Rattle.spelled_order.proofs.ranked.cmp_ids.Goals as goal

pub returns-in_default : goal.returns-in_default
returns-in_default c = first_word c.args.one.now c.args.other.now c.cmp_at.result c.cmp_at.ensures c.in_default.not-Equal

pub returns-in_default-cmp_at : goal.returns-in_default-cmp_at
returns-in_default-cmp_at c = second_word c.args.one.now c.args.other.now c.cmp_at-2.result c.in-Equal.ensures c.cmp_at-2.ensures c.in_default-cmp_at.not-Equal

pub returns-in_default-cmp_at-2 : goal.returns-in_default-cmp_at-2
returns-in_default-cmp_at-2 c =
    third_word c.args.one.now c.args.other.now c.cmp_at-3.result c.in-Equal.ensures c.in-Equal-cmp_at.ensures c.cmp_at-3.ensures c.in_default-cmp_at-2.not-Equal

pub returns : goal.returns
returns c =
    let one : length c.args.one.now ≡ 32 = search rules in
    let other : length c.args.other.now ≡ 32 = search rules in
    fourth_word c.args.one.now c.args.other.now c.cmp_at-4.result one other c.in-Equal.ensures c.in-Equal-cmp_at.ensures c.in-Equal-cmp_at-2.ensures c.cmp_at-4.ensures
