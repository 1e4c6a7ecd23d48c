use Rattle.std.proofs.Common.{◌≡◌, ◌+◌, ◌*◌, ◌≤◌, length, true, arith}
use Rattle.contract_storage.proofs.Widening.{four_more}
use Rattle.contract_storage.proofs.wide.are_same_items.Goals as goal

pub loop-i-preserved : goal.loop-i-preserved
loop-i-preserved c =
    let i = c.loop-i.i in
    let same = c.are_same_four.ensures in
    let t : c.are_same_four.result ≡ true = c.if-not-are_same_four.false in
    let w : 4 * i + 4 ≤ length c.args.one.now = omega arith in
    let v : 4 * i + 4 ≤ length c.args.other.now = omega arith in
    four_more c.args.one.now c.args.other.now (4 * i) (4 * (i + 1)) (omega arith) w v c.loop-i.invariant (same.first t) (same.second t) (same.third t) (same.fourth t)
