use Rattle.std.proofs.Common.{◌≡◌, length, subst}
use Rattle.spelled_order.specs.Against.{Against}
use Rattle.spelled_order.specs.Ranked.{ranked_length}
use Rattle.spelled_order.proofs.Lengths.{texts}
use Rattle.spelled_order.proofs.text.cmp_text.Goals as goal

pub returns-in-Equal : goal.returns-in-Equal
returns-in-Equal c =
    let same : length c.args.one.now ≡ length c.args.other.now = c.cmp_lengths.ensures.same c.in-Equal.is in
    rw c.cmp.ensures (texts c.args.one.now c.args.other.now same (subst (Against (ranked_length (length c.args.one.now)) (ranked_length (length c.args.other.now))) c.in-Equal.is c.cmp_lengths.ensures.against))
