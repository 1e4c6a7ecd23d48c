use Rattle.std.specs.Prelude.{codes, decimal}
use Rattle.result_line.proofs.Lemmas.{two_numbers}
use Rattle.soroban_top.proofs.listing.push_kept.Goals as goal

pub returns : goal.returns
returns c =
    two_numbers c.args.lines.now.items (codes "kept ") (decimal c.args.kept) (codes " of ") (decimal c.args.count) (codes "\n") _ _ _
    c.in_ok-extend_from_slice.ensures.items c.in_ok-push_number.ensures c.in_ok-push_number-2.ensures
