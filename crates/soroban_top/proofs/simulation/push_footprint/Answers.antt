use Rattle.std.proofs.Common.{length}
use Rattle.std.specs.Prelude.{codes, decimal}
use Rattle.result_line.proofs.Lemmas.{two_numbers}
use Rattle.soroban_top.proofs.simulation.push_footprint.Goals as goal

pub returns : goal.returns
returns c =
    let footprint = c.args.footprint.now in
    two_numbers c.args.lines.now.items (codes "footprint ") (decimal (length footprint.read_only)) (codes " read-only, ") (decimal (length footprint.read_write)) (codes " read-write\n") _ _ _
    c.in_ok-extend_from_slice.ensures.items (rw c.as_slice-read_only.ensures at c.in_ok-push_number.ensures) (rw c.as_slice-read_write.ensures at c.in_ok-push_number-2.ensures)
