use Rattle.std.specs.Prelude.{codes, decimal}
use Rattle.result_line.proofs.Lemmas.{two_numbers}
use Rattle.result_line.proofs.push_used.Goals as goal

pub returns : goal.returns
returns c =
    let used = c.args.used in
    two_numbers c.args.lines.now.items (codes "used ") (decimal used.instructions) (codes " instructions, ") (decimal used.memory) (codes " memory\n") _ _ _
    c.in_ok-extend_from_slice.ensures.items c.in_ok-push_number.ensures c.in_ok-push_number-2.ensures
