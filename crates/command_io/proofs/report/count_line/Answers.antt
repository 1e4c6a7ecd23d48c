use Rattle.std.proofs.Common.{length, refl}
use Rattle.command_io.proofs.PutTogether.{counted}
use Rattle.command_io.proofs.report.count_line.Goals as goal

pub returns : goal.returns
returns c =
    counted c.in_ok-line.line.items c.push_number.new.line.items c.push_number-2.new.line.items c.push_number-3.new.line.items c.push_number-4.new.line.items c.args.seq (length c.args.results.now) c.successes-succeeded.result c.args.results.now
    c.successes-succeeded.ensures.count refl c.in_ok-line.ensures.items c.in_ok-push_number.ensures c.in_ok-push_number-2.ensures c.in_ok-push_number-3.ensures c.in_ok-push_number-4.ensures
