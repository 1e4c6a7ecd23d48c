use Rattle.std.proofs.Common.{ap}
use Rattle.run_trace.specs.Shown.{seen_in}
use Rattle.run_trace.proofs.Showing.{told_same}
use Rattle.run_trace.proofs.telling.TraceWatch.told.Goals as goal

pub returns-clause-seen : goal.returns-clause-seen
returns-clause-seen c = ap seen_in (told_same c.args.moment c.args.self.now _ c.tell_moment.ensures.told)
