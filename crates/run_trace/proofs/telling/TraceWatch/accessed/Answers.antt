use Rattle.std.proofs.Common.{ap, ◌∙◌}
use Rattle.run_trace.specs.Shown.{seen_in}
use Rattle.run_trace.specs.Lines.{told_of}
use Rattle.run_trace.specs.declared.line.What.TheVariants.{Accessed}
use Rattle.run_trace.proofs.Seeing.{seen_more}
use Rattle.run_trace.proofs.Showing.{told_more}
use Rattle.run_trace.proofs.telling.TraceWatch.accessed.Goals as goal

pub returns-clause-seen : goal.returns-clause-seen
returns-clause-seen c =
    ap seen_in (told_more (Accessed c.args.access c.args.key.now c.args.outcome) c.args.self.now _ c.tell_access.ensures.told)
    ∙ seen_more (told_of c.args.self.now) (c.args.access, c.args.key.now)
