use Rattle.why_top.proofs.Due.{shown, shown_due, shown_prints}
use Rattle.why_top.proofs.why.Goals as goal

pub returns-clause-ends : goal.returns-clause-ends
returns-clause-ends g c = record {
  came_to = shown c.lines-came_to.result;
  due = shown_due c.args.words.now (g.F.Files.contents c.args.files.now) (g.F.Files.faults c.args.files.now) (g.F.Files.faults c.lines-came_to.new.files) c.lines-came_to.result c.lines-came_to.ensures.due;
  prints = shown_prints c.lines-came_to.result _ _ _ _ _ c.finish.ensures.prints;
}
