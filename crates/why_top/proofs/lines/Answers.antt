use Rattle.why_top.proofs.Due.{run_due, there}
use Rattle.why_top.proofs.lines.Goals as goal

pub returns-clause-due : goal.returns-clause-due
returns-clause-due g c =
    run_due c.args.words.now (g.F.Files.contents c.args.files.now) (g.F.Files.faults c.args.files.now) (g.F.Files.faults c.explain_files.new.files) c.in_ok-request.request c.in_ok-request.ensures
    c.explain_files.result c.explain_files.ensures.explains c.explain_files.ensures.refused c.explain_files.ensures.cause

pub returns-clause-steady : goal.returns-clause-steady
returns-clause-steady g c = λ steady h. c.explain_files.ensures.steady steady (there c.args.words.now _ c.in_ok-request.request c.in_ok-request.ensures h)
