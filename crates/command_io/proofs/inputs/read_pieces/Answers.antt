use Rattle.command_io.specs.Counts.{SameCounts}
use Rattle.command_io.specs.Views.{file_of}
use Rattle.command_io.proofs.Pieces.{caused, due, due_exactly, fits, same_counts, unless_missing}
use Rattle.command_io.proofs.inputs.read_pieces.Goals as goal

pub returns-clause-given : goal.returns-clause-given
returns-clause-given g c =
    rw (c.in_pieces.ensures, c.in_ok-name.ensures) (due (g.F.Files.contents c.args.files.now) c.args.file.now.name.now c.read_poured-read.result c.read_poured-read.ensures.read)

pub returns-clause-fits : goal.returns-clause-fits
returns-clause-fits g c = rw c.in_pieces.ensures (fits c.in_ok-name.name c.read_poured-read.result c.read_poured-read.ensures.fits)

pub returns-clause-cause : goal.returns-clause-cause
returns-clause-cause g c =
    rw (c.in_pieces.ensures, c.in_ok-name.ensures) (caused (file_of c.args.file.now) (g.F.Files.faults c.args.files.now) (g.F.Files.faults c.read_poured-read.new.files) c.read_poured-read.result c.read_poured-read.ensures.cause)

pub returns-clause-steady : goal.returns-clause-steady
returns-clause-steady g c s =
    let f = g.F.Files.faults c.args.files.now in
    let h = g.F.Files.faults c.read_poured-read.new.files in
    unless_missing (g.F.Files.contents c.args.files.now) c.args.file.now.name.now (g.F.Files.steady c.read_poured-read.new.files × SameCounts f h)
    (λ there. let k = c.read_poured-read.ensures.steady s there in (k.1, same_counts c.args.file.now.option f h c.read_poured-read.ensures.counts k.2))

pub returns-clause-steady_exact : goal.returns-clause-steady_exact
returns-clause-steady_exact g c s =
    rw (c.in_pieces.ensures, c.in_ok-name.ensures) (due_exactly (g.F.Files.contents c.args.files.now) c.args.file.now.name.now c.read_poured-read.result (λ there. (c.read_poured-read.ensures.steady s there).0) c.read_poured-read.ensures.read)
