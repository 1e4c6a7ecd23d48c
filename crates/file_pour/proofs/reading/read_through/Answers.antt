use Rattle.std.proofs.Common.{◌≡◌, ◌%◌, ◌<◌, ◌^◌, ◌-◌, refl, rules}
use Rattle.file_pour.specs.Poured.{IsShort, seen_of}
use Rattle.file_pour.proofs.Ended.{stands, leaves}
use Rattle.file_pour.proofs.reading.read_through.Goals as goal

pub returns-clause-leaves : goal.returns-clause-leaves
returns-clause-leaves g c =
    let files = g.F.Files.contents in
    let faults = g.F.Files.faults in
    let steady = g.F.Files.steady in
    let seen = seen_of files faults steady in
    let p = c.new-pour.result in
    let q = c.ended.new.window.pour in
    let made = c.new-pour.ensures in
    let starts : p.start ≡ faults p.files.now (p.option % 8) = rw (made.start, made.files, made.option) refl in
    let none : p.longs ≡ 0 = made.longs in
    let so = stands (seen p).standing (seen c.decode_held-read.new.window.pour).standing (seen q).standing q.longs (IsShort (files q.files.now) q.name.now) c.decode_held-read.result c.ended.result c.decode_held-read.ensures.runs c.ended.ensures.ends in
    let below : steady p.files.now → faults p.files.now (p.option % 8) < 2 ^ 64 - 1 = g.met.F.Files.steady_below p.files.now (p.option % 8) in
    let left = rw (made.option, made.files, made.name) at (leaves (files p.files.now) (files q.files.now) (faults p.files.now) (faults q.files.now) (steady p.files.now) (steady q.files.now) p.files.ghost_name q.files.ghost_name (p.option % 8) (q.option % 8) p.name.now q.name.now p.at q.at p.start q.start p.longs q.longs c.ended.result starts none so below) in
    -- The files that the loan leaves are those of the window at its end: the search finds it.
    search (rules, left)
