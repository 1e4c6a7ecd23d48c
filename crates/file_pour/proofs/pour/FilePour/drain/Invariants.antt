use Rattle.std.proofs.Common.{◌≡◌, ◌-◌, ◌^◌}
use Rattle.xdr_core.specs.Sources.{GoesOn}
use Rattle.file_pour.specs.Poured.{seen_of}
use Rattle.file_pour.proofs.pour.FilePour.drain.Given as goal

abbrev pub invariant-loop : goal.invariant-loop
invariant-loop g l =
    let seen = seen_of g.F.Files.contents g.F.Files.faults g.F.Files.steady in
    GoesOn (seen l.initial.self).standing (seen l.self).standing × (l.self.files.ghost_name ≡ l.initial.self.files.ghost_name)

abbrev pub decreases-loop : goal.decreases-loop
decreases-loop g l = 2 ^ 30 - l.self.at
