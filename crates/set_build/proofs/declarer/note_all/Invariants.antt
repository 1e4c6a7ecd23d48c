use Rattle.std.proofs.Common.{◌≡◌, length, take}
use Rattle.stage_runs.specs.Maps.{Bytes}
use Rattle.set_build.specs.Known.{who, noted, bytes_in}
use Rattle.set_build.proofs.declarer.note_all.Given as goal

abbrev pub invariant-loop-key : goal.invariant-loop-key
invariant-loop-key l =
    (q : Bytes) → who l.declarers q ≡ noted l.number l.writes (bytes_in (take (length l.yielded) l.fn.keys.items)) (who l.fn.declarers) q
