use Rattle.std.proofs.Common.{◌≡◌, ◌≤◌, ◌+◌, ◌-◌, length}
use Rattle.xdr_core.specs.Sources.{IsTold, GoesOn}
use Rattle.xdr_core.specs.Windowed.{seen_by}
use Rattle.xdr_core.proofs.Taking.{Taken}
use Rattle.xdr_core.proofs.window.Window.take_into.Given as goal

abbrev pub invariant-loop-left : goal.invariant-loop-left
invariant-loop-left g l =
    let start = seen_by g.P.Pour.seen l.initial.self in
    let now = seen_by g.P.Pour.seen l.self in
    (IsTold start → Taken (l.n - l.left) start now l.initial.to.items l.to.items) × (l.left ≤ l.n) × GoesOn start.standing now.standing × (length l.to.items + l.left ≡ length l.initial.to.items + l.n)

abbrev pub decreases-loop-left : goal.decreases-loop-left
decreases-loop-left g l = l.left
