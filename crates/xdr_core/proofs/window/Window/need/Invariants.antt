use Rattle.std.proofs.Common.{◌≡◌, ◌++◌, true, length, ◌-◌}
use Rattle.xdr_core.specs.Sources.{GoesOn}
use Rattle.xdr_core.proofs.window.Window.need.Given as goal

abbrev pub invariant-loop-self : goal.invariant-loop-self
invariant-loop-self g l =
    let start = g.P.Pour.seen l.initial.self.pour in
    let now = g.P.Pour.seen l.self.pour in
    (start.told ≡ true → (now.told ≡ true) × (l.self.held.now ++ now.rest ≡ l.initial.self.held.now ++ start.rest))
    × (l.self.place ≡ l.initial.self.place) × GoesOn start.standing now.standing

abbrev pub decreases-loop-self : goal.decreases-loop-self
decreases-loop-self g l = l.n - length l.self.held.now
