use Rattle.std.proofs.Common.{◌≡◌, ◌+◌, ◌-◌, ◌++◌, take, length, ap, subst, ◌∙◌, refl, List, ℕ, arith}
use Rattle.xdr_core.specs.Windowed.{seen_by}
use Rattle.xdr_core.proofs.Standings.{then}
use Rattle.std.proofs.lemmas.List.{length-append, length-take}
use Rattle.xdr_core.proofs.Taking.{Taken, more_taken}
use Rattle.xdr_core.proofs.window.Window.take_into.Goals as goal

pub loop-left-preserved : goal.loop-left-preserved
loop-left-preserved g c =
    let seen = seen_by g.P.Pour.seen in
    let inv = c.loop-left.invariant in
    let k = c.min-k.result in
    let mid = c.need.new.self in
    let start = seen c.args.self.now in
    let next = seen c.skip.new.self in
    let before = c.args.to.now.items in
    let back = c.append_piece.new.to.items in
    let put = c.in_ok-append_piece.ensures ∙ ap (λ (xs : List ℕ). c.loop-left.to.items ++ take k xs) c.as_slice.ensures in
    let count : (c.args.n - c.loop-left.left) + k ≡ c.args.n - (c.loop-left.left - k) = omega (arith, inv.1, c.min-k.ensures) in (
      (λ t. subst (λ (m : ℕ). Taken m start next before back) count
          (more_taken (c.args.n - c.loop-left.left) k start (seen c.loop-left.self) (seen mid) next before c.loop-left.to.items back mid.held.now (g.P.Pour.seen mid.pour).rest
          (inv.0 t) c.in_ok-need.ensures.same c.skip.ensures refl (omega (arith, c.min-k.ensures, c.len.ensures)) put)),
      omega (arith, inv.1),
      then start.standing (seen c.loop-left.self).standing next.standing inv.2 (then (seen c.loop-left.self).standing (seen mid).standing next.standing c.in_ok-need.ensures.same.1 c.skip.ensures.1),
      omega (arith, inv.1, inv.3, ap length put, length-append c.loop-left.to.items (take k mid.held.now), length-take k mid.held.now, c.min-k.ensures, c.len.ensures),
    )
