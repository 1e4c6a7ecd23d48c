use Rattle.std.proofs.Common.{◌-◌, ◌++◌, ℕ, List, length, take, drop, ap, sym, ◌∙◌, arith}
use Rattle.std.proofs.lemmas.List.{length-take, length-drop}
use Rattle.xdr_core.proofs.Holding.{poured_behind, unless_empty}
use Rattle.xdr_core.proofs.held.pour_behind.Goals as goal

pub returns-clause-poured : goal.returns-clause-poured
returns-clause-poured g c t =
    let poured = c.in_ok-n.ensures.poured t in (
      poured.0,
      poured_behind c.args.len c.in_ok-n.n (length c.args.room.now - c.args.len) c.args.room.now c.pour.new.buf (g.P.Pour.seen c.pour.new.self).rest (omega (arith, c.requires)) c.in_ok-n.ensures.within
          ∙ ap (λ (xs : List ℕ). take c.args.len c.args.room.now ++ xs) (sym poured.1),
      λ z. unless_empty (poured.2 z) (omega (arith, c.requires, c.in_ok-n.ensures.len, length-take (length c.args.room.now - c.args.len) (drop c.args.len c.args.room.now), length-drop c.args.len c.args.room.now)),
    )
