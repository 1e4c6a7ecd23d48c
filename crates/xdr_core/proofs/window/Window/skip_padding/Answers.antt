use Rattle.std.proofs.Common.{◌∷◌, [], true, false, not, take, Ok, Err, refl, ap, sym, ◌∙◌, List, ℕ}
use Rattle.std.specs.Str.{bytes_eq}
use Rattle.xdr_spec.specs.Format.{Input, refusal, after}
use Rattle.xdr_spec.specs.declared.Why.TheVariants.{Padding}
use Rattle.xdr_core.specs.Windowed.{seen_by, padding_at}
use Rattle.xdr_core.proofs.Standings.{then}
use Rattle.xdr_core.proofs.Padding.{pad_held}
use Rattle.xdr_core.proofs.window.Window.skip_padding.Goals as goal

pub returns-then-ne : goal.returns-then-ne
returns-then-ne g c =
    let same = c.in_ok-need.ensures.same in
    let mid = c.need.new.self in
    let le = c.in_ok-need.ensures.held c.if-not-branch.false in
    let i = (seen_by g.P.Pour.seen mid).input in
    let e = c.if-ne.ensures ∙ ap (λ (xs : List ℕ). not (bytes_eq (take c.padding-fill.result xs) (take c.padding-fill.result (0 ∷ 0 ∷ 0 ∷ 0 ∷ [])))) c.as_slice.ensures in
    ((λ t. let m = same.0 t in ap (padding_at c.args.n c.args.at) (sym m.0) ∙ pad_held c.args.n c.args.at c.padding-fill.result i mid.held.now (g.P.Pour.seen mid.pour).rest c.padding-fill.ensures refl le true e ∙ ap (λ (k : ℕ). Err (refusal k Padding)) (sym c.saturating_add.ensures)), same.1)

pub returns : goal.returns
returns g c =
    let same = c.in_ok-need.ensures.same in
    let mid = c.need.new.self in
    let le = c.in_ok-need.ensures.held c.if-not-branch.false in
    let i = (seen_by g.P.Pour.seen mid).input in
    let e = c.if-ne.ensures ∙ ap (λ (xs : List ℕ). not (bytes_eq (take c.padding-fill.result xs) (take c.padding-fill.result (0 ∷ 0 ∷ 0 ∷ 0 ∷ [])))) c.as_slice.ensures in (
      (λ t. let m = same.0 t in let p = c.skip.ensures.0 m.1 in
          (ap (padding_at c.args.n c.args.at) (sym m.0) ∙ pad_held c.args.n c.args.at c.padding-fill.result i mid.held.now (g.P.Pour.seen mid.pour).rest c.padding-fill.ensures refl le false e ∙ ap (λ (k : ℕ). Ok (tt, after k i)) (sym c.padding-fill.ensures) ∙ ap (λ (j : Input). Ok (tt, j)) (sym p.0), p.1)),
      then (seen_by g.P.Pour.seen c.args.self.now).standing (seen_by g.P.Pour.seen mid).standing (seen_by g.P.Pour.seen c.skip.new.self).standing same.1 c.skip.ensures.1,
    )
