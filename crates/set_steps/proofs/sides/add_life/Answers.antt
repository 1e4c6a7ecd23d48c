use Rattle.std.specs.FinMap.{get}
use Rattle.std.specs.Str.{bytes_eq}
use Rattle.std.proofs.Common.{cond, Some, refl, ap, ◌∙◌}
use Rattle.stage_runs.specs.Maps.{Bytes}
use Rattle.change_log.specs.declared.groups.Changed.{Changed}
use Rattle.set_steps.specs.Sides.{sides_in}
use Rattle.set_steps.proofs.Telling.{adds_life}
use Rattle.set_steps.proofs.Waiting.{changed}
use Rattle.set_steps.proofs.sides.add_life.Goals as goal

pub side_at-side-requires-clause-bytes : goal.side_at-side-requires-clause-bytes
side_at-side-requires-clause-bytes g c = c.deref.ensures.value ∙ c.in_ok-bytes.ensures.bytes-is

pub returns : goal.returns
returns g c =
    let side : Changed = record { before = c.living-before.result; after = c.side_at-side.result.after } in
    let old = c.args.sides.now in
    adds_life (get (g.G.Ground.map c.args.ground.now)) c.args.life.now (sides_in old) (sides_in c.insert.new.self) c.side_at-side.result side
    (λ q. changed c.in_ok-bytes.bytes.items old c.insert.new.self (Some side) c.in_ok-_old.ensures.updates q
    ∙ ap (λ (b : Bytes). cond (bytes_eq b q) (Some side) (sides_in old q)) c.in_ok-bytes.ensures.bytes-is)
    c.side_at-side.ensures refl c.living-before.ensures.found c.living-before.ensures.number
