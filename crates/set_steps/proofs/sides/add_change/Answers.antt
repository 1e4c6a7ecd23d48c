use Rattle.std.specs.FinMap.{get}
use Rattle.std.specs.Str.{bytes_eq}
use Rattle.std.proofs.Common.{cond, Some, refl, ap, ◌∙◌}
use Rattle.stage_runs.specs.Maps.{Bytes}
use Rattle.change_log.specs.declared.groups.Changed.{Changed}
use Rattle.set_steps.specs.Sides.{sides_in}
use Rattle.set_steps.proofs.Telling.{adds_change}
use Rattle.set_steps.proofs.Waiting.{changed}
use Rattle.set_steps.proofs.sides.add_change.Goals as goal

pub side_at-side-requires-clause-bytes : goal.side_at-side-requires-clause-bytes
side_at-side-requires-clause-bytes g c = c.deref.ensures.value ∙ c.in_ok-bytes.ensures.bytes-is

pub returns : goal.returns
returns g c =
    let side : Changed = record { before = c.side_at-side.result.before; after = c.after_change-after.result } in
    let old = c.args.sides.now in
    adds_change (g.E.Entries.shown c.args.entries.now) (g.met.E.Entries.sees c.args.entries.now) (get (g.E.Ground.map c.args.entries.now))
    c.args.change.now (sides_in old) (sides_in c.insert.new.self) c.side_at-side.result side
    (λ q. changed c.in_ok-bytes.bytes.items old c.insert.new.self (Some side) c.in_ok-_old.ensures.updates q
    ∙ ap (λ (b : Bytes). cond (bytes_eq b q) (Some side) (sides_in old q)) c.in_ok-bytes.ensures.bytes-is)
    c.side_at-side.ensures refl c.after_change-after.ensures.found c.after_change-after.ensures.kept
