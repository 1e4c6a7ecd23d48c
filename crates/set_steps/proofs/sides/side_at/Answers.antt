use Rattle.std.specs.FinMap.{get}
use Rattle.std.proofs.Common.{sym}
use Rattle.ledger_spec.specs.LedgerMap.{key_bytes}
use Rattle.change_log.specs.declared.groups.Changed.{Changed}
use Rattle.set_steps.specs.Sides.{sides_in}
use Rattle.set_steps.proofs.Telling.{told, untold}
use Rattle.set_steps.proofs.sides.side_at.Goals as goal

pub returns-in-Some : goal.returns-in-Some
returns-in-Some g c = λ before after are.
    told before after (get (g.G.Ground.map c.args.ground.now)) (sides_in c.args.sides.now) c.args.bytes.now (key_bytes c.args.key.now)
    c.in-Some.side.now c.requires.bytes (sym c.in-Some.ensures.value) are

pub returns-in-None : goal.returns-in-None
returns-in-None g c = λ before after are.
    let side : Changed = record { before = c.find-found.result; after = c.find-found.result } in
    untold before after (g.G.Ground.map c.args.ground.now) (sides_in c.args.sides.now) c.args.bytes.now (key_bytes c.args.key.now) side
    c.requires.bytes (sym c.in-None.ensures.value) c.find-found.ensures.found c.find-found.ensures.found are
