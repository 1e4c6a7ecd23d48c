use Rattle.std.specs.FinMap.{get, empty}
use Rattle.std.specs.Option.{option_or}
use Rattle.std.specs.Prelude.{IfSome}
use Rattle.std.proofs.Common.{Option, sym, ap, subst, ◌∙◌}
use Rattle.ledger_spec.specs.LedgerMap.{IsKeptAt, key_bytes}
use Rattle.stage_runs.specs.Maps.{Kept}
use Rattle.set_steps.proofs.Telling.{kept_if, seen_at_change}
use Rattle.set_steps.proofs.sides.after_change.Goals as goal

pub returns-in-Some-clause-found : goal.returns-in-Some-clause-found
returns-in-Some-clause-found g c = λ own.
    let shown = g.E.Entries.shown c.args.entries.now in
    let change = c.args.change.now in
    sym (seen_at_change shown (g.met.E.Entries.sees c.args.entries.now) own change
    ∙ ap (λ (o : Option Kept). option_or o (get (shown empty) (key_bytes change.key))) c.in-Some.is)

pub returns-in-Some-clause-kept : goal.returns-in-Some-clause-kept
returns-in-Some-clause-kept g c =
    subst (λ (o : Option Kept). IfSome o (IsKeptAt (key_bytes c.args.change.now.key))) c.in-Some.is c.requires.after

pub returns-in-None-clause-found : goal.returns-in-None-clause-found
returns-in-None-clause-found g c = λ own.
    let shown = g.E.Entries.shown c.args.entries.now in
    let change = c.args.change.now in
    c.find_lent.ensures.found
    ∙ sym (seen_at_change shown (g.met.E.Entries.sees c.args.entries.now) own change
    ∙ ap (λ (o : Option Kept). option_or o (get (shown empty) (key_bytes change.key))) c.in-None.is)

pub returns-in-None-clause-kept : goal.returns-in-None-clause-kept
returns-in-None-clause-kept g c = kept_if (key_bytes c.args.change.now.key) c.find_lent.result c.find_lent.ensures.kept
