use Rattle.std.specs.List.{AllByRecursion}
use Rattle.std.specs.Prelude.{IfOk}
use Rattle.std.proofs.Common.{◌≡◌, true, List, sym, subst, ap, ◌∙◌}
use Rattle.stage_runs.specs.Maps.{LedgerMap, key_bytes}
use Rattle.stage_runs.specs.Runs.{RunState}
use Rattle.stage_runs.specs.Transactions.{Effect, writes}
use Rattle.stage_runs.specs.declared.Change.{Change}
use Rattle.apply_spec.specs.Enforced.{enforced}
use Rattle.apply_spec.proofs.Lemmas.{step_framed}
use Rattle.tx_apply.specs.Done.{effect_of}
use Rattle.set_steps.specs.Lives.{AreKeyed, AreLives}
use Rattle.set_steps.specs.Sides.{AddsList, IsMade}
use Rattle.set_steps.specs.State.{running_in}
use Rattle.set_steps.specs.declared.lives.Life.{Life}
use Rattle.set_steps.proofs.Lemmas.{adds_made, if_ok}
use Rattle.ledger_apply.proofs.Steps.{one_run}
use Rattle.ledger_apply.proofs.step.run_next.Goals as goal

pub push_list-requires-clause-keyed : goal.push_list-requires-clause-keyed
push_list-requires-clause-keyed g c = subst AreKeyed (sym c.deref.ensures.value) c.in_ok-lives.ensures.lives.keyed

pub returns-clause-run : goal.returns-clause-run
returns-clause-run g c =
    let now = c.put_written.new.entries in
    let sees : g.E.Ground.map now ≡ g.E.Entries.shown c.args.entries.now (g.E.Entries.own now) =
    g.met.E.Entries.shows now ∙ ap (λ (f : LedgerMap → LedgerMap). f (g.E.Entries.own now)) c.in_ok-lives.ensures.shown in
    subst (λ (state : RunState). IfOk c.after.result (λ r. running_in (g.E.Entries.own c.after.new.entries) r ≡ state))
    (one_run (enforced c.args.header.now c.args.verdicts.now) (g.E.Entries.shown c.args.entries.now) c.args.envelope.now (g.E.Entries.own c.args.entries.now)
    (g.E.Entries.own now) (g.E.Ground.map now) c.args.running c.put_written.new.pending (effect_of c.in_ok-done.done)
    c.in_ok-lives.ensures.entries c.in_ok-lives.ensures.pending sees c.in_ok-done.ensures.done)
    c.after.ensures.run

pub returns-clause-log : goal.returns-clause-log
returns-clause-log g c =
    let own = g.E.Entries.own in
    let shown = g.E.Entries.shown c.args.entries.now in
    let old = c.args.entries.now in
    let now = c.put_written.new.entries in
    let map = g.E.Ground.map in
    let tx = c.args.envelope.now in
    let done = c.in_ok-done.done in
    let made = done.changes in
    let lives = c.deref.result.now in
    let are : AreLives (map old) (map now) lives =
    subst (λ (ls : List Life). AreLives (map old) (map now) ls) (sym c.deref.ensures.value) c.in_ok-lives.ensures.lives in
    let written : AllByRecursion (λ (change : Change). writes tx (key_bytes change.key) ≡ true) made =
    subst (λ (effect : Effect). AllByRecursion (λ (change : Change). writes tx (key_bytes change.key) ≡ true) effect.changes)
    (sym c.in_ok-done.ensures.done) ((step_framed c.args.header.now c.args.verdicts.now).changed (map now) tx) in
    let adds : AddsList c.args.logs (IsMade shown (own now) (map now) lives made) c.args.log.now.items c.push_list.new.log.items =
    subst (λ (s : LedgerMap → LedgerMap). AddsList c.args.logs (IsMade s (own now) (map now) lives made) c.args.log.now.items c.push_list.new.log.items)
    c.in_ok-lives.ensures.shown c.in_ok-push_list.ensures in
    if_ok c.after.result _ _
    (λ r run. adds_made c.args.logs shown (g.met.E.Entries.sees old) tx (own old) (own now) (own c.after.new.entries) (map old) (map now)
    c.args.running.pending lives made c.args.log.now.items c.push_list.new.log.items (g.met.E.Entries.shows old) are
    c.in_ok-lives.ensures.entries written (ap (λ (state : RunState). state.entries) run) adds)
    c.after.ensures.run
