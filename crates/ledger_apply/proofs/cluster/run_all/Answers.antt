use Rattle.std.proofs.Common.{[], ◌∷◌, List, refl, sym, ap, ap₂, subst, ◌∙◌, arith}
use Rattle.ledger_spec.specs.LedgerMap.{LedgerMap}
use Rattle.stage_runs.specs.Runs.{RunState, run_transaction}
use Rattle.tx_xdr.specs.declared.envelope.Envelope.{Envelope}
use Rattle.apply_spec.specs.Enforced.{enforced}
use Rattle.ledger_parts.specs.Notes.{noted_in, shown_note}
use Rattle.ledger_parts.specs.Shown.{shown_step}
use Rattle.set_steps.specs.LoggedLists.{written_sides, AddsLists}
use Rattle.set_steps.specs.State.{running_in}
use Rattle.set_steps.proofs.Lemmas.{adds_none, adds_transaction, fold_more, take_all}
use Rattle.ledger_apply.proofs.cluster.run_all.Goals as goal

pub loop-envelope-init : goal.loop-envelope-init
loop-envelope-init g c = record { run = refl; log = adds_none c.args.logs c.args.log.now.items; shown = refl }

pub loop-envelope-preserved : goal.loop-envelope-preserved
loop-envelope-preserved g c =
    let own = g.E.Entries.own in
    let shown = g.E.Entries.shown c.args.entries.now in
    let step = enforced c.args.header.now c.args.verdicts.now in
    let item = c.envelope-item.result in
    let first = running_in (own c.args.entries.now) c.args.running in
    let here = c.loop-envelope.invariant in
    let run = c.in_ok-running.ensures.run
    ∙ ap₂ (λ (s : LedgerMap → LedgerMap) (r : RunState). run_transaction (shown_step s step) r item) here.shown here.run in
    record {
      run = run
          ∙ sym (fold_more (run_transaction (shown_step shown step)) first c.args.envelopes.now c.loop-envelope.envelope-index item c.loop-envelope-test.true c.envelope-item.is);
      log = adds_transaction c.args.logs (shown_step shown step) (shown_note shown written_sides) first c.args.envelopes.now
          c.loop-envelope.envelope-index item (own c.loop-envelope.entries) (own c.run_next.new.entries) c.args.log.now.items
          c.loop-envelope.log.items c.run_next.new.log.items c.loop-envelope-test.true c.envelope-item.is
          (ap (λ (r : RunState). r.entries) here.run) (ap (λ (r : RunState). r.entries) run) here.log
          (subst (λ (s : LedgerMap → LedgerMap). AddsLists c.args.logs
          (shown_note s written_sides (own c.loop-envelope.entries) (own c.run_next.new.entries) item ∷ [])
          c.loop-envelope.log.items c.run_next.new.log.items) here.shown c.in_ok-running.ensures.log);
      shown = c.in_ok-running.ensures.shown ∙ here.shown;
    }

pub returns-clause-log : goal.returns-clause-log
returns-clause-log g c =
    let own = g.E.Entries.own in
    let shown = g.E.Entries.shown c.args.entries.now in
    let step = enforced c.args.header.now c.args.verdicts.now in
    subst
    (λ (txs : List Envelope). AddsLists c.args.logs (noted_in (shown_step shown step) (shown_note shown written_sides)
    (running_in (own c.args.entries.now) c.args.running) txs) c.args.log.now.items c.loop-envelope.log.items)
    (take_all c.args.envelopes.now c.loop-envelope.envelope-index (omega arith) (omega arith)) c.loop-envelope.invariant.log
