use Rattle.std.proofs.Common.{ap₂, subst, ◌∙◌}
use Rattle.stage_runs.specs.Maps.{LedgerMap}
use Rattle.stage_runs.specs.Runs.{run_cluster, start}
use Rattle.apply_spec.specs.Enforced.{enforced}
use Rattle.ledger_parts.specs.Notes.{noted_in, shown_note}
use Rattle.set_steps.specs.LoggedLists.{written_sides, AddsLists}
use Rattle.ledger_parts.specs.Shown.{shown, shown_step}
use Rattle.ledger_parts.specs.declared.part.Part.{Part}
use Rattle.set_steps.proofs.Lemmas.{passes}
use Rattle.ledger_apply.proofs.job.run_part.Goals as goal

pub returns-clause-run : goal.returns-clause-run
returns-clause-run c =
    let txs = c.args.envelopes.now in
    let step = enforced c.args.header.now c.args.verdicts.now in
    record {
      keys = c.in_ok-read_only.read_only;
      reads = λ q d w. c.in_ok-read_only.ensures q ∙ passes txs c.requires.fits q d w;
      run = c.in_ok-done.ensures.run
          ∙ ap₂ (λ (p : Part) (m : LedgerMap). run_cluster (shown_step (shown p.read_only m) (enforced c.args.header.now c.args.verdicts.now)) p.own txs)
          c.in_ok-seen.ensures.part c.in_ok-seen.ensures.lent;
      log = subst (λ (m : LedgerMap). AddsLists c.args.logs (noted_in (shown_step (shown c.in_ok-read_only.read_only m) step)
          (shown_note (shown c.in_ok-read_only.read_only m) written_sides) (start c.args.own) txs) c.args.log.now.items
          c.run_cluster.new.log.items) c.in_ok-seen.ensures.lent
          (subst (λ (p : Part). AddsLists c.args.logs (noted_in (shown_step (shown p.read_only c.in_ok-seen.seen.lent.now) step)
          (shown_note (shown p.read_only c.in_ok-seen.seen.lent.now) written_sides) (start p.own) txs) c.args.log.now.items
          c.run_cluster.new.log.items) c.in_ok-seen.ensures.part c.in_ok-done.ensures.log);
    }
