use Rattle.std.proofs.Common.{◌≡◌, take}
use Rattle.stage_runs.specs.Runs.{run_all}
use Rattle.apply_spec.specs.Enforced.{enforced}
use Rattle.ledger_parts.specs.Shown.{shown_step}
use Rattle.ledger_parts.specs.Notes.{noted_in, shown_note}
use Rattle.set_steps.specs.LoggedLists.{written_sides, AddsLists}
use Rattle.set_steps.specs.State.{running_in}
use Rattle.ledger_apply.proofs.cluster.run_all.Given as goal

abbrev pub invariant-loop-envelope : goal.invariant-loop-envelope
invariant-loop-envelope g l = record {
  run : running_in (g.E.Entries.own l.entries) l.running
      ≡ run_all (shown_step (g.E.Entries.shown l.initial.entries) (enforced l.header l.verdicts)) (running_in (g.E.Entries.own l.initial.entries) l.initial.running) (take l.envelope-index l.envelopes);
  log : AddsLists l.logs (noted_in (shown_step (g.E.Entries.shown l.initial.entries) (enforced l.header l.verdicts)) (shown_note (g.E.Entries.shown l.initial.entries) written_sides) (running_in (g.E.Entries.own l.initial.entries) l.initial.running) (take l.envelope-index l.envelopes)) l.initial.log.items l.log.items;
  shown : g.E.Entries.shown l.entries ≡ g.E.Entries.shown l.initial.entries;
}
