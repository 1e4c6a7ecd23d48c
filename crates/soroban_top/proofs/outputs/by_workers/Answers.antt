use Rattle.std.specs.Option.{option_map}
use Rattle.std.proofs.Common.{◌∙◌, Option, ap, arith}
use Rattle.apply_spec.specs.Runs.{new_header, run_set}
use Rattle.soroban_top.specs.Scheduled.{outputs_of}
use Rattle.change_log.specs.Log.{log_format}
use Rattle.change_log.specs.declared.log.Log.{Log}
use Rattle.command_io.specs.Seen.{seen}
use Rattle.soroban_top.proofs.Logging.{spelled_if}
use Rattle.soroban_top.proofs.Made.{conflict_is, free_is, new_header_fits, outputs_applied}
use Rattle.soroban_top.proofs.outputs.by_workers.Goals as goal

pub written-requires-clause-header : goal.written-requires-clause-header
written-requires-clause-header g c κs within =
    rw c.in-Ok.ensures.header (new_header_fits c.args.ledger.header c.args.run.now.close_time c.requires.header c.requires.next (omega (arith, c.in-Ok.ensures.close_time)))

pub returns-in-Ok-clause-free : goal.returns-in-Ok-clause-free
returns-in-Ok-clause-free g c = free_is c.args.set c.in-Ok.ensures.free

pub returns-in-Ok-clause-outputs : goal.returns-in-Ok-clause-outputs
unfolding outputs_of
returns-in-Ok-clause-outputs g c =
    let run = c.args.run.now in
    c.in_ok-outputs-in-Ok.ensures.outputs
    ∙ outputs_applied (new_header c.args.ledger.header run.close_time) c.in-Ok.ran.applied.ledger.header (run_set c.args.ledger.header run.verdicts.now c.args.ledger.entries c.args.set run.close_time) c.in-Ok.ran.applied.ledger.entries
    c.in-Ok.ran.applied.results.pairs c.in-Ok.ran.applied.successes c.in-Ok.ensures.header c.in-Ok.ensures.entries c.in-Ok.ensures.results c.in-Ok.ensures.successes

pub returns-in-Ok-clause-log : goal.returns-in-Ok-clause-log
returns-in-Ok-clause-log g c =
    let run = c.args.run.now in
    ap (option_map (λ b. b.items)) c.in_ok-outputs-in-Ok.ensures.log
    ∙ c.in_ok-log-in-Ok.ensures
    ∙ ap (λ (l : Option Log). option_map (λ (x : Log). log_format.spell x) l) c.in-Ok.ensures.log
    ∙ spelled_if run.logs (seen c.args.ledger) run.verdicts.now c.args.set run.close_time

pub returns-in-Err-Conflict-clause-refused : goal.returns-in-Err-Conflict-clause-refused
returns-in-Err-Conflict-clause-refused g c =
    let refused = rw c.in-Err-Conflict.field-0-is at c.in-Err-Conflict.ensures.conflict in
    rw c.in_ok-key-in-Err-Conflict.ensures (conflict_is c.args.set c.in-Err-Conflict.stage c.in-Err-Conflict.found.a c.in-Err-Conflict.found.b _ refused.0)
