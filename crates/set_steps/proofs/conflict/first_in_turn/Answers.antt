use Rattle.std.specs.Option.{IfSome}
use Rattle.std.proofs.Common.{Option, subst}
use Rattle.ledger_spec.specs.LedgerMap.{key_bytes}
use Rattle.stage_plan.specs.declared.conflict.Conflict.{Conflict}
use Rattle.stage_runs.specs.Conflicts.{IsLeastConflict}
use Rattle.stage_runs.specs.Runs.{clusters_in}
use Rattle.set_steps.specs.Stages.{stage_of}
use Rattle.set_steps.proofs.Firsts.{first_at}
use Rattle.set_steps.proofs.conflict.first_in_turn.Goals as goal

pub returns-in-Some-clause-some : goal.returns-in-Some-clause-some
returns-in-Some-clause-some c =
    let item = c.index-stages-index.result in
    first_at c.args.stages.now c.loop-index.index item c.in-Some.found.a c.in-Some.found.b (key_bytes c.in-Some.found.key.now) c.loop-index-test.true c.index-stages-index.is c.loop-index.invariant
    (subst (λ (o : Option Conflict). IfSome o (λ f. IsLeastConflict (clusters_in (stage_of item)) f.a f.b (key_bytes f.key.now))) c.in-Some.is c.in_ok-found.ensures.some)
