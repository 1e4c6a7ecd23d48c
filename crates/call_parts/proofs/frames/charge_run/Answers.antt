use Rattle.std.proofs.Common.{List, Result, Ok, Err, subst}
use Rattle.wasm_spec.specs.declared.types.ResizableLimits.{ResizableLimits}
use Rattle.host_spec.specs.declared.error.HostErr.{HostErr}
use Rattle.call_spec.specs.Acts.{gives}
use Rattle.call_spec.specs.Frames.{paying_pages}
use Rattle.call_parts.specs.Steps.{Charges}
use Rattle.call_parts.proofs.Stepping.{run_paid, run_unpaid}
use Rattle.call_parts.proofs.frames.charge_run.Goals as goal

pub returns-in-Ok-clause-does : goal.returns-in-Ok-clause-does
returns-in-Ok-clause-does c =
    run_paid tt c.pay.result c.args.module.now.memories c.args.budget.now c.charge_pages.new.budget c.pay.new.budget
    (subst (λ (ms : List ResizableLimits). let r : Result (Unit {0}) HostErr = Ok tt in Charges r (λ u. u) (paying_pages ms (gives tt)) c.args.budget.now c.charge_pages.new.budget) c.as_slice.ensures c.in-Ok.ensures.does) c.pay.ensures.does

pub returns-in-Err-clause-does : goal.returns-in-Err-clause-does
returns-in-Err-clause-does c =
    run_unpaid c.in-Err.error c.args.module.now.memories c.args.budget.now c.charge_pages.new.budget
    (subst (λ (ms : List ResizableLimits). let r : Result (Unit {0}) HostErr = Err c.in-Err.error in Charges r (λ u. u) (paying_pages ms (gives tt)) c.args.budget.now c.charge_pages.new.budget) c.as_slice.ensures c.in-Err.ensures.does)
