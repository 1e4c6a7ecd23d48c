use Rattle.std.specs.Prelude.{length}
use Rattle.budget_meter.specs.declared.kind.Kind.TheVariants.{ComputeSha256Hash}
use Rattle.call_parts.specs.Entered.{judges_module}
use Rattle.call_parts.proofs.Stepping.{paid_then, unpaid}
use Rattle.call_parts.proofs.codes.judged.Goals as goal

pub returns-in-Ok-clause-does : goal.returns-in-Ok-clause-does
returns-in-Ok-clause-does c =
    paid_then tt c.judged_module.result (λ (u : Unit {0}). u) ComputeSha256Hash c.args.len (length c.args.code.now) (judges_module c.args.code.now) c.args.budget.now c.pay.new.budget c.judged_module.new.budget c.requires
    c.in-Ok.ensures.does c.judged_module.ensures.does

pub returns-in-Err-clause-does : goal.returns-in-Err-clause-does
returns-in-Err-clause-does c = unpaid c.in-Err.error (λ (u : Unit {0}). u) ComputeSha256Hash c.args.len (length c.args.code.now) (judges_module c.args.code.now) c.args.budget.now c.pay.new.budget c.requires c.in-Err.ensures.does
