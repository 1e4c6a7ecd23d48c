use Rattle.std.specs.Prelude.{length, is_some}
use Rattle.budget_meter.specs.declared.kind.Kind.TheVariants.{VmInstantiation}
use Rattle.module_spec.specs.Loading.{module_of}
use Rattle.call_spec.specs.Errors.{NO_MODULE}
use Rattle.call_spec.specs.Acts.{gives, only_where}
use Rattle.call_parts.proofs.Joining.{returns_charges}
use Rattle.call_parts.proofs.Stepping.{paid_then, unpaid}
use Rattle.call_parts.proofs.codes.judged_module.Goals as goal

pub returns-in-Ok-clause-does : goal.returns-in-Ok-clause-does
returns-in-Ok-clause-does c =
    paid_then tt c.only_module.result (λ (u : Unit {0}). u) VmInstantiation c.args.len (length c.args.code.now) (only_where (is_some (module_of c.args.code.now)) NO_MODULE (gives tt)) c.args.budget.now c.pay.new.budget c.pay.new.budget
    c.requires c.in-Ok.ensures.does (returns_charges c.only_module.result (λ (u : Unit {0}). u) (only_where (is_some (module_of c.args.code.now)) NO_MODULE (gives tt)) c.pay.new.budget c.only_module.ensures.does)

pub returns-in-Err-clause-does : goal.returns-in-Err-clause-does
returns-in-Err-clause-does c =
    unpaid c.in-Err.error (λ (u : Unit {0}). u) VmInstantiation c.args.len (length c.args.code.now) (only_where (is_some (module_of c.args.code.now)) NO_MODULE (gives tt)) c.args.budget.now c.pay.new.budget c.requires
    c.in-Err.ensures.does
