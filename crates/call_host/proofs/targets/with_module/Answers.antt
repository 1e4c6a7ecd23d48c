use Rattle.std.proofs.Common.{refl}
use Rattle.wasm_spec.specs.declared.module.Module.{Module}
use Rattle.host_ledger.specs.Worlds.{copied}
use Rattle.call_host.specs.declared.targets.Target.{Target as Target'}
use Rattle.call_host.specs.Targets.{target, module_at}
use Rattle.call_host.proofs.Stepping.{steps_view, steps_stop}
use Rattle.call_spec.specs.Acts.{gives}
use Rattle.call_host.proofs.targets.with_module.Goals as goal

pub returns-in-Ok-clause-does : goal.returns-in-Ok-clause-does
returns-in-Ok-clause-does g c =
    let found : Target' = record { contract = c.args.contract; copy = c.args.copy; «module» = c.in-Ok.module } in
    steps_view c.in-Ok.module found (λ (x : Module). x) target (λ env. module_at env c.args.copy.code) (λ m. record { contract = c.args.contract; instance = copied c.args.copy; module_ = m }) c.args.storage.now c.call_module.new.storage
    c.args.budget.now c.call_module.new.budget refl c.in-Ok.ensures.does

pub returns-in-Err-clause-does : goal.returns-in-Err-clause-does
returns-in-Err-clause-does g c =
    steps_stop c.in-Err.error (λ (x : Module). x) target (λ env. module_at env c.args.copy.code) (λ env m. gives (record { contract = c.args.contract; instance = copied c.args.copy; module_ = m })) c.args.storage.now c.call_module.new.storage
    c.args.budget.now c.call_module.new.budget c.in-Err.ensures.does
