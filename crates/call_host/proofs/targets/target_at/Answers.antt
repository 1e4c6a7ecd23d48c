use Rattle.wasm_spec.specs.declared.module.Module.{Module}
use Rattle.call_spec.specs.Acts.{after, gives}
use Rattle.call_spec.specs.World.{Copied}
use Rattle.call_spec.specs.Found.{instance_at}
use Rattle.host_ledger.specs.Worlds.{copied}
use Rattle.host_ledger.proofs.Lemmas.{later_read}
use Rattle.call_host.specs.Targets.{Target, target, module_at}
use Rattle.call_host.proofs.Stepping.{steps_on, steps_stop}
use Rattle.call_host.proofs.targets.target_at.Goals as goal

pub returns-in-Ok-clause-does : goal.returns-in-Ok-clause-does
returns-in-Ok-clause-does g c =
    let s = c.args.storage.now in
    let at : Copied → Module → Target = λ copy m. record { contract = c.args.contract; instance = copy; module_ = m } in
    steps_on c.in-Ok.copy c.with_module.result copied target (λ env. instance_at env c.args.contract) (λ env copy. after (module_at env copy.code) (λ m. gives (at copy m))) s c.find_instance.new.storage c.with_module.new.storage c.args.budget.now c.find_instance.new.budget
    c.with_module.new.budget (later_read s c.find_instance.new.storage c.in-Ok.ensures.read) c.in-Ok.ensures.does c.with_module.ensures.does

pub returns-in-Err-clause-does : goal.returns-in-Err-clause-does
returns-in-Err-clause-does g c =
    let s = c.args.storage.now in
    let at : Copied → Module → Target = λ copy m. record { contract = c.args.contract; instance = copy; module_ = m } in
    steps_stop c.in-Err.error copied target (λ env. instance_at env c.args.contract) (λ env copy. after (module_at env copy.code) (λ m. gives (at copy m))) s c.find_instance.new.storage c.args.budget.now c.find_instance.new.budget c.in-Err.ensures.does
