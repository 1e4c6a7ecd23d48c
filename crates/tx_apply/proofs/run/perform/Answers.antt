use Rattle.std.proofs.Common.{List, Option, sym, subst}
use Rattle.value_types.specs.Datum.{Datum}
use Rattle.value_types.specs.Views.{datum}
use Rattle.call_spec.specs.WholeRuns.{creating}
use Rattle.call_spec.specs.Creating.{Creation}
use Rattle.contract_call.specs.Ended.{Ends, EndsRecorded}
use Rattle.tx_steps.specs.Jobs.{work_in}
use Rattle.tx_apply.specs.Watching.{Told}
use Rattle.tx_steps.specs.declared.job.Job.{Job}
use Rattle.tx_apply.proofs.run.perform.Goals as goal

pub returns-in-Call-clause-ends : goal.returns-in-Call-clause-ends
returns-in-Call-clause-ends g c =
    subst (λ (job : Job). Ends (work_in job) c.call.result datum c.args.host.now c.call.new.host) (sym c.in-Call.is) c.call.ensures.ends

pub returns-in-Upload-clause-ends : goal.returns-in-Upload-clause-ends
returns-in-Upload-clause-ends g c =
    subst (λ (job : Job). Ends (work_in job) c.upload_code.result datum c.args.host.now c.upload_code.new.host) (sym c.in-Upload.is) c.upload_code.ensures.ends

pub returns-in_ok-args-in-Create-clause-ends : goal.returns-in_ok-args-in-Create-clause-ends
returns-in_ok-args-in-Create-clause-ends g c =
    let made : Option (List Datum) → Creation = λ args. record { deployer = c.in-Create.deployer; code = c.in-Create.code; salt = c.in-Create.salt; args = args } in
    subst (λ (job : Job). Ends (work_in job) c.create_contract.result datum c.args.host.now c.create_contract.new.host) (sym c.in-Create.is)
    (subst (λ (args : Option (List Datum)). Ends (creating (made args)) c.create_contract.result datum c.args.host.now c.create_contract.new.host) c.in_ok-args-in-Create.ensures.ok c.create_contract.ensures.ends)

pub returns-in-Call-clause-recorded : goal.returns-in-Call-clause-recorded
returns-in-Call-clause-recorded g c =
    subst (λ (job : Job). EndsRecorded (work_in job) c.call.result datum c.args.host.now c.call.new.host) (sym c.in-Call.is) c.call.ensures.recorded

pub returns-in-Upload-clause-recorded : goal.returns-in-Upload-clause-recorded
returns-in-Upload-clause-recorded g c =
    subst (λ (job : Job). EndsRecorded (work_in job) c.upload_code.result datum c.args.host.now c.upload_code.new.host) (sym c.in-Upload.is) c.upload_code.ensures.recorded

pub returns-in_ok-args-in-Create-clause-recorded : goal.returns-in_ok-args-in-Create-clause-recorded
returns-in_ok-args-in-Create-clause-recorded g c =
    let made : Option (List Datum) → Creation = λ args. record { deployer = c.in-Create.deployer; code = c.in-Create.code; salt = c.in-Create.salt; args = args } in
    subst (λ (job : Job). EndsRecorded (work_in job) c.create_contract.result datum c.args.host.now c.create_contract.new.host) (sym c.in-Create.is)
    (subst (λ (args : Option (List Datum)). EndsRecorded (creating (made args)) c.create_contract.result datum c.args.host.now c.create_contract.new.host) c.in_ok-args-in-Create.ensures.ok c.create_contract.ensures.recorded)

pub returns-in-Call-clause-told : goal.returns-in-Call-clause-told
returns-in-Call-clause-told g c = subst (λ (job : Job). Told (work_in job) c.call.result c.args.host.now c.call.new.host) (sym c.in-Call.is) c.call.ensures.told

pub returns-in-Upload-clause-told : goal.returns-in-Upload-clause-told
returns-in-Upload-clause-told g c = subst (λ (job : Job). Told (work_in job) c.upload_code.result c.args.host.now c.upload_code.new.host) (sym c.in-Upload.is) c.upload_code.ensures.told

pub returns-in_ok-args-in-Create-clause-told : goal.returns-in_ok-args-in-Create-clause-told
returns-in_ok-args-in-Create-clause-told g c =
    let made : Option (List Datum) → Creation = λ args. record { deployer = c.in-Create.deployer; code = c.in-Create.code; salt = c.in-Create.salt; args = args } in
    subst (λ (job : Job). Told (work_in job) c.create_contract.result c.args.host.now c.create_contract.new.host) (sym c.in-Create.is)
    (subst (λ (args : Option (List Datum)). Told (creating (made args)) c.create_contract.result c.args.host.now c.create_contract.new.host) c.in_ok-args-in-Create.ensures.ok c.create_contract.ensures.told)
