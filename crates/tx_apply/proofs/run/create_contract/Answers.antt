use Rattle.std.proofs.Common.{Result, Ok, Err, sym}
use Rattle.value_types.specs.Datum.{address}
use Rattle.value_types.specs.Views.{datum}
use Rattle.value_types.specs.declared.address.ScAddress.TheVariants as addresses
use Rattle.value_types.specs.declared.hash.Hash.{Hash}
use Rattle.host_spec.specs.declared.error.HostErr.{HostErr}
use Rattle.call_spec.specs.WholeRuns.{creating}
use Rattle.contract_call.specs.Creations.{creation_of}
use Rattle.tx_apply.proofs.Ending.{ends_failed, ends_viewed, recorded_failed, recorded_viewed}
use Rattle.tx_apply.proofs.Watching.{told_does}
use Rattle.tx_apply.proofs.run.create_contract.Goals as goal

pub returns-in-Ok-clause-ends : goal.returns-in-Ok-clause-ends
returns-in-Ok-clause-ends g c =
    ends_viewed (creating (creation_of c.args.contract)) (λ (id : Hash). address (addresses.Contract id)) datum c.args.host.now c.create.new.host c.in-Ok.id c.contract_value.result
    (sym c.contract_value.ensures.value) c.in-Ok.ensures.ends

pub returns-in-Err-clause-ends : goal.returns-in-Err-clause-ends
returns-in-Err-clause-ends g c =
    ends_failed (creating (creation_of c.args.contract)) (λ (id : Hash). address (addresses.Contract id)) datum c.args.host.now c.create.new.host c.in-Err.end c.in-Err.ensures.ends

pub returns-in-Ok-clause-recorded : goal.returns-in-Ok-clause-recorded
returns-in-Ok-clause-recorded g c =
    recorded_viewed (creating (creation_of c.args.contract)) (λ (id : Hash). address (addresses.Contract id)) datum c.args.host.now c.create.new.host c.in-Ok.id c.contract_value.result
    (sym c.contract_value.ensures.value) c.in-Ok.ensures.recorded

pub returns-in-Err-clause-recorded : goal.returns-in-Err-clause-recorded
returns-in-Err-clause-recorded g c =
    recorded_failed (creating (creation_of c.args.contract)) (λ (id : Hash). address (addresses.Contract id)) datum c.args.host.now c.create.new.host c.in-Err.end c.in-Err.ensures.recorded

-- Whether a run returned an id or its address makes no difference to what its storage knows.
pub returns-in-Ok-clause-told : goal.returns-in-Ok-clause-told
returns-in-Ok-clause-told g c =
    let some : Result Hash HostErr = Ok c.in-Ok.id in
    told_does (creating (creation_of c.args.contract)) c.args.host.now c.create.new.host some (λ (id : Hash). address (addresses.Contract id)) c.in-Ok.ensures.does

pub returns-in-Err-clause-told : goal.returns-in-Err-clause-told
returns-in-Err-clause-told g c =
    let none : Result Hash HostErr = Err c.in-Err.end in
    told_does (creating (creation_of c.args.contract)) c.args.host.now c.create.new.host none (λ (id : Hash). address (addresses.Contract id)) c.in-Err.ensures.does
