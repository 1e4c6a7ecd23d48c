use Rattle.std.proofs.Common.{Result, Ok, Err, sym}
use Rattle.value_types.specs.Datum.{bytes}
use Rattle.value_types.specs.Views.{datum}
use Rattle.value_types.specs.declared.hash.Hash.{Hash}
use Rattle.host_spec.specs.declared.error.HostErr.{HostErr}
use Rattle.call_spec.specs.WholeRuns.{uploading}
use Rattle.tx_apply.proofs.Ending.{ends_failed, ends_viewed, recorded_failed, recorded_viewed}
use Rattle.tx_apply.proofs.Watching.{told_does}
use Rattle.tx_apply.proofs.run.upload_code.Goals as goal

pub returns-in_ok-hash_value-in-Ok-clause-ends : goal.returns-in_ok-hash_value-in-Ok-clause-ends
returns-in_ok-hash_value-in-Ok-clause-ends g c =
    ends_viewed (uploading c.args.code.now) (λ (hash : Hash). bytes hash.0) datum c.args.host.now c.upload.new.host c.in-Ok.hash _ (sym c.in_ok-hash_value-in-Ok.ensures.value) c.in-Ok.ensures.ends

pub returns-in-Err-clause-ends : goal.returns-in-Err-clause-ends
returns-in-Err-clause-ends g c =
    ends_failed (uploading c.args.code.now) (λ (hash : Hash). bytes hash.0) datum c.args.host.now c.upload.new.host c.in-Err.end c.in-Err.ensures.ends

pub returns-in_ok-hash_value-in-Ok-clause-recorded : goal.returns-in_ok-hash_value-in-Ok-clause-recorded
returns-in_ok-hash_value-in-Ok-clause-recorded g c =
    recorded_viewed (uploading c.args.code.now) (λ (hash : Hash). bytes hash.0) datum c.args.host.now c.upload.new.host c.in-Ok.hash _ (sym c.in_ok-hash_value-in-Ok.ensures.value) c.in-Ok.ensures.recorded

pub returns-in-Err-clause-recorded : goal.returns-in-Err-clause-recorded
returns-in-Err-clause-recorded g c =
    recorded_failed (uploading c.args.code.now) (λ (hash : Hash). bytes hash.0) datum c.args.host.now c.upload.new.host c.in-Err.end c.in-Err.ensures.recorded

-- Whether a run returned a hash or its bytes makes no difference to what its storage knows.
pub returns-in_ok-hash_value-in-Ok-clause-told : goal.returns-in_ok-hash_value-in-Ok-clause-told
returns-in_ok-hash_value-in-Ok-clause-told g c =
    let some : Result Hash HostErr = Ok c.in-Ok.hash in
    told_does (uploading c.args.code.now) c.args.host.now c.upload.new.host some (λ (hash : Hash). bytes hash.0) c.in-Ok.ensures.does

pub returns-in-Err-clause-told : goal.returns-in-Err-clause-told
returns-in-Err-clause-told g c =
    let none : Result Hash HostErr = Err c.in-Err.end in
    told_does (uploading c.args.code.now) c.args.host.now c.upload.new.host none (λ (hash : Hash). bytes hash.0) c.in-Err.ensures.does
