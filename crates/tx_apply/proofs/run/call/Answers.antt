use Rattle.std.proofs.Common.{List, subst}
use Rattle.value_types.specs.Views.{datum, datums}
use Rattle.value_types.specs.declared.value.ScVal.{ScVal}
use Rattle.call_spec.specs.WholeRuns.{calling}
use Rattle.contract_call.specs.Ended.{Ends, EndsRecorded}
use Rattle.tx_apply.specs.Watching.{Told}
use Rattle.tx_apply.proofs.Watching.{told_does}
use Rattle.tx_apply.proofs.run.call.Goals as goal

pub returns-clause-ends : goal.returns-clause-ends
returns-clause-ends g c =
    subst (λ (vs : List ScVal). Ends (calling c.args.contract c.args.function.now (datums vs)) c.invoke.result datum c.args.host.now c.invoke.new.host) c.in_ok-args.ensures.ok c.invoke.ensures.ends

pub returns-clause-recorded : goal.returns-clause-recorded
returns-clause-recorded g c =
    subst (λ (vs : List ScVal). EndsRecorded (calling c.args.contract c.args.function.now (datums vs)) c.invoke.result datum c.args.host.now c.invoke.new.host) c.in_ok-args.ensures.ok c.invoke.ensures.recorded

pub returns-clause-told : goal.returns-clause-told
returns-clause-told g c =
    subst (λ (vs : List ScVal). Told (calling c.args.contract c.args.function.now (datums vs)) c.invoke.result c.args.host.now c.invoke.new.host) c.in_ok-args.ensures.ok
    (told_does _ c.args.host.now c.invoke.new.host c.invoke.result datum c.invoke.ensures.does)
