use Rattle.std.specs.Prelude.{IfOk}
use Rattle.std.proofs.Common.{ℕ, List, Option, None, subst}
use Rattle.host_spec.specs.MapRows.{Member}
use Rattle.call_spec.specs.Creating.{CONSTRUCTOR}
use Rattle.host_ledger.specs.declared.state.InstanceCopy.{InstanceCopy}
use Rattle.call_host.specs.Running.{IsFrameFor}
use Rattle.contract_call.proofs.creating.constructor_frame.Goals as goal

pub returns-in-Ok-clause-ok : goal.returns-in-Ok-clause-ok
returns-in-Ok-clause-ok c =
    let copy : Option (List Member) → InstanceCopy = λ storage. record { code = c.args.code; storage = storage } in
    let args = c.args.args.items in
    subst (λ (path : List ℕ). IfOk c.new_frame.result (λ f. IsFrameFor f c.args.id c.args.creator CONSTRUCTOR args (copy None) path)) c.in-Ok.ensures.ok
    (subst (λ (s : Option (List Member)). IfOk c.new_frame.result (λ f. IsFrameFor f c.args.id c.args.creator CONSTRUCTOR args (copy s) c.in-Ok.path.items)) c.null.ensures c.new_frame.ensures.ok)
