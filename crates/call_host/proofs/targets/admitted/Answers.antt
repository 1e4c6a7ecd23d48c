use Rattle.std.proofs.Common.{true, false, reverse, sym, ap, ◌∙◌}
use Rattle.value_types.specs.declared.hash.Hash.{Hash}
use Rattle.call_spec.specs.Acts.{Out}
use Rattle.call_spec.specs.Outcomes.{trace_of}
use Rattle.call_host.proofs.Splitting.{tested}
use Rattle.call_host.proofs.targets.admitted.Goals as goal

pub returns-then-is_running-clause-does : goal.returns-then-is_running-clause-does
returns-then-is_running-clause-does c w at =
    let e = tested c.args.named c.args.address c.in-Contract.contract (reverse c.args.open.now) true c.if-not-named.false c.in-Contract.is (sym c.if-is_running.true ∙ c.is_running.ensures) w at in
    (ap (λ (o : Out Hash). trace_of o) e, e)

pub returns-clause-does : goal.returns-clause-does
returns-clause-does c w at =
    let e = tested c.args.named c.args.address c.in-Contract.contract (reverse c.args.open.now) false c.if-not-named.false c.in-Contract.is (sym c.if-is_running.false ∙ c.is_running.ensures) w at in
    (ap (λ (o : Out Hash). trace_of o) e, e)
