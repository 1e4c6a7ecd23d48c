use Rattle.host_ledger.specs.Worlds.{IsReady}
use Rattle.conformance.proofs.host.ledger_calls.make_calls.Given as goal

abbrev pub invariant-loop-call : goal.invariant-loop-call
invariant-loop-call g l = IsReady l.host
