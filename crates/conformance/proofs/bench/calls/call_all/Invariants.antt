use Rattle.object_store.specs.Shown.{AreIndices}
use Rattle.conformance.proofs.bench.calls.call_all.Given as goal

abbrev pub invariant-loop-call : goal.invariant-loop-call
invariant-loop-call l = AreIndices l.frame.objects l.frame.shown
