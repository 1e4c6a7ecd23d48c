use Rattle.object_store.specs.Shown.{AreIndices}
use Rattle.conformance.proofs.host.frames.fill.Given as goal

abbrev pub invariant-loop-time : goal.invariant-loop-time
invariant-loop-time l = AreIndices l.objects l.shown
