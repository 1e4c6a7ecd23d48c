use Rattle.object_store.specs.Shown.{AreIndices}
use Rattle.conformance.proofs.host.frames.show_all.Given as goal

abbrev pub invariant-loop-bytes : goal.invariant-loop-bytes
invariant-loop-bytes l = AreIndices l.objects l.shown
