use Rattle.tx_steps.proofs.Chosen.{Fills}
use Rattle.tx_steps.proofs.touched.keys_of.Given as goal

abbrev pub invariant-loop-touch : goal.invariant-loop-touch
invariant-loop-touch l = Fills l.written l.keys.keys l.touch-index l.touches
