use Rattle.std.proofs.Common.{length}
use Rattle.host_frame.proofs.charges.+visit.Given as goal

abbrev pub decreases-visit : goal.decreases-visit
decreases-visit l = length l.words.now
