use Rattle.std.proofs.Common.{◌-◌}
use Rattle.host_frame.proofs.key_index.+index_between.Given as goal

abbrev pub decreases-index_between : goal.decreases-index_between
decreases-index_between l = l.to - l.from
