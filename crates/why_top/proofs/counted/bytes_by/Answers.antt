use Rattle.why_top.proofs.Fitting.{can_count}
use Rattle.why_top.proofs.counted.bytes_by.Goals as goal

pub written_bytes-requires : goal.written_bytes-requires
written_bytes-requires g c = can_count c.args.changes.now c.requires.changes
