use Rattle.std.proofs.Common.{arith}
use Rattle.xdr_spec.specs.Format.{opaque}
use Rattle.auth_record.proofs.bounded.is_short.Goals as goal

pub returns : goal.returns
unfolding opaque
returns c _ = (omega arith, omega arith, c.hold_bytes.ensures)
