use Rattle.std.proofs.Common.{refl}
use Rattle.host_spec.proofs.laws.rows_stand_in_order.Goals as goal

pub returns : goal.returns
returns c = refl
