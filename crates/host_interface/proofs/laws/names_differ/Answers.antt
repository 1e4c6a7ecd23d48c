use Rattle.std.proofs.Common.{refl}
use Rattle.host_interface.proofs.laws.names_differ.Goals as goal

pub returns : goal.returns
returns c = refl
