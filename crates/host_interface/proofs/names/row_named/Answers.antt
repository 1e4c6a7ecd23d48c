use Rattle.std.proofs.Common.{refl}
use Rattle.host_interface.proofs.names.row_named.Goals as goal

pub row_in-requires : goal.row_in-requires
row_in-requires c = record { ascending = refl; whole = refl; distinct = refl; named = refl }
