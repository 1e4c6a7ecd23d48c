use Rattle.std.proofs.Common.{sym}
use Rattle.value_xdr.proofs.Sizes.{datum_size}
use Rattle.value_xdr.proofs.scval.size_is_length.Goals as goal

pub returns : goal.returns
returns c d bounded = sym (datum_size d bounded)
