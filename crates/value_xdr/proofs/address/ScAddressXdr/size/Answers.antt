use Rattle.std.proofs.Common.{◌∙◌}
use Rattle.value_xdr.proofs.Sizes.{address_capped}
use Rattle.value_xdr.proofs.address.ScAddressXdr.size.Goals as goal

pub returns : goal.returns
returns c fits = c.xdr_size_of_address.ensures ∙ address_capped c.args.self.now fits
