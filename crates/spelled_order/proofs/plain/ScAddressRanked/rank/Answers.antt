use Rattle.spelled_order.proofs.Parts.{address_bytes}
use Rattle.spelled_order.proofs.plain.ScAddressRanked.rank.Goals as goal

pub returns : goal.returns
returns c = rw (address_bytes c.args.self.now, address_bytes c.args.other.now) c.cmp_addresses.ensures
