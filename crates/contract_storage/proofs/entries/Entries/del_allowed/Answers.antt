use Rattle.contract_storage.specs.Acts.{deletes}
use Rattle.contract_storage.specs.Slotted.{stored_of}
use Rattle.contract_storage.proofs.Doing.{does_settled, del_is}
use Rattle.contract_storage.proofs.entries.Entries.del_allowed.Goals as goal

pub returns-clause-performs : goal.returns-clause-performs
returns-clause-performs g c =
    let s = stored_of c.args.self.now in
    does_settled (deletes c.args.spot.key.now) c.settle.result s (stored_of c.settle.new.self) _ (del_is s c.args.spot.key.now _ c.in-Live.ensures.seen)
    c.settle.ensures.ok c.settle.ensures.err c.settle.ensures.stays
