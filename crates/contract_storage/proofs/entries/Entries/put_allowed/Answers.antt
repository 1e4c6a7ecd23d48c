use Rattle.contract_storage.specs.Acts.{puts}
use Rattle.contract_storage.specs.Slotted.{stored_of}
use Rattle.contract_storage.proofs.Doing.{does_settled, put_is}
use Rattle.contract_storage.proofs.entries.Entries.put_allowed.Goals as goal

pub returns-clause-performs : goal.returns-clause-performs
returns-clause-performs g c =
    let s = stored_of c.args.self.now in
    does_settled (puts c.args.entry) c.write.result s (stored_of c.write.new.self) _ (put_is s c.args.spot.key.now c.args.entry c.in-Some.live_until c.requires.key c.in-Some.ensures)
    c.write.ensures.ok c.write.ensures.err c.write.ensures.stays
