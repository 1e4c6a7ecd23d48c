use Rattle.contract_storage.specs.Slotted.{stored_of}
use Rattle.contract_storage.proofs.Doing.{make_is}
use Rattle.contract_storage.proofs.entries.Entries.make_allowed.Goals as goal

pub returns-in-Ok-clause-performs : goal.returns-in-Ok-clause-performs
returns-in-Ok-clause-performs g c =
    make_is (stored_of c.args.self.now) (stored_of c.write.new.self) c.args.spot.key.now c.args.entry c.args.live_until c.requires.key c.in-Absent.ensures.seen c.in-Ok.ensures.ok
