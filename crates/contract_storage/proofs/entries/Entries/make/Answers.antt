use Rattle.contract_storage.specs.Acts.{makes}
use Rattle.contract_storage.specs.Slotted.{stored_of}
use Rattle.contract_storage.specs.declared.access.Access.TheVariants.{Write}
use Rattle.contract_storage.proofs.Calling.{still_noted}
use Rattle.contract_storage.proofs.Placing.{spot_still}
use Rattle.contract_storage.proofs.entries.Entries.make.Goals as goal

pub make_allowed-answer-requires-clause-spot : goal.make_allowed-answer-requires-clause-spot
make_allowed-answer-requires-clause-spot g c = spot_still _ _ c.args.spot c.note_key.ensures.keys c.requires.spot

pub ended-requires-clause-spot : goal.ended-requires-clause-spot
ended-requires-clause-spot g c = spot_still _ _ c.args.spot c.make_allowed-answer.ensures.keys (spot_still _ _ c.args.spot c.note_key.ensures.keys c.requires.spot)

pub ended-requires-clause-noted : goal.ended-requires-clause-noted
ended-requires-clause-noted g c =
    still_noted Write c.args.spot.key.now (makes c.args.entry c.args.live_until) c.make_allowed-answer.result (stored_of c.args.self.now) (stored_of c.note_key.new.self) (stored_of c.make_allowed-answer.new.self) c.in-Ok.noted
    c.in-Ok.ensures.ok c.in-Ok.ensures.noted c.make_allowed-answer.ensures.performs
