use Rattle.contract_storage.specs.Acts.{puts}
use Rattle.contract_storage.specs.Slotted.{stored_of}
use Rattle.contract_storage.specs.declared.access.Access.TheVariants.{Write}
use Rattle.contract_storage.proofs.Calling.{still_noted}
use Rattle.contract_storage.proofs.Placing.{spot_still}
use Rattle.contract_storage.proofs.entries.Entries.put.Goals as goal

pub put_allowed-answer-requires-clause-spot : goal.put_allowed-answer-requires-clause-spot
put_allowed-answer-requires-clause-spot g c = spot_still _ _ c.args.spot c.note_key.ensures.keys c.requires.spot

pub ended-requires-clause-spot : goal.ended-requires-clause-spot
ended-requires-clause-spot g c = spot_still _ _ c.args.spot c.put_allowed-answer.ensures.keys (spot_still _ _ c.args.spot c.note_key.ensures.keys c.requires.spot)

pub ended-requires-clause-noted : goal.ended-requires-clause-noted
ended-requires-clause-noted g c =
    still_noted Write c.args.spot.key.now (puts c.args.entry) c.put_allowed-answer.result (stored_of c.args.self.now) (stored_of c.note_key.new.self) (stored_of c.put_allowed-answer.new.self) c.in-Ok.noted
    c.in-Ok.ensures.ok c.in-Ok.ensures.noted c.put_allowed-answer.ensures.performs
