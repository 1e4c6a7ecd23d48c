use Rattle.contract_storage.specs.Acts.{extends}
use Rattle.contract_storage.specs.Slotted.{stored_of}
use Rattle.contract_storage.specs.declared.access.Access.TheVariants.{Extend}
use Rattle.contract_storage.proofs.Calling.{still_noted}
use Rattle.contract_storage.proofs.Placing.{spot_still}
use Rattle.contract_storage.proofs.entries.Entries.extend.Goals as goal

pub extend_allowed-answer-requires-clause-spot : goal.extend_allowed-answer-requires-clause-spot
extend_allowed-answer-requires-clause-spot g c = spot_still _ _ c.args.spot c.note_key.ensures.keys c.requires.spot

pub ended-requires-clause-spot : goal.ended-requires-clause-spot
ended-requires-clause-spot g c = spot_still _ _ c.args.spot c.extend_allowed-answer.ensures.keys (spot_still _ _ c.args.spot c.note_key.ensures.keys c.requires.spot)

pub ended-requires-clause-noted : goal.ended-requires-clause-noted
ended-requires-clause-noted g c =
    still_noted Extend c.args.spot.key.now (extends c.args.spot.key.now c.args.threshold c.args.extend_to) c.extend_allowed-answer.result (stored_of c.args.self.now) (stored_of c.note_key.new.self) (stored_of c.extend_allowed-answer.new.self) c.in-Ok.noted
    c.in-Ok.ensures.ok c.in-Ok.ensures.noted c.extend_allowed-answer.ensures.performs
