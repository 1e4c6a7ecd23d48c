use Rattle.contract_storage.specs.Acts.{deletes}
use Rattle.contract_storage.specs.Slotted.{stored_of}
use Rattle.contract_storage.specs.declared.access.Access.TheVariants.{Write}
use Rattle.contract_storage.proofs.Calling.{still_noted}
use Rattle.contract_storage.proofs.Placing.{spot_still}
use Rattle.contract_storage.proofs.entries.Entries.del.Goals as goal

pub del_allowed-deleted-requires : goal.del_allowed-deleted-requires
del_allowed-deleted-requires g c = spot_still _ _ c.args.spot c.note_key.ensures.keys c.requires.spot

pub ended-requires-clause-spot : goal.ended-requires-clause-spot
ended-requires-clause-spot g c = spot_still _ _ c.args.spot c.del_allowed-deleted.ensures.keys (spot_still _ _ c.args.spot c.note_key.ensures.keys c.requires.spot)

pub ended-requires-clause-noted : goal.ended-requires-clause-noted
ended-requires-clause-noted g c =
    still_noted Write c.args.spot.key.now (deletes c.args.spot.key.now) c.del_allowed-deleted.result (stored_of c.args.self.now) (stored_of c.note_key.new.self) (stored_of c.del_allowed-deleted.new.self) c.in-Ok.noted
    c.in-Ok.ensures.ok c.in-Ok.ensures.noted c.del_allowed-deleted.ensures.performs
