use Rattle.contract_storage.proofs.Placing.{spot_still}
use Rattle.contract_storage.proofs.entries.Entries.has.Goals as goal

pub sight-requires : goal.sight-requires
sight-requires g c = spot_still _ _ c.args.spot c.note.ensures.keys c.requires.spot
