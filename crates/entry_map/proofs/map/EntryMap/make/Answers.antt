use Rattle.ledger_types.proofs.Lemmas.{key_of_fits}
use Rattle.entry_map.proofs.map.EntryMap.make.Goals as goal

pub state-requires : goal.state-requires
state-requires c = rw c.requires.key (key_of_fits c.args.entry c.requires.fits)
