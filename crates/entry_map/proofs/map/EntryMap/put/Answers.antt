use Rattle.ledger_types.proofs.Lemmas.{key_of_fits}
use Rattle.entry_map.proofs.map.EntryMap.put.Goals as goal

pub life_of_put-requires-clause-fits : goal.life_of_put-requires-clause-fits
life_of_put-requires-clause-fits c = rw c.requires.key (key_of_fits c.args.entry c.requires.fits)
