use Rattle.set_generator.proofs.LedgerFits.{instance_fits}
use Rattle.set_generator.proofs.ledger.instance.Goals as goal

pub returns-clause-fits : goal.returns-clause-fits
returns-clause-fits c = rw (c.entry.ensures, c.address.ensures, c.requires) (instance_fits c.args.number c.ranges.number.fits)
