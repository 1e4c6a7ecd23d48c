use Rattle.set_generator.proofs.LedgerFits.{counter_fits}
use Rattle.set_generator.proofs.ledger.counter_entry.Goals as goal

pub returns-clause-fits : goal.returns-clause-fits
returns-clause-fits c = rw (c.entry.ensures, c.address.ensures, c.in_ok-key.ensures) (counter_fits c.args.number c.ranges.number.fits)
