use Rattle.set_generator.proofs.LedgerFits.{code_fits, code_hashed}
use Rattle.set_generator.proofs.ledger.code_entry.Goals as goal

pub returns-clause-fits : goal.returns-clause-fits
returns-clause-fits c = rw (c.entry.ensures, c.in_ok-module.ensures, c.requires) code_fits

pub returns-clause-hashed : goal.returns-clause-hashed
returns-clause-hashed c = rw (c.entry.ensures, c.in_ok-module.ensures, c.requires) code_hashed
