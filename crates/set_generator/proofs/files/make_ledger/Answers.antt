use Rattle.std.proofs.Common.{sym, subst}
use Rattle.ledger_types.specs.Header.{header_format}
use Rattle.ledger_types.specs.declared.header.Header.{Header}
use Rattle.set_generator.proofs.LedgerFits.{header_fits}
use Rattle.set_generator.proofs.files.make_ledger.Goals as goal

pub write_ledger-requires : goal.write_ledger-requires
write_ledger-requires c = subst (λ (h : Header). header_format.fits h) (sym c.in_ok-ledger.ensures.header) header_fits
