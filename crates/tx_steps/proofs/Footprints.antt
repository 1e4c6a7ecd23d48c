-- The footprint that a transaction declares is within its XDR format.
use Rattle.std.proofs.Common.{arith}
use Rattle.xdr_spec.specs.Format.{list}
use Rattle.tx_xdr.specs.Soroban.{footprint_format, soroban_format}
use Rattle.tx_xdr.specs.Ext.{ext_format}
use Rattle.tx_xdr.specs.Transaction.{transaction_format}
use Rattle.tx_xdr.specs.declared.transaction.Transaction.{Transaction}
use Rattle.tx_xdr.specs.declared.transaction.TransactionExt.{TransactionExt}
use Rattle.tx_xdr.specs.declared.transaction.TransactionExt.TheVariants as exts
use Rattle.stage_runs.specs.Transactions.{footprint_in}
use Rattle.apply_spec.specs.Checks.{footprint_of}

ext_footprint : (ext : TransactionExt) → ext_format.fits ext → footprint_format.fits (footprint_in ext)
unfolding ext_format soroban_format footprint_format list
ext_footprint exts.None h = ((omega arith, omega arith, tt), (omega arith, omega arith, tt))
ext_footprint (exts.Soroban resources) h = h.0

-- the footprint that a transaction declares
pub declared_fits : (tx : Transaction) → transaction_format.fits tx → footprint_format.fits (footprint_of tx)
unfolding transaction_format
declared_fits tx h = ext_footprint tx.ext h.1.1.1.1.1.1
