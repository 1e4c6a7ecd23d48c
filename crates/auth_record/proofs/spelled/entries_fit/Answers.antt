use Rattle.std.proofs.Common.{arith, rules}
use Rattle.auth_types.specs.AuthEntry.{auth_entry_format}
use Rattle.auth_record.proofs.Bounding.{row_more, row_whole, row_fits}
use Rattle.auth_record.proofs.spelled.entries_fit.Goals as goal

pub loop-entry-preserved : goal.loop-entry-preserved
loop-entry-preserved c =
    row_more auth_entry_format.fits c.args.entries.now c.loop-entry.entry-index c.entry-item.result c.loop-entry-test.true c.entry-item.is c.loop-entry.invariant (c.entry_fits-good.ensures (search rules))

pub returns : goal.returns
returns c _ = row_fits auth_entry_format c.args.entries.now (omega arith) (row_whole auth_entry_format.fits c.args.entries.now c.loop-entry.entry-index (omega arith) c.loop-entry.invariant)
