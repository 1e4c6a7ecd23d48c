use Rattle.std.proofs.Common.{arith, rules}
use Rattle.value_types.specs.Formats.{scval_format}
use Rattle.auth_record.proofs.Bounding.{row_more, row_whole, row_fits}
use Rattle.auth_record.proofs.bounded.values_fit.Goals as goal

pub loop-value-preserved : goal.loop-value-preserved
loop-value-preserved c =
    row_more scval_format.fits c.args.values.now c.loop-value.value-index c.value-item.result c.loop-value-test.true c.value-item.is c.loop-value.invariant (c.value_fits-good.ensures (search rules))

pub returns : goal.returns
returns c _ = row_fits scval_format c.args.values.now (omega arith) (row_whole scval_format.fits c.args.values.now c.loop-value.value-index (omega arith) c.loop-value.invariant)
