use Rattle.tx_steps.proofs.Chosen.{footprint_fits}
use Rattle.tx_steps.proofs.touched.footprint_of.Goals as goal

pub returns-clause-fits : goal.returns-clause-fits
returns-clause-fits c =
    footprint_fits c.args.touches.now c.in_ok-read_only.read_only c.in_ok-read_write.read_write c.requires c.in_ok-read_only.ensures c.in_ok-read_write.ensures
