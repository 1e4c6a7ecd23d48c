use Rattle.soroban_top.proofs.Simulations.{no_data_fits}
use Rattle.soroban_top.proofs.simulation.no_data.Goals as goal

pub returns-clause-fits : goal.returns-clause-fits
returns-clause-fits c = rw c.empty.ensures.keys no_data_fits
