use Rattle.soroban_top.proofs.Simulations.{data_fits, result_fits, success_fits}
use Rattle.soroban_top.proofs.simulation.file_of.Goals as goal

pub put_data-requires : goal.put_data-requires
put_data-requires c = rw c.transaction.ensures (data_fits c.args.simulated.now.envelope c.requires.envelope)

pub write-requires : goal.write-requires
write-requires c = result_fits c.args.simulated.now.done.result c.requires.done.result

pub write-requires-2 : goal.write-requires-2
write-requires-2 c = success_fits c.args.simulated.now.done.success c.requires.done.success
