use Rattle.std.proofs.Common.{refl}
use Rattle.command_io.specs.Seen.{seen}
use Rattle.soroban_top.proofs.Simulations.{found_as}
use Rattle.soroban_top.proofs.simulation.run.Goals as goal

pub returns : goal.returns
returns c =
    found_as c.written.result _ c.running_header-header.result (seen c.args.ledger.now) c.args.verdicts.now _ c.args.envelope.now c.args.close_time c.written.ensures.file c.written.ensures.lines c.running_header-header.ensures refl c.in_ok-simulated.ensures.simulated
