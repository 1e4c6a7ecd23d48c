-- The code's values as plain data (own).
use Rattle.apply_spec.specs.Outputs.{Outputs}
use Rattle.apply_spec.specs.SimulationFile.{SimulationOutputs}
use Rattle.soroban_top.specs.declared.outputs.Outputs as code
use Rattle.soroban_top.specs.declared.simulation.Simulation.{Simulation}

-- the report, the new ledger's file, and the lines
abbrev pub outputs_in : code.Outputs → Outputs
outputs_in o = record { report = o.report.items; ledger = o.ledger.items; lines = o.lines.items }

-- the bytes that are stored, and the lines
abbrev pub simulation_in : Simulation → SimulationOutputs
simulation_in s = record { file = s.file.items; lines = s.lines.items }
