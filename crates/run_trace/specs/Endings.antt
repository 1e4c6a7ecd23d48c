-- How a call ended, and what it took (own).
use Rattle.std.specs.Prelude.{◌-◌}
use Rattle.budget_meter.specs.declared.budget.Used.{Used}
use Rattle.contract_storage.specs.declared.watch.End.{End}
use Rattle.contract_storage.specs.declared.watch.End.TheVariants as ends
use Rattle.run_trace.specs.declared.line.Ending.{Ending}
use Rattle.run_trace.specs.declared.line.Ending.TheVariants as endings

-- an end that owns its value or its key
abbrev pub ending_in : End → Ending
ending_in (ends.Value value) = endings.Value value.now
ending_in (ends.Failed error) = endings.Failed error
ending_in ends.Spent = endings.Spent
ending_in (ends.Undeclared key) = endings.Undeclared key.now
ending_in (ends.Archived key) = endings.Archived key.now
ending_in ends.NoMemory = endings.NoMemory

-- what was taken from one pair of sums to a later one
abbrev pub took : Used → Used → Used
took begun used = record {
  instructions = used.instructions - begun.instructions;
  memory = used.memory - begun.memory;
}
