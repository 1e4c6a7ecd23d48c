-- The events of a run.
use Rattle.std.specs.Prelude.{◌<◌, ◌^◌, List, length}
use Rattle.std.specs.List.{AllByRecursion}
use Rattle.invoke_types.specs.Event.{event_format}
use Rattle.invoke_types.specs.declared.event.ContractEvent.{ContractEvent}

-- The events have a spelling as a list: each of them has one, and their number has 32 bits.
pub record AreSpelled (events : List ContractEvent) : Type 0 where
  pub fits : AllByRecursion event_format.fits events
  pub few : length events < 2 ^ 32
