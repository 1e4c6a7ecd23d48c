-- Parts of a vec that the host holds (own).
use Rattle.std.specs.Prelude.{◌≤◌, List, length}
use Rattle.value_types.specs.Datum.{Datum}
use Rattle.host_frame.specs.Made.{AreMade}

-- few values in good form
pub record IsPart (ds : List Datum) : Type 0 where
  pub made : AreMade ds
  pub few : length ds ≤ 4194304
