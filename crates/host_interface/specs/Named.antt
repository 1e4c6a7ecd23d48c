-- Functions of the host interface by their names.
use Rattle.std.specs.Prelude.{ℕ, ◌&&◌, Bool, List, Option}
use Rattle.std.specs.List.{find}
use Rattle.std.specs.Option.{option_map}
use Rattle.std.specs.Str.{bytes_eq}
use Rattle.host_interface.specs.Rows.{Row, host_rows}
use Rattle.host_interface.specs.declared.import.HostImport.{HostImport}

-- the row has this module and this name
abbrev pub is_named : List ℕ → List ℕ → Row → Bool
is_named letter name row = bytes_eq row.letter letter && bytes_eq row.name name

abbrev pub import_of : Row → HostImport
import_of row = row.import

-- the import of the first row with this module and this name
abbrev pub row_named : List Row → List ℕ → List ℕ → Option HostImport
row_named rows letter name = option_map import_of (find (is_named letter name) rows)

-- the function of the host interface with this module and this name
abbrev pub import_named : List ℕ → List ℕ → Option HostImport
import_named letter name = row_named host_rows letter name
