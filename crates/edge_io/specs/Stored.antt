-- The map of a list of files in memory (own).
use Rattle.std.specs.Prelude.{List, map}
use Rattle.std.specs.FinMap.{from_entries}
use Rattle.edge_io.specs.Contents.{FileMap}
use Rattle.edge_io.specs.declared.mem_files.Stored.{Stored}

-- the list as a map: of a name that comes twice, the first bytes count
abbrev pub files_of : List Stored → FileMap
files_of stored = from_entries (map (λ (s : Stored). (s.name, s.bytes.items)) stored)
