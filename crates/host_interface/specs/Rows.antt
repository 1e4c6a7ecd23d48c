-- The rows of the host interface (own).
use Rattle.std.specs.Prelude.{◌≡◌, ℕ, false, List, ◌++◌, codes, map}
use denote.Ref.{Bor}
use Rattle.list_laws.specs.Twice.{stand_twice}
use Rattle.host_interface.specs.declared.kinds.ArgKind.{ArgKind}
use Rattle.host_interface.specs.declared.rows.HostRow.{HostRow}
use Rattle.host_interface.specs.declared.rows.TheConstants.{HOST_ROWS}

-- an import of a host: its name, and the kinds of its arguments and its result
abbrev pub Row : Type 0
Row = HostRow (List ℕ) (List ArgKind)

-- the rows of a table in the code
abbrev pub row_of : HostRow (Bor (List ℕ)) (Bor (List ArgKind)) → Row
row_of r =
    record { «import» = r.import; letter = r.letter.now; name = r.name.now; arguments = r.arguments.now; result = r.result }

abbrev pub rows_of : List (HostRow (Bor (List ℕ)) (Bor (List ArgKind))) → List Row
rows_of = map row_of

-- the host interface
abbrev pub host_rows : List Row
host_rows =
    map (λ r. record {
      «import» = r.import;
      letter = r.letter.now;
      name = r.name.now;
      arguments = r.arguments.now;
      result = r.result;
    }) HOST_ROWS

-- the module and the name of an import
abbrev pub full_name : Row → List ℕ
full_name row = row.letter ++ codes "." ++ row.name

-- no two rows have the same module and name
abbrev pub NamesDiffer : Type 0
NamesDiffer = stand_twice (map full_name host_rows) ≡ false
