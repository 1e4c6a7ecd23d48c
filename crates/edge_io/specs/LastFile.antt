-- The file that is kept open (own).
use Rattle.std.specs.Prelude.{◌≡◌, ℕ, ◌+◌, ◌-◌, ◌^◌, List, Option, min, option_map, IfSome}
use Rattle.edge_io.specs.declared.last_file.Handle.{Handle}
use Rattle.edge_io.specs.declared.last_file.LastFile.{LastFile}

-- the open file, with its name
abbrev pub kept_of : {F : Type 0} → LastFile F → Option (List ℕ × Handle F)
kept_of last = option_map (λ handle. (last.name.items, handle)) last.open

-- after a piece of n bytes was read at an offset: if a file is open, it has this name, and its next read begins behind the piece
abbrev pub IsBehind : {F : Type 0} → Option (List ℕ × Handle F) → List ℕ → ℕ → ℕ → Type 0
IsBehind kept name at n = IfSome kept (λ k. (k.0 ≡ name) × (k.1.offset ≡ min (at + n) (2 ^ 64 - 1)))
