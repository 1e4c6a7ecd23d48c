-- Results of reading a whole file (own).
use Rattle.std.specs.Prelude.{◌≡◌, ℕ, ◌<◌, ◌≤◌, ◌^◌, List, length, take, Option, Some, Result, Ok, Err, IsSomeAnd, ⊤}
use Rattle.edge_io.specs.declared.failed.ReadErr.{ReadErr}
use Rattle.edge_io.specs.declared.failed.ReadErr.TheVariants.{Fault, TooLong, NoMemory}

-- a fact of a reading that returned Fault
abbrev pub OnFault : {T : Type 0} → Result T ReadErr → Type 0 → Type 0
OnFault (Ok x) P = ⊤
OnFault (Err Fault) P = P
OnFault (Err TooLong) P = ⊤
OnFault (Err NoMemory) P = ⊤

-- If the content is known: the file exists, and TooLong comes exactly if it has a byte at offset 2^30.
abbrev pub ReadsWhole : Result (List ℕ) ReadErr → Option (List ℕ) → Type 0
ReadsWhole (Ok blob) there = there ≡ Some blob
ReadsWhole (Err Fault) there = ⊤
ReadsWhole (Err TooLong) there = IsSomeAnd there (λ bytes. 2 ^ 30 < length bytes)
ReadsWhole (Err NoMemory) there = IsSomeAnd there (λ bytes. length bytes ≤ 2 ^ 30)

-- a prefix of the bytes
abbrev pub IsPrefixOf : List ℕ → List ℕ → Type 0
IsPrefixOf bytes whole = bytes ≡ take (length bytes) whole
