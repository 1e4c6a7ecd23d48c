-- Results of reading a value of a file that is poured (own).
use Rattle.std.specs.Prelude.{◌≡◌, ◌⊎◌, ℕ, ◌<◌, ◌≤◌, ◌^◌, List, length, Option, Result, Ok, Err, IsSomeAnd, ⊤}
use Rattle.edge_io.specs.Contents.{Contents, IsThere}
use Rattle.edge_io.specs.Counts.{ChangesOnlyCount, Rose}
use Rattle.xdr_spec.specs.Decoded.{decoded}
use Rattle.xdr_spec.specs.Format.{Format}
use Rattle.xdr_core.specs.Sources.{Standing, GoesOn, Halts}
use Rattle.xdr_core.specs.declared.error.ReadXdr.{ReadXdr}
use Rattle.xdr_core.specs.declared.error.ReadXdr.TheVariants as read_errors
use Rattle.file_pour.specs.declared.error.PouredErr.{PouredErr}
use Rattle.file_pour.specs.declared.error.PouredErr.TheVariants.{Fault, TooLong, Bad, NoMemory}

-- a fact of a reading that returned Fault
abbrev pub OnFault : {T : Type 0} → Result T PouredErr → Type 0 → Type 0
OnFault (Ok x) P = ⊤
OnFault (Err Fault) P = P
OnFault (Err TooLong) P = ⊤
OnFault (Err (Bad e)) P = ⊤
OnFault (Err NoMemory) P = ⊤

-- What was read of the bytes at a name: TooLong comes only if they have one at offset 2^30, a value or a refusal only if they
-- have none, and then it is what they are decoded as. Fault and NoMemory say nothing of them.
abbrev pub ReadsFile : {V : Type 0} → Format V → Result V PouredErr → Option (List ℕ) → Type 0
ReadsFile F (Ok v) there = IsSomeAnd there (λ bytes. (length bytes ≤ 2 ^ 30) × (decoded F bytes ≡ Ok v))
ReadsFile F (Err Fault) there = ⊤
ReadsFile F (Err TooLong) there = IsSomeAnd there (λ bytes. 2 ^ 30 < length bytes)
ReadsFile F (Err (Bad e)) there = IsSomeAnd there (λ bytes. (length bytes ≤ 2 ^ 30) × (decoded F bytes ≡ Err e))
ReadsFile F (Err NoMemory) there = ⊤

-- What the reading leaves of the files. Their content is the same. Only the file's count may have risen, and it rose if Fault is
-- returned. If the files are steady and the file is there, then no call failed.
pub record Leaves {V : Type 0} (files files2 : Contents) (f g : ℕ → ℕ) (steady steady2 : Type 0) (option : ℕ) (name : List ℕ)
    (r : Result V PouredErr) : Type 0 where
  pub same : files2 ≡ files
  pub counts : ChangesOnlyCount option f g
  pub cause : OnFault r (Rose (f option) (g option))
  pub steadily : steady → IsThere files name → OnFault r ⊥ × steady2 × (g option ≡ f option)

-- the error of a pour that stopped: TooLong if it has met a byte at offset 2^30, else Fault
abbrev pub Stops : ℕ → PouredErr → Type 0
Stops longs Fault = longs ≡ 0
Stops longs TooLong = 0 < longs
Stops longs (Bad e) = ⊥
Stops longs NoMemory = ⊥

-- What was read, with the rest of the file taken. At TooLong and Fault the pour stopped, in the rest or before it: at TooLong
-- it has met a byte at offset 2^30, at Fault it has not.
abbrev pub Ends : {K V : Type 0} → Standing K → Standing K → ℕ → Type 0 → Result V ReadXdr → Result V PouredErr → Type 0
Ends old new longs short read (Ok v) = (read ≡ Ok v) × short × GoesOn old new
Ends old new longs short read (Err (Bad e)) = (read ≡ Err (read_errors.Bad e)) × short × GoesOn old new
Ends old new longs short read (Err NoMemory) = (read ≡ Err read_errors.NoMemory) × GoesOn old new
Ends old new longs short read (Err TooLong) = (0 < longs) × (Halts old new ⊎ ((read ≡ Err read_errors.Stopped) × GoesOn old new))
Ends old new longs short read (Err Fault) = (longs ≡ 0) × (Halts old new ⊎ ((read ≡ Err read_errors.Stopped) × GoesOn old new))
