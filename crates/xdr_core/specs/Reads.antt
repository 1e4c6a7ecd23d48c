-- What a call that reads returns, compared with what a format's reader says of the same input (own).
use Rattle.std.specs.Prelude.{◌≡◌, ◌==◌, ℕ, ◌++◌, List, drop, length, Result, Ok, Err, if◌then◌else◌}
use Rattle.std.specs.List.{AllByRecursion}
use Rattle.xdr_spec.specs.declared.XdrErr.{XdrErr}
use Rattle.xdr_spec.specs.declared.Why.TheVariants.{Trailing}
use Rattle.xdr_spec.specs.Decoded.{ended}
use Rattle.xdr_spec.specs.Format.{Input, Outcome, Format, input, refusal, ◌>>=◌}
use Rattle.xdr_spec.specs.Refusal.{Refuses}
use Rattle.xdr_core.specs.Sources.{Standing, Source, IsTold, GoesOn, Halts}
use Rattle.xdr_core.specs.declared.error.ReadXdr.{ReadXdr}
use Rattle.xdr_core.specs.declared.error.ReadXdr.TheVariants.{Bad, NoMemory, Stopped}

-- the input at a byte offset
abbrev pub from : List ℕ → ℕ → Input
from bytes place = input place (drop place bytes)

-- the value at the start of the input and the input after it; or the refusal, and the input as it was
abbrev pub Gives : {V W : Type 0} → (W → V) → (Input → Outcome V) → Input → Input → Result W XdrErr → Type 0
Gives view read old new (Ok w) = read old ≡ Ok (view w, new)
Gives view read old new (Err e) = (read old ≡ Err e) × (new ≡ old)

-- If the source tells its bytes: the value at their start and the bytes after it, or the refusal. Or memory ran out. Or the
-- source stopped, and counted it. After an error nothing is said of where the source stands.
abbrev pub Reads : {K V : Type 0} → (Input → Outcome V) → Source K → Source K → Result V ReadXdr → Type 0
Reads read old new (Ok v) = (IsTold old → (read old.input ≡ Ok (v, new.input)) × IsTold new) × GoesOn old.standing new.standing
Reads read old new (Err (Bad e)) = (IsTold old → read old.input ≡ Err e) × GoesOn old.standing new.standing
Reads read old new (Err NoMemory) = GoesOn old.standing new.standing
Reads read old new (Err Stopped) = Halts old.standing new.standing

-- the same, for a value of the code that contracts see as another
abbrev pub ReadsAs : {K V W : Type 0} → (W → V) → (Input → Outcome V) → Source K → Source K → Result W ReadXdr → Type 0
ReadsAs view read old new (Ok w) =
    (IsTold old → (read old.input ≡ Ok (view w, new.input)) × IsTold new) × GoesOn old.standing new.standing
ReadsAs view read old new (Err (Bad e)) = (IsTold old → read old.input ≡ Err e) × GoesOn old.standing new.standing
ReadsAs view read old new (Err NoMemory) = GoesOn old.standing new.standing
ReadsAs view read old new (Err Stopped) = Halts old.standing new.standing

-- the same, for bytes that fill a slice
abbrev pub Fills : {K : Type 0} → (Input → Outcome (List ℕ)) → Source K → Source K → List ℕ → Result (Unit {0}) ReadXdr → Type 0
Fills read old new bytes (Ok _) =
    (IsTold old → (read old.input ≡ Ok (bytes, new.input)) × IsTold new) × GoesOn old.standing new.standing
Fills read old new bytes (Err (Bad e)) = (IsTold old → read old.input ≡ Err e) × GoesOn old.standing new.standing
Fills read old new bytes (Err NoMemory) = GoesOn old.standing new.standing
Fills read old new bytes (Err Stopped) = Halts old.standing new.standing

-- the same, for bytes that are put behind others
abbrev pub Appends : {K : Type 0} → (Input → Outcome (List ℕ)) → Source K → Source K → List ℕ → List ℕ
    → Result (Unit {0}) ReadXdr → Type 0
Appends read old new before after (Ok _) =
    (IsTold old → (bytes : List ℕ) × (read old.input ≡ Ok (bytes, new.input)) × (after ≡ before ++ bytes) × IsTold new)
    × GoesOn old.standing new.standing
Appends read old new before after (Err (Bad e)) = (IsTold old → read old.input ≡ Err e) × GoesOn old.standing new.standing
Appends read old new before after (Err NoMemory) = GoesOn old.standing new.standing
Appends read old new before after (Err Stopped) = Halts old.standing new.standing

-- this number of values, each with a spelling
abbrev pub AllFit : {V : Type 0} → (V → Type 0) → List V → ℕ → Type 0
AllFit fits vs count = (length vs ≡ count) × AllByRecursion fits vs

-- nothing, if no byte is left
abbrev pub finish_at : Input → Outcome (Unit {0})
finish_at i = if length i.rest == 0 then Ok (tt, i) else Err (refusal i.place Trailing)

-- the value at the start of the input, if no bytes follow it
abbrev pub decoded_at : {V : Type 0} → Format V → Input → Result V XdrErr
decoded_at F i = F.read i >>= ended

-- the value or the refusal, unless memory ran out or the source stopped
abbrev pub IfDecoded : {V : Type 0} → Result V XdrErr → Result V ReadXdr → Type 0
IfDecoded d (Ok v) = d ≡ Ok v
IfDecoded d (Err (Bad e)) = d ≡ Err e
IfDecoded d (Err NoMemory) = Unit {0}
IfDecoded d (Err Stopped) = Unit {0}

-- what no call changes is the same; and if the source stopped, it counted it
abbrev pub Runs : {K V : Type 0} → Standing K → Standing K → Result V ReadXdr → Type 0
Runs old new (Ok v) = GoesOn old new
Runs old new (Err (Bad e)) = GoesOn old new
Runs old new (Err NoMemory) = GoesOn old new
Runs old new (Err Stopped) = Halts old new

-- the value is returned, unless memory ran out
abbrev pub IsValueUnlessMemory : {V : Type 0} → V → Result V ReadXdr → Type 0
IsValueUnlessMemory v (Ok w) = w ≡ v
IsValueUnlessMemory v (Err (Bad e)) = ⊥
IsValueUnlessMemory v (Err NoMemory) = Unit {0}
IsValueUnlessMemory v (Err Stopped) = ⊥

-- the error has the offset and the reason of the refusal, unless memory ran out
abbrev pub IsRefusal : {V : Type 0} → Format V → List ℕ → ReadXdr → Type 0
IsRefusal F bytes (Bad e) = Refuses F bytes e.at e.why
IsRefusal F bytes NoMemory = Unit {0}
IsRefusal F bytes Stopped = ⊥
