-- Steps that may stop with a status (own).
use Rattle.std.specs.Prelude.{◌≡◌, Option, Some, None, Result, Ok, Err, ⊤}
use Rattle.command_io.specs.declared.status.Status.{Status}
use Rattle.command_io.specs.declared.status.Status.TheVariants.{Done, Fault, NoMemory, Usage}

infixl 10 ◌>>=◌
abbrev pub ◌>>=◌ : {A B : Type 0} → Result A Status → (A → Result B Status) → Result B Status
(Ok x) >>= f = f x
(Err e) >>= f = Err e

-- the status of a result: Done if it did not stop
abbrev pub status_of : {A : Type 0} → Result A Status → Status
status_of (Ok x) = Done
status_of (Err status) = status

-- the result, with its value seen by `view`
abbrev pub viewed : {X Y : Type 0} → (X → Y) → Result X Status → Result Y Status
viewed view (Ok x) = Ok (view x)
viewed view (Err status) = Err status

-- a fact, unless a call failed or memory ran out
abbrev pub UnlessFree : Status → Type 0 → Type 0
UnlessFree (Fault name) P = ⊤
UnlessFree NoMemory P = ⊤
UnlessFree status P = P

-- a fact, unless memory ran out
abbrev pub UnlessNoMemory : Status → Type 0 → Type 0
UnlessNoMemory NoMemory P = ⊤
UnlessNoMemory status P = P

-- a fact, unless the status that is due is a fault
abbrev pub UnlessFault : Status → Type 0 → Type 0
UnlessFault (Fault name) P = ⊤
UnlessFault status P = P

-- The function returned this outcome, seen by `view`, unless a call failed or memory ran out.
abbrev pub Gives : {X Y : Type 0} → (X → Y) → Result X Status → Result Y Status → Type 0
Gives view (Ok x) outcome = outcome ≡ Ok (view x)
Gives view (Err status) outcome = UnlessFree status (outcome ≡ Err status)

-- The same, unless memory ran out.
abbrev pub GivesExactly : {X Y : Type 0} → (X → Y) → Result X Status → Result Y Status → Type 0
GivesExactly view (Ok x) outcome = outcome ≡ Ok (view x)
GivesExactly view (Err status) outcome = UnlessNoMemory status (outcome ≡ Err status)

-- the request of the words was found, unless memory ran out
abbrev pub ReadsWords : {X : Type 0} → Result X Status → Option X → Type 0
ReadsWords (Ok x) asked = asked ≡ Some x
ReadsWords (Err Usage) asked = asked ≡ None
ReadsWords (Err NoMemory) asked = ⊤
ReadsWords (Err _) asked = ⊥
