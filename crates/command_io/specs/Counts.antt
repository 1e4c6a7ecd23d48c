-- Counts of failed calls as causes of statuses (own).
use Rattle.std.specs.Prelude.{◌≡◌, ◌⊎◌, ℕ, ◌≤◌, List, [], ◌∷◌, ⊤}
use Rattle.std.specs.List.{AllByRecursion}
use Rattle.edge_io.specs.Counts.{Rose}
use Rattle.command_io.specs.Product.{File}
use Rattle.command_io.specs.declared.status.Status.{Status}
use Rattle.command_io.specs.declared.status.Status.TheVariants.{Done, Usage, Fault, Ledger, Verdicts, Malformed, NotBase64}
use Rattle.command_io.specs.declared.status.Status.TheVariants.{Conflict, Schedule, Incomplete, Unfit, NotAModule, Ill, Unlinked}
use Rattle.command_io.specs.declared.status.Status.TheVariants.{NoMemory}

abbrev pub NoLower : (ℕ → ℕ) → (ℕ → ℕ) → Type 0
NoLower old new = (option : ℕ) → old option ≤ new option

abbrev pub SameCounts : (ℕ → ℕ) → (ℕ → ℕ) → Type 0
SameCounts old new = (option : ℕ) → new option ≡ old option

-- the count of a file of this name rose
abbrev pub HasFaulted : List File → List ℕ → (ℕ → ℕ) → (ℕ → ℕ) → Type 0
HasFaulted [] name old new = ⊥
HasFaulted (file ∷ files) name old new =
    ((file.name ≡ name) × Rose (old file.option) (new file.option)) ⊎ HasFaulted files name old new

-- a fault has its cause
abbrev pub FaultHasCause : List File → (ℕ → ℕ) → (ℕ → ℕ) → Status → Type 0
FaultHasCause files old new (Fault name) = HasFaulted files name old new
FaultHasCause files old new _ = ⊤

-- the status of a function over these files that stopped: not Usage, and a fault has its cause
abbrev pub HasCause : List File → (ℕ → ℕ) → (ℕ → ℕ) → Status → Type 0
HasCause files old new Done = ⊥
HasCause files old new Usage = ⊥
HasCause files old new status = FaultHasCause files old new status

-- the status of a function that only computes and stopped: its input is refused, or memory ran out
abbrev pub IsOfBytes : Status → Type 0
IsOfBytes (Ledger why at) = ⊤
IsOfBytes (Verdicts at) = ⊤
IsOfBytes (Malformed at why) = ⊤
IsOfBytes (NotBase64 name) = ⊤
IsOfBytes (Conflict stage a b key) = ⊤
IsOfBytes (Schedule at) = ⊤
IsOfBytes (Incomplete stage) = ⊤
IsOfBytes (Unfit at) = ⊤
IsOfBytes NotAModule = ⊤
IsOfBytes (Ill func) = ⊤
IsOfBytes (Unlinked k) = ⊤
IsOfBytes NoMemory = ⊤
IsOfBytes _ = ⊥

-- the cause of any status: a fault has the name of a file whose count rose, or the empty name if the output's count rose
abbrev pub HasCauseFor : List File → (ℕ → ℕ) → (ℕ → ℕ) → ℕ → ℕ → Status → Type 0
HasCauseFor files old new said_old said_new (Fault name) = HasFaulted files name old new ⊎ ((name ≡ []) × Rose said_old said_new)
HasCauseFor files old new said_old said_new _ = ⊤

-- no count of these files rose, nor the output's
abbrev pub NoneRose : List File → (ℕ → ℕ) → (ℕ → ℕ) → ℕ → ℕ → Type 0
NoneRose files old new said_old said_new =
    AllByRecursion (λ (file : File). ¬ Rose (old file.option) (new file.option)) files × (¬ Rose said_old said_new)
