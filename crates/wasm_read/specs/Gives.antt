-- Results of the reader's functions. The contract of read_module cites IsUnlessMemory alone. The contracts of its parts cite the
-- others.
use Rattle.std.specs.Prelude.{◌≡◌, ℕ, List, [], ◌∷◌, Option, Some, None, Result, Ok, Err}
use Rattle.wasm_read.specs.declared.error.ReadModErr.{ReadModErr}
use Rattle.wasm_read.specs.declared.error.ReadModErr.TheVariants.{NotAModule, NoMemory}
use Rattle.wasm_read.specs.Reading.{Reader}

-- Ok: the reading function returns the value, and the new bytes are those after it. NotAModule: it returns None. Out of memory
-- may come with any bytes.
abbrev pub Gives : {A : Type 0} → Reader A → List ℕ → List ℕ → Result A ReadModErr → Type 0
Gives read old new (Ok x) = read old ≡ Some (x, new)
Gives read old new (Err NotAModule) = read old ≡ None
Gives read old new (Err NoMemory) = Unit {0}

-- the same, for a part that has no value
abbrev pub Skips : (List ℕ → Option (List ℕ)) → List ℕ → List ℕ → Result (Unit {0}) ReadModErr → Type 0
Skips read old new (Ok u) = read old ≡ Some new
Skips read old new (Err NotAModule) = read old ≡ None
Skips read old new (Err NoMemory) = Unit {0}

-- this value, or NotAModule for None, unless out of memory
abbrev pub Is : {A : Type 0} → Option A → Result A ReadModErr → Type 0
Is o (Ok x) = o ≡ Some x
Is o (Err NotAModule) = o ≡ None
Is o (Err NoMemory) = Unit {0}

-- the value, unless out of memory
abbrev pub IsUnlessMemory : {A : Type 0} → A → Result A ReadModErr → Type 0
IsUnlessMemory x (Ok y) = y ≡ x
IsUnlessMemory x (Err NotAModule) = ⊥
IsUnlessMemory x (Err NoMemory) = Unit {0}

-- Gives, through a view of the value
abbrev pub GivesAs : {W A : Type 0} → (W → A) → Reader A → List ℕ → List ℕ → Result W ReadModErr → Type 0
GivesAs view read old new (Ok x) = read old ≡ Some (view x, new)
GivesAs view read old new (Err NotAModule) = read old ≡ None
GivesAs view read old new (Err NoMemory) = Unit {0}

-- Ok if no bytes are left, else NotAModule
abbrev pub Ends : List ℕ → Result (Unit {0}) ReadModErr → Type 0
Ends [] (Ok u) = Unit {0}
Ends (b ∷ bs) (Ok u) = ⊥
Ends [] (Err e) = ⊥
Ends (b ∷ bs) (Err NotAModule) = Unit {0}
Ends (b ∷ bs) (Err NoMemory) = ⊥

-- Is, through a view of the value
abbrev pub IsAs : {W A : Type 0} → (W → A) → Option A → Result W ReadModErr → Type 0
IsAs view o (Ok x) = o ≡ Some (view x)
IsAs view o (Err NotAModule) = o ≡ None
IsAs view o (Err NoMemory) = Unit {0}
