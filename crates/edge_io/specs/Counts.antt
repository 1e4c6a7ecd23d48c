-- How the counts of failed calls change (own).
use Rattle.std.specs.Prelude.{◌≡◌, ◌≢◌, ℕ, ◌+◌, ◌-◌, ◌^◌, ◌≤◌, min, Result, Ok, Err, ⊤}
use Rattle.edge_io.specs.declared.failed.EdgeErr.{EdgeErr}
use Rattle.edge_io.specs.declared.failed.EdgeErr.TheVariants.{Failed, NoMemory}

-- the count after one more failure: it stays at 2^64 - 1
abbrev pub raised : ℕ → ℕ
raised n = min (n + 1) (2 ^ 64 - 1)

-- the count is higher, or at 2^64 - 1
abbrev pub Rose : ℕ → ℕ → Type 0
Rose old new = raised old ≤ new

-- the file's count is no lower, and those of other files are as before
pub record ChangesOnlyCount (file : ℕ) (old new : ℕ → ℕ) : Type 0 where
  pub no_lower : old file ≤ new file
  pub others : (k : ℕ) → k ≢ file → new k ≡ old k

-- the file's count is raised by one failure, and those of other files are as before
pub record RaisesOnly (file : ℕ) (old new : ℕ → ℕ) : Type 0 where
  pub risen : new file ≡ raised (old file)
  pub others : (k : ℕ) → k ≢ file → new k ≡ old k

-- a fact of a call that returned Failed
abbrev pub OnFailed : {T : Type 0} → Result T EdgeErr → Type 0 → Type 0
OnFailed (Ok x) P = ⊤
OnFailed (Err Failed) P = P
OnFailed (Err NoMemory) P = ⊤

-- a fact of a call that did not return Failed
abbrev pub UnlessFailed : {T : Type 0} → Result T EdgeErr → Type 0 → Type 0
UnlessFailed (Ok x) P = P
UnlessFailed (Err Failed) P = ⊤
UnlessFailed (Err NoMemory) P = P
