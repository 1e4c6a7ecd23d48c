-- Results of the functions that read code. Their contracts cite this page.
use Rattle.std.specs.Prelude.{◌≡◌, ◌≢◌, ℕ, ◌<◌, ◌≤◌, List, [], ◌∷◌, length, Option, Some, None, Result, Ok, Err}
use Rattle.wasm_spec.specs.declared.instructions.Instr.{Instr}
use Rattle.wasm_spec.specs.Views.{before}
use Rattle.wasm_spec.specs.Typing.{◌>>=◌}
use Rattle.wasm_read.specs.declared.error.ReadModErr.{ReadModErr}
use Rattle.wasm_read.specs.declared.error.ReadModErr.TheVariants.{NotAModule, NoMemory}
use Rattle.wasm_read.specs.declared.head.Head.TheVariants.{End}
use Rattle.wasm_read.specs.Reading.{Reader, head_of, tail_at, code_at}

-- the result of a reading function for every bound n on the instructions that exceeds the number of bytes
abbrev pub ReadsWith : {A : Type 0} → (ℕ → Reader A) → List ℕ → List ℕ → Result A ReadModErr → Type 0
ReadsWith read old new (Ok x) = (n : ℕ) → length old < n → read n old ≡ Some (x, new)
ReadsWith read old new (Err NotAModule) = (n : ℕ) → length old < n → read n old ≡ None
ReadsWith read old new (Err NoMemory) = Unit {0}

-- an opcode, or None if the next byte ends the instructions
abbrev pub ReadsOpcode : List ℕ → List ℕ → Result (Option ℕ) ReadModErr → Type 0
ReadsOpcode old new (Ok None) = (b : ℕ) × (bs : List ℕ) × (old ≡ b ∷ bs) × (head_of b ≡ End) × (new ≡ old)
ReadsOpcode old new (Ok (Some b)) = (old ≡ b ∷ new) × (head_of b ≢ End)
ReadsOpcode old new (Err NotAModule) = old ≡ []
ReadsOpcode old new (Err NoMemory) = Unit {0}

-- the rest of one instruction after its opcode
abbrev pub ReadsInstr : ℕ → ℕ → List ℕ → List ℕ → Result Instr ReadModErr → Type 0
ReadsInstr d b old new (Ok i) =
    (length new ≤ length old)
    × ((n : ℕ) → length old < n → tail_at (code_at n) d (head_of b) b old ≡ (code_at n d new >>= λ r. Some (before i r.0, r.1)))
ReadsInstr d b old new (Err NotAModule) = (n : ℕ) → length old < n → tail_at (code_at n) d (head_of b) b old ≡ None
ReadsInstr d b old new (Err NoMemory) = Unit {0}
