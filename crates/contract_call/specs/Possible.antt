-- Runs of contracts' code that never come to an impossible end (core sections 3.3 and 4.4; own).
use Rattle.std.specs.Prelude.{◌≡◌, ℕ, List, [], ◌∷◌, length, Some}
use Rattle.budget_meter.specs.Meter.{Meter}
use Rattle.host_interface.specs.Rows.{Row}
use Rattle.wasm_spec.specs.declared.module.Module.{Module}
use Rattle.wasm_spec.specs.declared.values.Value.{Value}
use Rattle.wasm_spec.specs.declared.values.Value.TheVariants.{I64}
use Rattle.wasm_spec.specs.Stores.{Store}
use Rattle.wasm_spec.specs.Instances.{Ready, start_of}
use Rattle.wasm_spec.specs.Runs.{Run, Normal, Branch, Return, Trap, Spent, Stuck, Ask}
use Rattle.wasm_spec.specs.Meaning.{meaning}
use Rattle.module_spec.specs.Loading.{module_of, row_at}

-- one word of 64 bits
abbrev pub IsWord : List Value → Type 0
IsWord operands = (word : ℕ) × (operands ≡ I64 word ∷ [])

-- the import of this index is a host function
abbrev pub IsHostFunction : Module → ℕ → Type 0
IsHostFunction m index = (row : Row) × (row_at m index ≡ Some row)

-- Whatever the host answers, the run is never stuck, ends in no branch and no return, calls host functions alone, and returns one
-- word if it returns. These are all the places at which the definitions of frames have an impossible end.
abbrev pub IsPossible : Module → Run → Type 0
IsPossible m (Normal operands s) = IsWord operands
IsPossible m (Branch depth operands s) = ⊥
IsPossible m (Return operands s) = ⊥
IsPossible m (Trap kind meter) = Unit {0}
IsPossible m (Spent meter) = Unit {0}
IsPossible m Stuck = ⊥
IsPossible m (Ask index words memory meter on) =
    IsHostFunction m index × ((word : ℕ) (bytes : List ℕ) (after : Meter) → IsPossible m (on word bytes after))

-- So is every run of a function that the module of a code exports, called with as many words as it takes.
abbrev pub PossibleLaw : Type 0
PossibleLaw =
    (code : List ℕ) (m : Module) (name words : List ℕ) (index : ℕ) (store : Store) (meter : Meter)
    → module_of code ≡ Some m → start_of m name (length words) ≡ Ready index store
    → IsPossible m (meaning m index words store meter)
