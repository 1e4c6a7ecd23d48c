-- What is found in a cache (own).
use Rattle.std.specs.Prelude.{◌≡◌, ◌<◌, ℕ, List, length, slice_index_or}
use Rattle.std.specs.Ordering.{nat_cmp, is_lt}
use Rattle.std.specs.List.Sorted.{IsSortedBy}
use Rattle.std.specs.Cmp.Lexicographic.{slice_cmp}
use Rattle.value_types.specs.declared.hash.Hash.{Hash}
use Rattle.module_spec.specs.Loading.{module_of}
use Rattle.code_cache.specs.declared.cache.Code.{Code}
use Rattle.code_cache.specs.declared.cache.Got.{Got}
use Rattle.code_cache.specs.declared.cache.Got.TheVariants.{Shared, Made}

-- the hashes rise
abbrev pub AreRising : List Code → Type 0
AreRising codes = IsSortedBy (λ a b. is_lt (slice_cmp nat_cmp a.hash.0 b.hash.0)) codes

-- the code in the slot has the hash
pub record IsAt (codes : List Code) (hash : Hash) (slot : ℕ) : Type 0 where
  pub inside : slot < length codes
  pub here : (d : Code) → (slice_index_or codes slot d).hash ≡ hash

-- no code has the hash
abbrev pub HasNone : List Code → Hash → Type 0
HasNone codes hash = (slot : ℕ) (d : Code) → slot < length codes → (slice_index_or codes slot d).hash ≡ hash → ⊥

-- What is found in the slot of a code has its bytes. If it was made for the call, what the cell has is of other bytes.
abbrev pub IsFound : List ℕ → Got → Type 0
IsFound code (Shared loaded) = loaded.now.code ≡ code
IsFound code (Made mine other) = (mine.code ≡ code) × ((other.now.code ≡ code) → ⊥)

-- It has the valid, linked module that the code's bytes encode, or none if they encode none.
abbrev pub IsMeant : List ℕ → Got → Type 0
IsMeant code (Shared loaded) = module_of code ≡ loaded.now.module
IsMeant code (Made mine other) = module_of code ≡ mine.module
