-- Ranges of the linear memory (own, after CAP-0046-03). A module without a memory has 0 bytes.
use Rattle.std.specs.Prelude.{ℕ, ◌+◌, List, ◌++◌, length, take, drop, nat_le, slice_range}
use Rattle.budget_meter.specs.declared.kind.Kind.TheVariants.{MemCpy}
use Rattle.host_spec.specs.Errors.{OUTSIDE_MEMORY}
use Rattle.host_spec.specs.Acts.{Act, Good, only_where, paying}

-- an act on a range of the memory
abbrev pub in_memory : {A : Type 0} → ℕ → ℕ → Act A → Act A
in_memory from len act w = only_where (nat_le (from + len) (length w.memory)) OUTSIDE_MEMORY act w

-- the charge of a range that is copied out of the memory, and an act on its bytes
abbrev pub copied : {A : Type 0} → ℕ → ℕ → (List ℕ → Act A) → Act A
copied from len next = paying MemCpy len (λ w. next (slice_range w.memory from (from + len)) w)

-- the memory with these bytes from an index on
abbrev pub overwritten : List ℕ → ℕ → List ℕ → List ℕ
overwritten bytes from new = take from bytes ++ (new ++ drop (from + length new) bytes)

-- writes bytes and then returns
abbrev pub writes : {A : Type 0} → ℕ → List ℕ → A → Act A
writes from new a w = Good a (record w { memory = overwritten w.memory from new })
