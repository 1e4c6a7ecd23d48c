-- What a storage knows of the accesses of a run.
use Rattle.std.specs.Prelude.{◌≡◌, ℕ, Bool, List, [], ◌∷◌, Option, None}
use Rattle.ledger_types.specs.declared.key.LedgerKey.{LedgerKey}
use Rattle.contract_storage.specs.Stored.{Stored}
use Rattle.contract_storage.specs.Touched.{Known, touch, noted}
use Rattle.contract_storage.specs.Watched.{unseen}
use Rattle.contract_storage.specs.declared.access.Access.{Access as Access'}
use Rattle.contract_storage.specs.declared.access.Access.TheVariants as kinds
use Rattle.contract_storage.specs.declared.touched.Touch.{Touch}
use Rattle.call_spec.specs.World.{AccessKind, Read, Extend, Write, Access, World}
use Rattle.call_spec.specs.Outcomes.{Leaves}

-- how the storage names a kind of access
abbrev pub kind_of : AccessKind → Access'
kind_of Read = kinds.Read
kind_of Extend = kinds.Extend
kind_of Write = kinds.Write

-- the touched keys of these accesses, as a storage records them; a trace has its newest access first
abbrev pub touches_of : List Access → List Touch
touches_of [] = []
touches_of (a ∷ older) = touch (kind_of a.kind) a.key (touches_of older)

-- What a storage with these declared keys knows of these accesses: the touched keys, if it records, and what its observer has
-- seen, whose limit is given.
abbrev pub known_of : Option (List (LedgerKey × Bool)) → ℕ → List Access → Known
known_of declared limit [] = record { keys = []; seen = unseen limit }
known_of declared limit (a ∷ older) = noted declared (kind_of a.kind) a.key (known_of declared limit older)

-- the storage knows these accesses
abbrev pub IsTold : Stored → List Access → Type 0
IsTold s trace = s.touched ≡ known_of s.declared s.touched.seen.limit trace

-- the same of a storage that records
abbrev pub IsRecorded : Stored → List Access → Type 0
IsRecorded s trace = s.touched ≡ known_of None s.touched.seen.limit trace

-- If the storage knows the accesses before an act, it knows those after it.
abbrev pub Tells : Stored → Stored → List Access → List Access → Type 0
Tells old new before after = IsTold old before → IsTold new after

-- what an act leaves in a world with these accesses, while the storage changes
abbrev pub leaving : Stored → Stored → List Access → (List Access → World) → Leaves
leaving old new before world = record { world = world; told = Tells old new before }
