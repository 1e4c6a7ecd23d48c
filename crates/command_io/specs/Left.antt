-- The files after a command (own).
use Rattle.std.specs.Prelude.{◌≡◌, ◌⊎◌, ℕ, List, [], ◌∷◌, Result, Ok, Err, ⊤}
use Rattle.edge_io.specs.Contents.{Contents, put, Tears}
use Rattle.command_io.specs.Product.{File, Job, Made}
use Rattle.command_io.specs.declared.status.Status.{Status}
use Rattle.command_io.specs.declared.status.Status.TheVariants.{Done, Fault, NoMemory}

-- the files after all stores
abbrev pub stored : List Job → Contents → Contents
stored [] contents = contents
stored (job ∷ jobs) contents = stored jobs (put contents job.file.name job.bytes)

-- a prefix of the stores is done, and no more
abbrev pub StoresPrefix : List Job → Contents → Contents → Type 0
StoresPrefix [] old new = new ≡ old
StoresPrefix (job ∷ jobs) old new = (new ≡ old) ⊎ StoresPrefix jobs (put old job.file.name job.bytes) new

-- a prefix of the stores is done, and the next store, of this name, not at all or in part
abbrev pub StoresTorn : List ℕ → List Job → Contents → Contents → Type 0
StoresTorn name [] old new = ⊥
StoresTorn name (job ∷ jobs) old new =
    ((job.file.name ≡ name) × Tears name job.bytes old new) ⊎ StoresTorn name jobs (put old job.file.name job.bytes) new

-- the files after the stores, by their status
abbrev pub StoresAll : Status → List Job → Contents → Contents → Type 0
StoresAll Done jobs old new = new ≡ stored jobs old
StoresAll (Fault name) jobs old new = StoresTorn name jobs old new
StoresAll NoMemory jobs old new = StoresPrefix jobs old new
StoresAll _ jobs old new = ⊥

-- one of these files has the name
abbrev pub IsNameOf : List File → List ℕ → Type 0
IsNameOf [] name = ⊥
IsNameOf (file ∷ files) name = (file.name ≡ name) ⊎ IsNameOf files name

-- The files after a command that came to a status, before its lines are printed. It reads the files of the list, and this is its
-- outcome for them.
abbrev pub Leaves : Status → List File → Result Made Status → Contents → Contents → Type 0
Leaves Done reads (Ok made) old new = new ≡ stored made.stores old
Leaves (Fault name) reads (Ok made) old new = (IsNameOf reads name × (new ≡ old)) ⊎ StoresTorn name made.stores old new
Leaves (Fault name) reads (Err refusal) old new = IsNameOf reads name × (new ≡ old)
Leaves NoMemory reads (Ok made) old new = StoresPrefix made.stores old new
Leaves status reads outcome old new = new ≡ old

-- a fact of a command whose words or input were refused
abbrev pub OnRefused : Status → Type 0 → Type 0
OnRefused Done P = ⊤
OnRefused (Fault name) P = ⊤
OnRefused NoMemory P = ⊤
OnRefused status P = P
