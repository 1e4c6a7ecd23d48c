-- A disk as the store of one file meets it: the file at a name, a file beside it in the same folder, and what a crash may leave
-- at the name (own). A crash is that of the process or of the machine.
use Rattle.std.specs.Prelude.{◌≡◌, ◌⊎◌, ℕ, ◌+◌, ◌<◌, ◌≤◌, List, [], ◌∷◌, ◌++◌, All, Bool, true, false, IsTrue, Result, Ok, Err}
use Rattle.std.specs.Prelude.{Option, Some, None, option_map, IfSome, IsSomeAnd}

-- a file: the bytes that a reader finds, and whether the disk holds them; a crash may leave any bytes in a file that isn't synced
pub record File : Type 0 where
  pub bytes : List ℕ
  pub synced : Bool

-- the folder at one moment
pub record Folder : Type 0 where
  -- the file at the name
  pub named : Option File
  -- the file beside it
  pub beside : Option File
  -- what was at the name since the folder was synced: a crash may bring each of it back
  pub earlier : List (Option File)
  -- the number of calls that failed
  pub failures : ℕ

-- the folder now and at each moment before, the newest first
pub record Trace : Type 0 where
  pub now : Folder
  pub past : List Folder

abbrev pub moments : Trace → List Folder
moments t = t.now ∷ t.past

-- what a reader finds at the name
abbrev pub seen : Folder → Option (List ℕ)
seen f = option_map (λ (file : File). file.bytes) f.named

-- a crash may leave this of a file
abbrev pub Leaves : Option File → Option (List ℕ) → Type 0
Leaves None left = left ≡ None
Leaves (Some file) left = IsSomeAnd left (λ bytes. IsTrue file.synced → bytes ≡ file.bytes)

-- a crash may leave this of one of these files
abbrev pub OneLeaves : List (Option File) → Option (List ℕ) → Type 0
OneLeaves [] left = ⊥
OneLeaves (file ∷ files) left = Leaves file left ⊎ OneLeaves files left

-- a crash at this moment may leave this at the name
abbrev pub MayLeave : Folder → Option (List ℕ) → Type 0
MayLeave f left = OneLeaves (f.named ∷ f.earlier) left

-- the steps of a store

abbrev pub with_beside : Option File → Folder → Folder
with_beside file f = record { named = f.named; beside = file; earlier = f.earlier; failures = f.failures }

-- a new file without bytes stands beside the name
abbrev pub created : Folder → Folder
created f = with_beside (Some (record { bytes = []; synced = false })) f

-- the file beside has these bytes
abbrev pub written : List ℕ → Folder → Folder
written bytes f = with_beside (Some (record { bytes = bytes; synced = false })) f

-- the disk holds the file beside
abbrev pub synced : Folder → Folder
synced f = with_beside (option_map (λ (file : File). record { bytes = file.bytes; synced = true }) f.beside) f

-- the file beside is at the name; until the folder is synced, a crash may bring back what was there
abbrev pub renamed : Folder → Folder
renamed f = record { named = f.beside; beside = None; earlier = f.named ∷ f.earlier; failures = f.failures }

-- the disk holds the names
abbrev pub folder_synced : Folder → Folder
folder_synced f = record { named = f.named; beside = f.beside; earlier = []; failures = f.failures }

-- no file is beside
abbrev pub removed : Folder → Folder
removed f = with_beside None f

-- one more call has failed
abbrev pub failing : Folder → Folder
failing f = record { named = f.named; beside = f.beside; earlier = f.earlier; failures = f.failures + 1 }

-- the next moment
abbrev pub after : (Folder → Folder) → Option Trace → Option Trace
after step trace = option_map (λ (t : Trace). record { now = step t.now; past = moments t }) trace

-- a call on the file beside takes this step; a call that fails may leave anything beside
abbrev pub Touches : {T E : Type 0} → Result T E → (Folder → Folder) → Option Trace → Option Trace → Type 0
Touches (Ok x) step old new = new ≡ after step old
Touches (Err e) step old new = (file : Option File) × (new ≡ after (λ f. failing (with_beside file f)) old)

-- a call takes this step; one that fails may have taken it
abbrev pub Takes : {T E : Type 0} → Result T E → (Folder → Folder) → Option Trace → Option Trace → Type 0
Takes (Ok x) step old new = new ≡ after step old
Takes (Err e) step old new = (new ≡ after failing old) ⊎ (new ≡ after (λ f. failing (step f)) old)

-- The name is whole: a reader finds there what he found at the start or all of the bytes, and a crash leaves there what a crash
-- at the start might have left or all of the bytes.
pub record IsWhole (bytes : List ℕ) (start f : Folder) : Type 0 where
  pub reader : (seen f ≡ seen start) ⊎ (seen f ≡ Some bytes)
  pub crash : (left : Option (List ℕ)) → MayLeave f left → MayLeave start left ⊎ (left ≡ Some bytes)

-- the name is whole at each moment since the start, up to now, and no fewer calls have failed
pub record WholeSince (bytes : List ℕ) (start t : Trace) : Type 0 where
  pub now : IsWhole bytes start.now t.now
  pub since : List Folder
  pub added : moments t ≡ since ++ moments start
  pub each : All (IsWhole bytes start.now) since
  pub no_fewer : start.now.failures ≤ t.now.failures

-- the same of a disk that tells
abbrev pub StaysWhole : List ℕ → Option Trace → Option Trace → Type 0
StaysWhole bytes old new = IfSome old (λ start. IsSomeAnd new (λ t. WholeSince bytes start t))

-- a call on the disk has failed, if the disk tells
abbrev pub FailedMore : Option Trace → Option Trace → Type 0
FailedMore old new = IfSome old (λ start. IsSomeAnd new (λ t. start.now.failures < t.now.failures))

-- the name holds the bytes, and so it does after a crash
pub record IsStored (bytes : List ℕ) (f : Folder) : Type 0 where
  pub reader : seen f ≡ Some bytes
  pub crash : (left : Option (List ℕ)) → MayLeave f left → left ≡ Some bytes

-- the file at the name has the bytes, and the disk holds them
abbrev pub HoldsSynced : List ℕ → Folder → Type 0
HoldsSynced bytes f = f.named ≡ Some (record { bytes = bytes; synced = true })
