-- What a command leaves that stopped before it stored.
use Rattle.std.proofs.Common.{◌≡◌, ℕ, List, [], ◌∷◌, Option, Some, None, IfSome, Result, Ok, Err, inl, inr}
use Rattle.command_words.specs.declared.request.Request.{Request}
use Rattle.edge_io.specs.Contents.{Contents, FileMap}
use Rattle.command_io.specs.Counts.{HasCause, HasFaulted}
use Rattle.command_io.specs.Left.{IsNameOf, Leaves, StoresPrefix}
use Rattle.command_io.specs.Product.{File, Job, Made}
use Rattle.command_io.specs.Steps.{ReadsWords, UnlessFault}
use Rattle.command_io.specs.declared.status.Status.{Status}
use Rattle.command_io.specs.declared.status.Status.TheVariants.{Done, Fault, NoMemory, Usage}

-- a fault is of one of the files
name_of_fault : (files : List File) (name : List ℕ) (old new : ℕ → ℕ) → HasFaulted files name old new → IsNameOf files name
name_of_fault [] name old new h = h
name_of_fault (file ∷ files) name old new (inl h) = inl h.0
name_of_fault (file ∷ files) name old new (inr h) = inr (name_of_fault files name old new h)

-- none of the stores is done
prefix_none : (jobs : List Job) (old new : Contents) → new ≡ old → StoresPrefix jobs old new
prefix_none [] old new e = e
prefix_none (job ∷ jobs) old new e = inl e

leaves_all : (status : Status) (reads : List File) (outcome : Result Made Status) (old new : Contents) (counts later : ℕ → ℕ) → new ≡ old → HasCause reads counts later status → Leaves status reads outcome old new
leaves_all Done reads outcome old new counts later e cause = absurd cause
leaves_all (Fault name) reads (Ok made) old new counts later e cause = inl (name_of_fault reads name counts later cause, e)
leaves_all (Fault name) reads (Err refusal) old new counts later e cause = (name_of_fault reads name counts later cause, e)
leaves_all NoMemory reads (Ok made) old new counts later e cause = prefix_none made.stores old new e
leaves_all status reads outcome old new counts later e cause = e

-- words that are no request leave all as it was
no_request : (status : Status) (asked : Option Request) (reads : List File) (outcome : Result Made Status) (old new : Contents) → new ≡ old → ReadsWords {X = Request} (Err status) asked → Leaves status reads outcome old new
no_request Usage asked reads outcome old new e h = e
no_request NoMemory asked reads (Ok made) old new e h = prefix_none made.stores old new e
no_request NoMemory asked reads (Err refusal) old new e h = e
no_request status asked reads outcome old new e h = absurd h

pub stopped_asking : (known old new : Contents) (status : Status) (asked : Option Request) (reads : List File) (outcome : FileMap → Result Made Status) → new ≡ old → ReadsWords {X = Request} (Err status) asked → IfSome known (λ m. Leaves status reads (outcome m) old new)
stopped_asking None old new status asked reads outcome e h = tt
stopped_asking (Some m) old new status asked reads outcome e h = no_request status asked reads (outcome m) old new e h

-- a command that stopped while it read leaves all as it was
pub stopped_reading : (known old new : Contents) (status : Status) (reads : List File) (outcome : FileMap → Result Made Status) (counts later : ℕ → ℕ) → new ≡ old → HasCause reads counts later status → IfSome known (λ m. Leaves status reads (outcome m) old new)
stopped_reading None old new status reads outcome counts later e cause = tt
stopped_reading (Some m) old new status reads outcome counts later e cause = leaves_all status reads (outcome m) old new counts later e cause

second_unless_fault : (P Q : Type 0) (status : Status) → UnlessFault status (P × Q) → UnlessFault status Q
second_unless_fault P Q (Fault name) h = h
second_unless_fault P Q status h = h.1

-- the second of two facts that hold where no fault is due
pub second_where_known : (P Q : Type 0) (known : Contents) (due : FileMap → Status) → IfSome known (λ m. UnlessFault (due m) (P × Q)) → IfSome known (λ m. UnlessFault (due m) Q)
second_where_known P Q None due h = h
second_where_known P Q (Some m) due h = second_unless_fault P Q (due m) h
