-- A set that is read in pieces is the set of the whole file.
use Rattle.std.proofs.Common.{◌≡◌, ℕ, ◌^◌, Bool, true, false, eqb, List, [], ◌∷◌, length, Option, Some, None, Result, Ok, Err, IfOk, IfErr, IfSome, IsSome, inl, refl, ap, ◌∙◌, sym}
use Rattle.std.proofs.lemmas.Bool.{lt-ltb, le-ltb, eqb-true, eqb-false}
use Rattle.std.specs.FinMap.{get}
use Rattle.edge_io.specs.Contents.{Contents, IsThere}
use Rattle.edge_io.specs.Counts.{ChangesOnlyCount, Rose}
use Rattle.file_pour.specs.Reading.{OnFault, ReadsFile}
use Rattle.file_pour.specs.declared.error.PouredErr.{PouredErr}
use Rattle.file_pour.specs.declared.error.PouredErr.TheVariants as poured
use Rattle.tx_xdr.specs.Set.{set_format}
use Rattle.tx_xdr.specs.declared.set.TxSet.{TxSet}
use Rattle.command_io.specs.Counts.{HasCause, SameCounts}
use Rattle.command_io.specs.Inputs.{bytes_of, set_at, set_in, set_opened}
use Rattle.command_io.specs.Pieces.{as_poured}
use Rattle.command_io.specs.Product.{File}
use Rattle.command_io.specs.Steps.{◌>>=◌, Gives, GivesExactly, UnlessFault, status_of}
use Rattle.command_io.specs.declared.status.Status.{Status}
use Rattle.command_io.specs.declared.status.Status.TheVariants as status

-- the set of a file, if it exists and is not too long
abbrev pub set_of : Option (List ℕ) → List ℕ → Result TxSet Status
set_of there name = bytes_of there name >>= λ bytes. set_opened false name bytes

found : (there : Option (List ℕ)) (name : List ℕ) (r : Result TxSet PouredErr) → ReadsFile set_format r there → Gives (λ s. s) (as_poured name r) (set_of there name)
unfolding set_in
found None name (Ok set) h = absurd h
found (Some bytes) name (Ok set) h = rw (le-ltb (2 ^ 30) (length bytes) h.0, h.1) refl
found there name (Err poured.Fault) h = tt
found None name (Err poured.TooLong) h = absurd h
found (Some bytes) name (Err poured.TooLong) h = rw (lt-ltb (2 ^ 30) (length bytes) h) refl
found None name (Err (poured.Bad e)) h = absurd h
found (Some bytes) name (Err (poured.Bad e)) h = rw (le-ltb (2 ^ 30) (length bytes) h.0, h.1) refl
found there name (Err poured.NoMemory) h = tt

-- what is returned is what is due, unless a call failed or memory ran out
pub due : (files : Contents) (name : List ℕ) (r : Result TxSet PouredErr) → IfSome files (λ m. ReadsFile set_format r (get m name))
    → IfSome files (λ m. Gives (λ s. s) (as_poured name r) (set_at m false name))
due None name r h = tt
due (Some m) name r h = found (get m name) name r h

exactly : (there : Option (List ℕ)) (name : List ℕ) (r : Result TxSet PouredErr) → (IsSome there → OnFault r ⊥) → Gives (λ s. s) (as_poured name r) (set_of there name)
    → GivesExactly (λ s. s) (as_poured name r) (set_of there name)
exactly there name (Ok set) calm h = h
exactly None name (Err poured.Fault) calm h = refl
exactly (Some bytes) name (Err poured.Fault) calm h = absurd (calm refl)
exactly there name (Err poured.TooLong) calm h = h
exactly there name (Err (poured.Bad e)) calm h = h
exactly there name (Err poured.NoMemory) calm h = tt

-- the same of steady files, unless memory ran out
pub due_exactly : (files : Contents) (name : List ℕ) (r : Result TxSet PouredErr) → (IsThere files name → OnFault r ⊥) → IfSome files (λ m. ReadsFile set_format r (get m name))
    → IfSome files (λ m. GivesExactly (λ s. s) (as_poured name r) (set_at m false name))
due_exactly None name r calm h = tt
due_exactly (Some m) name r calm h = exactly (get m name) name r calm (found (get m name) name r h)

unless : (s : Status) (P : Type 0) → P → UnlessFault s P
unless (status.Fault name) P p = tt
unless s P p = p

left : (there : Option (List ℕ)) (name : List ℕ) (P : Type 0) → (IsSome there → P) → UnlessFault (status_of (set_of there name)) P
left None name P h = tt
left (Some bytes) name P h = unless (status_of (set_of (Some bytes) name)) P (h refl)

-- a fact that is so if the file exists
pub unless_missing : (files : Contents) (name : List ℕ) (P : Type 0) → (IsThere files name → P) → IfSome files (λ m. UnlessFault (status_of (set_at m false name)) P)
unless_missing None name P h = tt
unless_missing (Some m) name P h = left (get m name) name P h

-- no count rose
pub same_counts : (option : ℕ) (f g : ℕ → ℕ) → ChangesOnlyCount option f g → g option ≡ f option → SameCounts f g
same_counts option f g counts same k = go (eqb k option) refl
  where
    go : (b : Bool) → eqb k option ≡ b → g k ≡ f k
    go true e = let is : k ≡ option = eqb-true k option e in ap g is ∙ same ∙ ap f (sym is)
    go false e = counts.others k (eqb-false k option e)

-- a set that is returned has a spelling
pub fits : (name : List ℕ) (r : Result TxSet PouredErr) → IfOk r set_format.fits → IfOk (as_poured name r) set_format.fits
fits name (Ok set) h = h
fits name (Err poured.Fault) h = tt
fits name (Err poured.TooLong) h = tt
fits name (Err (poured.Bad e)) h = tt
fits name (Err poured.NoMemory) h = tt

-- a fault has its cause
pub caused : (file : File) (f g : ℕ → ℕ) (r : Result TxSet PouredErr) → OnFault r (Rose (f file.option) (g file.option)) → IfErr (as_poured file.name r) (HasCause (file ∷ []) f g)
caused file f g (Ok set) h = tt
caused file f g (Err poured.Fault) h = inl (refl, h)
caused file f g (Err poured.TooLong) h = tt
caused file f g (Err (poured.Bad e)) h = tt
caused file f g (Err poured.NoMemory) h = tt
