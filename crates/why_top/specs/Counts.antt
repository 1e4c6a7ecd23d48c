-- Counts of failed calls as causes of refusals, and files on which no call fails (own).
use Rattle.std.specs.Prelude.{◌≡◌, ◌⊎◌, ℕ, ◌≤◌, List, [], ◌∷◌, Option, Some, None, ⊤}
use Rattle.edge_io.specs.Contents.{Contents, IsThere}
use Rattle.edge_io.specs.Counts.{Rose}
use Rattle.why_top.specs.declared.error.WhyErr.{WhyErr}
use Rattle.why_top.specs.declared.error.WhyErr.TheVariants as refusals
use Rattle.why_words.specs.declared.request.Request.{Request}
use Rattle.why_words.specs.declared.request.Target.{Target}
use Rattle.why_words.specs.declared.request.Target.TheVariants as targets
use Rattle.why_words.specs.Words.{asked_of}

-- a file option by its number, and the name given for it
pub record File : Type 0 where
  pub option : ℕ
  pub name : List ℕ

abbrev pub file : ℕ → List ℕ → File
file option name = record { option = option; name = name }

-- the option of the file that has the envelope or the set
abbrev pub option_of : Target → ℕ
option_of targets.Envelope = 0
option_of (targets.InSet place) = 3

-- the files that are read, in order
abbrev pub files_of : Request → List File
files_of request =
    file 1 request.ledger ∷ file 2 request.verdicts ∷ file (option_of request.target) request.file ∷ []

abbrev pub NoLower : (ℕ → ℕ) → (ℕ → ℕ) → Type 0
NoLower old new = (option : ℕ) → old option ≤ new option

abbrev pub SameCounts : (ℕ → ℕ) → (ℕ → ℕ) → Type 0
SameCounts old new = (option : ℕ) → new option ≡ old option

-- the count of a file of this name rose
abbrev pub HasFaulted : List File → List ℕ → (ℕ → ℕ) → (ℕ → ℕ) → Type 0
HasFaulted [] name old new = ⊥
HasFaulted (file ∷ files) name old new =
    ((file.name ≡ name) × Rose (old file.option) (new file.option)) ⊎ HasFaulted files name old new

-- The refusal of a function over these files: not of words, and a fault has the name of a file whose count rose.
abbrev pub HasCause : List File → (ℕ → ℕ) → (ℕ → ℕ) → WhyErr → Type 0
HasCause files old new refusals.Usage = ⊥
HasCause files old new (refusals.Shown text) = ⊥
HasCause files old new (refusals.Fault name) = HasFaulted files name old new
HasCause files old new _ = ⊤

-- no call on a file failed
abbrev pub IsNoFault : WhyErr → Type 0
IsNoFault (refusals.Fault name) = ⊥
IsNoFault _ = ⊤

-- the files are there
abbrev pub AreThere : Contents → List File → Type 0
AreThere contents [] = ⊤
AreThere contents (file ∷ files) = IsThere contents file.name × AreThere contents files

-- the files of a request are there, if there is one
abbrev pub AreThereFor : Option Request → Contents → Type 0
AreThereFor None contents = ⊤
AreThereFor (Some request) contents = AreThere contents (files_of request)

-- the files that these words ask for are there
abbrev pub AreAllThere : List (List ℕ) → Contents → Type 0
AreAllThere words contents = AreThereFor (asked_of words) contents

-- the refusal of a function that only computes
abbrev pub IsOfBytes : WhyErr → Type 0
IsOfBytes refusals.Usage = ⊥
IsOfBytes (refusals.Shown text) = ⊥
IsOfBytes (refusals.Fault name) = ⊥
IsOfBytes (refusals.TooLong name) = ⊥
IsOfBytes _ = ⊤
