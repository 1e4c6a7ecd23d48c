-- What the program prints, and its exit code (own).
use Rattle.std.specs.Prelude.{◌≡◌, ◌⊎◌, ℕ, List, take, Option, Some, Result, Ok, Err, IfSome, ⊤}
use Rattle.edge_io.specs.Contents.{Contents}
use Rattle.edge_io.specs.Counts.{Rose}
use Rattle.edge_io.specs.Text.{extended}
use Rattle.why_top.specs.Counts.{HasCause, files_of}
use Rattle.why_top.specs.Files.{ExplainsFiles}
use Rattle.why_top.specs.Lines.{code_of, line_of}
use Rattle.why_top.specs.Refused.{IsRefused}
use Rattle.why_top.specs.declared.error.WhyErr.{WhyErr}
use Rattle.why_top.specs.declared.error.WhyErr.TheVariants as refusals
use Rattle.why_words.specs.Answers.{ReadsRequest}
use Rattle.why_words.specs.Words.{asked_of}
use Rattle.why_words.specs.declared.request.Request.{Request}
use Rattle.why_words.specs.declared.words.NoRequest.TheVariants as no_request

-- ---- what is due

-- the words ask for a request, and this holds of it
pub record OfRequest (P : Request → Type 0) (words : List (List ℕ)) : Type 0 where
  pub request : Request
  pub asked : asked_of words ≡ Some request
  pub holds : P request

-- The words ask for a run of which these are the lines.
abbrev pub AreLines : List (List ℕ) → Contents → List ℕ → Type 0
AreLines words contents lines = OfRequest (λ request. IfSome contents (λ m. ExplainsFiles request m lines)) words

-- The words ask for a run that is refused with this error. A fault has the name of a file whose count of failed calls rose.
abbrev pub IsRefusedRun : List (List ℕ) → Contents → (ℕ → ℕ) → (ℕ → ℕ) → WhyErr → Type 0
IsRefusedRun words contents old new e =
    OfRequest (λ request. IfSome contents (λ m. IsRefused request m e) × HasCause (files_of request) old new e) words

-- the refusal of the words, or of the run that they ask for; memory may run out at any time
abbrev pub IsDueRefusal : List (List ℕ) → Contents → (ℕ → ℕ) → (ℕ → ℕ) → WhyErr → Type 0
IsDueRefusal words contents old new refusals.Usage = ReadsRequest (Err no_request.Usage) words
IsDueRefusal words contents old new (refusals.Shown text) = ReadsRequest (Err (no_request.Shown text)) words
IsDueRefusal words contents old new refusals.NoMemory = ⊤
IsDueRefusal words contents old new e = IsRefusedRun words contents old new e

-- the lines of the run that the words ask for, or a refusal, over these files, whose counts of failed calls changed so
abbrev pub IsDue : {V : Type 0} → (V → List ℕ) → List (List ℕ) → Contents → (ℕ → ℕ) → (ℕ → ℕ) → Result V WhyErr → Type 0
IsDue view words contents old new (Ok v) = AreLines words contents (view v)
IsDue view words contents old new (Err e) = IsDueRefusal words contents old new e

-- ---- what is printed

-- the bytes to print: the lines, or the line of a refusal
abbrev pub said_of : {V : Type 0} → (V → List ℕ) → Result V WhyErr → List ℕ
said_of view (Ok v) = view v
said_of view (Err e) = line_of e

-- the exit code: 0, or that of a refusal
abbrev pub code_due : {V : Type 0} → Result V WhyErr → ℕ
code_due (Ok v) = 0
code_due (Err e) = code_of e

-- The bytes are printed, and the code is the one that is due. Or a call of the output failed, which has a part of the bytes, and
-- the code is 4. Or memory ran out, nothing was printed, and the code is 5.
abbrev pub Prints : List ℕ → ℕ → ℕ → Option (List ℕ) → Option (List ℕ) → ℕ → ℕ → Type 0
Prints bytes due code old new old_faults new_faults =
    ((code ≡ due) × (new ≡ extended old bytes))
    ⊎ (((code ≡ 4) × Rose old_faults new_faults × ((n : ℕ) × (new ≡ extended old (take n bytes))))
    ⊎ ((code ≡ 5) × (new ≡ old)))

-- ---- both

-- What is due for the words is printed. The files have these contents, and their counts of failed calls were `faults`, and are
-- `faults'`. The output's text and its count were `text` and `said`, and are `text'` and `said'`.
pub record Ends (words : List (List ℕ)) (contents : Contents) (faults faults' : ℕ → ℕ) (code : ℕ) (text text' : Option (List ℕ))
    (said said' : ℕ) : Type 0 where
  pub came_to : Result (List ℕ) WhyErr
  pub due : IsDue (λ lines. lines) words contents faults faults' came_to
  pub prints : Prints (said_of (λ lines. lines) came_to) (code_due came_to) code text text' said said'
