-- What the body of a row does.
use Rattle.std.specs.Prelude.{ℕ, List, Result, Ok, Err}
use Rattle.budget_meter.specs.Meter.{Meter}
use Rattle.value_types.specs.Datum.{Datum}
use Rattle.value_types.specs.Views.{datum}
use Rattle.host_interface.specs.declared.kinds.ArgKind.{ArgKind}
use Rattle.host_spec.specs.declared.error.ValueErr.{ValueErr}
use Rattle.host_spec.specs.Acts.{State, state, Says}
use Rattle.host_spec.specs.Calls.{Rule, answered}
use Rattle.host_spec.specs.Answers.{Answer, value, object, raw}
use Rattle.host_frame.specs.Made.{IsAnswerMade}
use Rattle.host_frame.specs.declared.answer.Answer.{Answer as Answer'}
use Rattle.host_frame.specs.declared.answer.Answer.TheVariants as answers

abbrev pub answer_of : Answer' → Answer
answer_of (answers.Value v) = value (datum v)
answer_of (answers.Object v) = object (datum v)
answer_of (answers.Raw word) = raw word

abbrev pub IsMadeIfOk : Result Answer' ValueErr → Type 0
IsMadeIfOk (Ok a) = IsAnswerMade (answer_of a)
IsMadeIfOk (Err e) = Unit {0}

-- A body returns what the row's rule says for these words, from one state to the other.
pub record AnswersFrom (r : Result Answer' ValueErr) (ks : List ArgKind) (rule : Rule ks) (words : List ℕ)
    (w u : State) : Type 0 where
  pub does : Says r answer_of (answered ks rule words w) u
  pub made : IsMadeIfOk r

-- a body that only reads the memory
abbrev pub AnswersOver : Result Answer' ValueErr → (ks : List ArgKind) → Rule ks → List ℕ → List Datum → List ℕ → Meter → Meter
    → Type 0
AnswersOver r ks rule words shown memory old new = AnswersFrom r ks rule words (state shown memory old) (state shown memory new)

-- a body that does not use the memory
abbrev pub Answers : Result Answer' ValueErr → (ks : List ArgKind) → Rule ks → List ℕ → List Datum → Meter → Meter → Type 0
Answers r ks rule words shown old new = (memory : List ℕ) → AnswersOver r ks rule words shown memory old new

-- a body that writes to the memory
abbrev pub AnswersInto : Result Answer' ValueErr → (ks : List ArgKind) → Rule ks → List ℕ → List Datum → List ℕ → List ℕ → Meter
    → Meter → Type 0
AnswersInto r ks rule words shown memory after old new =
    AnswersFrom r ks rule words (state shown memory old) (state shown after new)
