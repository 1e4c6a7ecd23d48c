-- The shape of all host functions that act on the world: the arguments from left to right, the charges of the call, the
-- function's own rule, its result (own).
use Rattle.std.specs.Prelude.{ℕ, List, [], ◌∷◌, Result, Ok, Err}
use Rattle.host_interface.specs.declared.kinds.ArgKind.{ArgKind}
use Rattle.value_types.specs.Datum.{Datum, void}
use Rattle.value_types.specs.declared.error.ScError.{ScError}
use Rattle.host_spec.specs.Errors.{INVALID_VALUE}
use Rattle.host_spec.specs.Arguments.{Means, argument, dispatched, tagged_words}
use Rattle.host_spec.specs.Answers.{Answer, value, given}
use Rattle.host_spec.specs.Calls.{with_argument}
use Rattle.call_spec.specs.Acts.{Act, after, gives, fails, with_frame, lift}

-- what a function does with arguments of these kinds
abbrev pub Rule : List ArgKind → Type 0
Rule [] = Act Answer
Rule (k ∷ ks) = Means k → Rule ks

-- the rule with the arguments that the words mean, or the error of the first word that means none; a call has a word for each
-- argument
abbrev pub applied : (ks : List ArgKind) → Rule ks → List ℕ → List Datum → Result (Act Answer) ScError
applied [] rule words shown = Ok rule
applied (k ∷ ks) rule [] shown = Err INVALID_VALUE
applied (k ∷ ks) rule (word ∷ words) shown = with_argument (argument k shown word) (λ a. applied ks (rule a) words shown)

abbrev pub charged_then : Act (Unit {0}) → Result (Act Answer) ScError → Act Answer
charged_then charges (Err e) = fails e
charged_then charges (Ok rule) = after charges (λ _. rule)

-- what a function returns
abbrev pub answered : (ks : List ArgKind) → Rule ks → List ℕ → Act Answer
answered ks rule words =
    with_frame (λ frame. charged_then (lift (dispatched (tagged_words ks words))) (applied ks rule words frame.shown))

-- the whole call
abbrev pub call_of : (ks : List ArgKind) → Rule ks → List ℕ → Act ℕ
call_of ks rule words = after (answered ks rule words) (λ answer. lift (given answer))

-- ---- results

-- returns Void
abbrev pub nothing : Answer
nothing = value void

-- an act that returns its value
abbrev pub returning : {A : Type 0} → Act A → (A → Datum) → Act Answer
returning act view = after act (λ a. gives (value (view a)))
