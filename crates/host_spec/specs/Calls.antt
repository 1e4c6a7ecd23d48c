-- The one shape of all functions over values: the arguments from left to right, the charges of the call, the function's own rule,
-- its result (own).
use Rattle.std.specs.Prelude.{ℕ, List, [], ◌∷◌, Result, Ok, Err}
use Rattle.host_interface.specs.declared.kinds.ArgKind.{ArgKind}
use Rattle.value_types.specs.Datum.{Datum}
use Rattle.value_types.specs.declared.error.ScError.{ScError}
use Rattle.host_spec.specs.Errors.{INVALID_VALUE}
use Rattle.host_spec.specs.Acts.{Act, then_do, fails}
use Rattle.host_spec.specs.Arguments.{Means, argument, dispatched, tagged_words}
use Rattle.host_spec.specs.Answers.{Answer, given}

-- what a function does with arguments of these kinds
abbrev pub Rule : List ArgKind → Type 0
Rule [] = Act Answer
Rule (k ∷ ks) = Means k → Rule ks

abbrev pub with_argument : {A B : Type 0} → Result A ScError → (A → Result B ScError) → Result B ScError
with_argument (Ok a) next = next a
with_argument (Err e) next = Err e

-- the rule with the arguments that the words mean, or the error of the first word that means none; a call has a word for each
-- argument
abbrev pub applied : (ks : List ArgKind) → Rule ks → List ℕ → List Datum → Result (Act Answer) ScError
applied [] rule words shown = Ok rule
applied (k ∷ ks) rule [] shown = Err INVALID_VALUE
applied (k ∷ ks) rule (word ∷ words) shown = with_argument (argument k shown word) (λ a. applied ks (rule a) words shown)

abbrev pub begun : Result (Act Answer) ScError → Act (Unit {0}) → Act Answer
begun (Err e) charges = fails e
begun (Ok rule) charges = λ w. then_do (charges w) (λ _. rule)

-- what a function returns
abbrev pub answered : (ks : List ArgKind) → Rule ks → List ℕ → Act Answer
answered ks rule words w = begun (applied ks rule words w.shown) (dispatched (tagged_words ks words)) w

-- the whole call
abbrev pub call_of : (ks : List ArgKind) → Rule ks → List ℕ → Act ℕ
call_of ks rule words w = then_do (answered ks rule words w) given
