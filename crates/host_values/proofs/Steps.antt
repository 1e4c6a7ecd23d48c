-- Calls after what a function answers.
use Rattle.std.proofs.Common.{◌≡◌, ◌<◌, ◌≤◌, ℕ, List, [], ◌∷◌, length, get_or, Option, Some, None, Result, Ok, Err, refl, sym, subst, arith}
use Rattle.std.specs.Prelude.{IsErrAnd}
use Rattle.std.specs.Option.{option_map}
use Rattle.host_interface.specs.declared.import.HostImport.{HostImport}
use Rattle.host_interface.specs.declared.kinds.ArgKind.{ArgKind}
use Rattle.host_spec.specs.declared.error.ValueErr.{ValueErr}
use Rattle.host_spec.specs.Acts.{State, Says}
use Rattle.host_spec.specs.Answers.{given}
use Rattle.host_spec.specs.Calls.{Rule, answered, call_of}
use Rattle.host_frame.specs.declared.answer.Answer.{Answer}
use Rattle.host_frame.specs.Answered.{answer_of}
use Rattle.host_frame.specs.Made.{IsAnswerMade}
use Rattle.host_frame.proofs.Lemmas.{then_exit}
use Rattle.host_values.specs.Rows.{AnswersBy, AnswersRow}
use Rattle.host_values.specs.Called.{Calls}

-- a function that fails, and the call with it
pub call_stops : (ks : List ArgKind) (rule : Option (Rule ks)) (words : List ℕ) (w u : State) (r : Result ℕ ValueErr) (e : ValueErr) → IsErrAnd r (λ y. y ≡ e)
    → (let q : Result Answer ValueErr = Err e in AnswersBy q ks rule words w u) → Calls r (option_map (call_of ks) rule) words w u
call_stops ks None words w u r e h k = absurd k
call_stops ks (Some rule) words w u r e h k = then_exit answer_of (λ (n : ℕ). n) (answered ks rule words w) given u r e h k.does

-- a function that answers, and the word of its answer
pub call_goes_on : (ks : List ArgKind) (rule : Option (Rule ks)) (words : List ℕ) (w u v : State) (a : Answer) (r : Result ℕ ValueErr)
    → (let q : Result Answer ValueErr = Ok a in AnswersBy q ks rule words w u) → Says r (λ n. n) (given (answer_of a) u) v → Calls r (option_map (call_of ks) rule) words w v
call_goes_on ks None words w u v a r h g = absurd h
call_goes_on ks (Some rule) words w u v a r h g = rw h.does g

-- what a function answers may be shown
pub call_made : (ks : List ArgKind) (rule : Option (Rule ks)) (words : List ℕ) (w u : State) (a : Answer) → (let q : Result Answer ValueErr = Ok a in AnswersBy q ks rule words w u) → IsAnswerMade (answer_of a)
call_made ks None words w u a h = absurd h
call_made ks (Some rule) words w u a h = h.made

-- ---- lists of a known length

pub no_words : (ws : List ℕ) → length ws < 1 → ws ≡ []
no_words [] h = refl
no_words (a ∷ ws) h = absurd (omega arith)

pub just_one : (ws : List ℕ) → 1 ≤ length ws → length ws < 2 → ws ≡ get_or ws 0 0 ∷ []
just_one [] h k = absurd (omega arith)
just_one (a ∷ []) h k = refl
just_one (a ∷ b ∷ ws) h k = absurd (omega arith)

pub just_three : (ws : List ℕ) → 3 ≤ length ws → length ws < 4 → ws ≡ get_or ws 0 0 ∷ get_or ws 1 0 ∷ get_or ws 2 0 ∷ []
just_three [] h k = absurd (omega arith)
just_three (a ∷ []) h k = absurd (omega arith)
just_three (a ∷ b ∷ []) h k = absurd (omega arith)
just_three (a ∷ b ∷ c ∷ []) h k = refl
just_three (a ∷ b ∷ c ∷ d ∷ ws) h k = absurd (omega arith)

pub answers_as : (r : Result Answer ValueErr) (i : HostImport) (ws vs : List ℕ) (w u : State) → ws ≡ vs → AnswersRow r i vs w u → AnswersRow r i ws w u
answers_as r i ws vs w u e h = subst (λ (x : List ℕ). AnswersRow r i x w u) (sym e) h
