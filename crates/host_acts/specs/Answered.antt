-- Answers that may be shown.
use Rattle.std.specs.Prelude.{Result, Ok, Err}
use Rattle.host_spec.specs.declared.error.HostErr.{HostErr}
use Rattle.host_frame.specs.Answered.{answer_of}
use Rattle.host_frame.specs.Made.{IsAnswerMade}
use Rattle.host_frame.specs.declared.answer.Answer.{Answer as Answer'}

-- an answer that was returned may be shown
abbrev pub IsMadeIfOk : Result Answer' HostErr → Type 0
IsMadeIfOk (Ok a) = IsAnswerMade (answer_of a)
IsMadeIfOk (Err e) = Unit {0}
