-- Puts into the frame's copy of the instance.
use Rattle.std.specs.Prelude.{◌≡◌, Result}
use Rattle.value_types.specs.Datum.{Datum}
use Rattle.host_spec.specs.declared.error.HostErr.{HostErr}
use Rattle.host_frame.specs.Answered.{answer_of}
use Rattle.host_frame.specs.declared.answer.Answer.{Answer}
use Rattle.call_spec.specs.World.{Copied, World}
use Rattle.call_spec.specs.Storage.{put_in_copy}
use Rattle.call_spec.specs.Outcomes.{quiet, Says}

-- A call puts a value at a key of the frame's copy, from one copy to the other.
abbrev pub PutsInCopy : Result Answer HostErr → Datum → Datum → Copied → Copied → Type 0
PutsInCopy r key val old new =
    (w : World) → w.frame.copy ≡ old
    → Says r answer_of (put_in_copy key val w)
    (quiet w (λ trace. record w { trace = trace; frame = record w.frame { copy = new } }))
