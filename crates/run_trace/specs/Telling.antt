-- What a trace does with what it is told (own).
use Rattle.std.specs.Prelude.{◌≡◌, List, [], Option, Some, None}
use Rattle.budget_meter.specs.declared.budget.Used.{Used}
use Rattle.value_types.specs.declared.address.ScAddress.TheVariants.{Contract}
use Rattle.contract_storage.specs.declared.watch.End.{End}
use Rattle.contract_storage.specs.declared.watch.Moment.{Moment}
use Rattle.contract_storage.specs.declared.watch.Moment.TheVariants as moments
use Rattle.run_trace.specs.declared.calls.Open.{Open}
use Rattle.run_trace.specs.declared.line.Manner.{Manner}
use Rattle.run_trace.specs.declared.line.Manner.TheVariants.{NotRun, Run, Constructor}
use Rattle.run_trace.specs.declared.line.What.{What}
use Rattle.run_trace.specs.declared.line.What.TheVariants.{Called, Demanded, Emitted, Ended}
use Rattle.run_trace.specs.declared.trace.Trace.{Trace}
use Rattle.run_trace.specs.Calls.{call_at, innermost, around, with_call}
use Rattle.run_trace.specs.Endings.{ending_in, took}
use Rattle.run_trace.specs.Lines.{calls_of, LeavesOut, Tells, IsQuiet}

-- what was told is kept or counted, and then these calls are open
pub record TellsThen (what : What) (held : List Open) (old new : Trace) : Type 0 where
  pub told : Tells what old new
  pub calls : calls_of new ≡ held

-- nothing is told, and then these calls are open
pub record IsQuietThen (held : List Open) (old new : Trace) : Type 0 where
  pub quiet : IsQuiet old new
  pub calls : calls_of new ≡ held

-- ---- ends

-- the end of a call that began so: what it came to, what it took, and whether it ran
abbrev pub end_of : End → Used → Open → What
end_of end used call = Ended (ending_in end) (took call.used used) call.manner

-- The call that began last ends. An end without a call is counted.
abbrev pub EndsCall : Option Open → End → Used → Trace → Trace → Type 0
EndsCall None end used old new = LeavesOut [] old new × (calls_of new ≡ calls_of old)
EndsCall (Some call) end used old new = TellsThen (end_of end used call) (around (calls_of old)) old new

-- the frame of a constructor ends with a line, and that of a call without one
abbrev pub EndsIfConstructor : Manner → Open → End → Used → Trace → Trace → Type 0
EndsIfConstructor Constructor call end used old new = TellsThen (end_of end used call) (around (calls_of old)) old new
EndsIfConstructor Run call end used old new = IsQuietThen (calls_of old) old new
EndsIfConstructor NotRun call end used old new = IsQuietThen (calls_of old) old new

-- The frame that began last ends. The end of a call's frame is that of the call, which is told next.
abbrev pub EndsFrame : Option Open → End → Used → Trace → Trace → Type 0
EndsFrame None end used old new = IsQuietThen (calls_of old) old new
EndsFrame (Some call) end used old new = EndsIfConstructor call.manner call end used old new

-- ---- begins

-- the calls after the one that began last has begun to run
abbrev pub running : Open → List Open → List Open
running call calls = with_call (call_at call.used Run) (around calls)

-- the frame of a constructor begins, with a line
abbrev pub BeginsConstructor : What → Used → Trace → Trace → Type 0
BeginsConstructor what used old new = TellsThen what (with_call (call_at used Constructor) (calls_of old)) old new

-- a call that makes its tests begins to run, without a line; any other frame is that of a constructor
abbrev pub BeginsIn : Manner → Open → What → Used → Trace → Trace → Type 0
BeginsIn NotRun call what used old new = IsQuietThen (running call (calls_of old)) old new
BeginsIn Run call what used old new = BeginsConstructor what used old new
BeginsIn Constructor call what used old new = BeginsConstructor what used old new

-- A frame begins: that of the call that began last, if it makes its tests, else that of a constructor.
abbrev pub BeginsFrame : Option Open → What → Used → Trace → Trace → Type 0
BeginsFrame None what used old new = BeginsConstructor what used old new
BeginsFrame (Some call) what used old new = BeginsIn call.manner call what used old new

-- ---- moments

-- A call is open from its begin, with the line of its begin before it, to its end, whose line is told while it is open.
abbrev pub TellsMoment : Moment → Trace → Trace → Type 0
TellsMoment (moments.Called caller address function args used) old new =
    TellsThen (Called address function.now args.now) (with_call (call_at used NotRun) (calls_of old)) old new
TellsMoment (moments.Begun contract caller function args used) old new =
    BeginsFrame (innermost (calls_of old)) (Called (Contract contract) function.now args.now) used old new
TellsMoment (moments.Demanded address function met) old new =
    TellsThen (Demanded address function.now met) (calls_of old) old new
TellsMoment (moments.Emitted event) old new = TellsThen (Emitted event.now) (calls_of old) old new
TellsMoment (moments.Ended end used) old new = EndsFrame (innermost (calls_of old)) end used old new
TellsMoment (moments.Returned end used) old new = EndsCall (innermost (calls_of old)) end used old new
