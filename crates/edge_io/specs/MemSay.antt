-- The text in memory, and which of its calls fail (own).
use Rattle.std.specs.Prelude.{◌≡◌, ℕ, ◌<◌, ◌-◌, ◌^◌, List, [], Contains, Option, Some}
use Rattle.edge_io.specs.Counts.{raised}
use Rattle.edge_io.specs.declared.mem_say.MemSay.{MemSay}

-- the text so far
abbrev pub text_of : MemSay → Option (List ℕ)
text_of m = Some m.text.items

-- the number of failed calls
abbrev pub faults_of : MemSay → ℕ
faults_of m = m.count

-- the number of the next call
abbrev pub calls_of : MemSay → ℕ
calls_of m = m.calls

-- the numbers of the calls that fail
abbrev pub failing_of : MemSay → List ℕ
failing_of m = m.failing.items

-- no failing call is listed, and the count can rise
abbrev pub IsSteady : MemSay → Type 0
IsSteady m = (failing_of m ≡ []) × (faults_of m < 2 ^ 64 - 1)

-- the next call is listed as failing
abbrev pub FailsNext : MemSay → Type 0
FailsNext m = Contains (failing_of m) (calls_of m)

-- the list of failing calls stays, and the next call has the next number
pub record CountsCall (old new : MemSay) : Type 0 where
  pub listed : failing_of new ≡ failing_of old
  pub next : calls_of new ≡ raised (calls_of old)
