-- What a trace keeps (own).
use Rattle.std.specs.Prelude.{◌≡◌, ℕ, ◌+◌, ◌-◌, ◌<◌, ◌^◌, min, List, [], ◌∷◌, ◌++◌, ◌⊎◌, length}
use Rattle.ledger_types.specs.declared.key.LedgerKey.{LedgerKey}
use Rattle.contract_storage.specs.declared.access.Access.{Access}
use Rattle.run_trace.specs.declared.calls.Open.{Open}
use Rattle.run_trace.specs.declared.line.What.{What}
use Rattle.run_trace.specs.declared.line.Line.{Line}
use Rattle.run_trace.specs.declared.trace.Trace.{Trace}
use Rattle.run_trace.specs.Shown.{access_in, accesses_in, seen_in, bytes_in}

-- the calls that are open
abbrev pub calls_of : Trace → List Open
calls_of trace = trace.calls.held.items

abbrev pub line_at : ℕ → What → Line
line_at depth what = record { depth = depth; what = what }

-- One more line is kept, as the last one, with the number of the calls that are open. Nothing was left out before, so the lines
-- are the first ones of what was told.
pub record Keeps (what : What) (old new : Trace) : Type 0 where
  pub line : new.lines.items ≡ old.lines.items ++ line_at (length (calls_of old)) what ∷ []
  pub missed : new.missed.items ≡ old.missed.items
  pub before : old.left_out ≡ 0
  pub after : new.left_out ≡ 0

-- One more line is counted, and not kept. The count stops at 2^64 - 1. If the line was to tell of an access, that is given.
pub record LeavesOut (accesses : List (Access × LedgerKey)) (old new : Trace) : Type 0 where
  pub lines : new.lines.items ≡ old.lines.items
  pub missed : new.missed.items ≡ old.missed.items ++ accesses
  pub left_out : new.left_out ≡ min (old.left_out + 1) (2 ^ 64 - 1)

-- what was told is kept, or counted
abbrev pub Tells : What → Trace → Trace → Type 0
Tells what old new = Keeps what old new ⊎ LeavesOut (access_in what) old new

-- no line is kept, and none is counted
pub record IsQuiet (old new : Trace) : Type 0 where
  pub lines : new.lines.items ≡ old.lines.items
  pub missed : new.missed.items ≡ old.missed.items
  pub left_out : new.left_out ≡ old.left_out

-- ---- accesses

-- the accesses that a trace was told, in their order: first those that its lines tell of, then those whose lines are left out
abbrev pub told_of : Trace → List (Access × LedgerKey)
told_of trace = accesses_in trace.lines.items ++ trace.missed.items

-- The lines tell of the first of these accesses, in their order, and of all of them if no line is left out.
pub record Shows (trace : Trace) (accesses : List (Access × LedgerKey)) : Type 0 where
  pub rest : List (Access × LedgerKey)
  pub first : accesses ≡ accesses_in trace.lines.items ++ rest
  pub all : trace.left_out ≡ 0 → rest ≡ []

-- A trace shows the accesses that it was told.
abbrev pub ToldLaw : Type 0
ToldLaw = (trace : Trace) → Shows trace (told_of trace)

-- So it shows these accesses, if it has seen them, and they are within the limit.
abbrev pub ShownLaw : Type 0
ShownLaw = (trace : Trace) (accesses : List (Access × LedgerKey)) → seen_in (told_of trace) ≡ seen_in accesses
    → bytes_in accesses < 2 ^ 64 - 1 → Shows trace accesses
