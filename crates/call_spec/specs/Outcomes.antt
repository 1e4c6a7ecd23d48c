-- The result of a call of the program, compared with the act that it carries out (own).
use Rattle.std.specs.Prelude.{◌≡◌, List, [], Result, Ok, Err}
use Rattle.ledger_types.specs.declared.key.LedgerKey.{LedgerKey}
use Rattle.host_spec.specs.declared.error.HostErr.{HostErr}
use Rattle.host_spec.specs.declared.error.HostErr.TheVariants as ends
use Rattle.call_spec.specs.World.{AccessKind, Read, Access, World}
use Rattle.call_spec.specs.Acts.{Failure, Failed, Spent, Archived, Out, Good, Bad, Undeclared, world_of}

-- how the program names an end
abbrev pub failure_end : Failure → HostErr
failure_end (Failed e) = ends.Failed e
failure_end Spent = ends.Spent
failure_end (Archived key) = ends.Archived key

-- the accesses at the end of an act
abbrev pub trace_of : {A : Type 0} → Out A → List Access
trace_of out = (world_of out).trace

-- the kind of the access that an act may not make
abbrev pub stopped_kind : {A : Type 0} → Out A → AccessKind
stopped_kind (Undeclared a w) = a.kind
stopped_kind _ = Read

-- What the program leaves at the end of an act. The program does not hold the list of accesses, so it shows the act's final world
-- only when that list is given. `told` is what it knows of the list: a storage that records has the touched keys, one that
-- enforces a footprint has none.
pub record Leaves : Type 1 where
  pub world : List Access → World
  pub told : List Access → Type 0

-- An end that no `try_call` catches. The budget and what was noted are compared, and the touched keys if the storage records.
abbrev pub EndsSo : {A : Type 0} → Failure → Out A → Leaves → Type 0
EndsSo e out left =
    left.told (trace_of out)
    × (out ≡ Bad e (world_of out))
    × ((world_of out).meter ≡ (left.world []).meter)
    × ((world_of out).noted ≡ (left.world []).noted)

-- The act makes an access of this key, which the judge rejects.
abbrev pub StopsSo : {A : Type 0} → LedgerKey → Out A → Leaves → Type 0
StopsSo key out left =
    left.told (trace_of out)
    × (out ≡ Undeclared (record { kind = stopped_kind out; key = key; used = (left.world []).meter.used }) (world_of out))
    × ((world_of out).meter ≡ (left.world []).meter)

-- The Rust function returns what the act returns, and leaves the act's final world. Out of memory is always allowed.
abbrev pub Says : {A B : Type 0} → Result A HostErr → (A → B) → Out B → Leaves → Type 0
Says (Ok a) view out left = left.told (trace_of out) × (out ≡ Good (view a) (left.world (trace_of out)))
Says (Err (ends.Failed e)) view out left = left.told (trace_of out) × (out ≡ Bad (Failed e) (left.world (trace_of out)))
Says (Err ends.Spent) view out left = EndsSo Spent out left
Says (Err (ends.Archived key)) view out left = EndsSo (Archived key) out left
Says (Err (ends.Undeclared key)) view out left = StopsSo key out left
Says (Err ends.NoMemory) view out left = Unit {0}

-- ---- acts that make no access

-- an act without accesses leaves this world, and the accesses of the world before
abbrev pub quiet : World → (List Access → World) → Leaves
quiet w left = record { world = left; told = λ trace. trace ≡ w.trace }
