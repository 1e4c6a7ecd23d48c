-- Calls by the name of a function.
use Rattle.std.proofs.Common.{ℕ, List, Option, Some, None, Result}
use Rattle.host_interface.specs.declared.import.HostImport.{HostImport}
use Rattle.host_spec.specs.declared.error.HostErr.{HostErr}
use Rattle.host_ledger.specs.Worlds.{IsReady}
use Rattle.host_ledger.specs.Called.{CallsNamed}
use Rattle.host_ledger.specs.declared.state.HostLedger.{HostLedger}

-- a call leaves a state that is ready for the next one
pub ready_after : {G V : Type 0} (r : Result ℕ HostErr) (o : Option HostImport) (words : List ℕ) (old new : HostLedger G V) → CallsNamed r o words old new → IsReady new
ready_after r None words old new h = absurd h
ready_after r (Some i) words old new h = h.ready
