-- Calls of the functions over the ledger and the running frame (own).
use Rattle.std.specs.Prelude.{◌≡◌, ◌++◌, ℕ, Bool, true, false, List, length, Option, Some, None, Result}
use Rattle.host_interface.specs.declared.import.HostImport.{HostImport}
use Rattle.host_interface.specs.declared.import.HostImport.TheVariants as imports
use Rattle.host_spec.specs.Indices.{arguments_of}
use Rattle.host_spec.specs.declared.error.HostErr.{HostErr}
use Rattle.contract_storage.specs.Stored.{IsLater}
use Rattle.call_spec.specs.World.{Access, World, Env}
use Rattle.call_spec.specs.Frames.{Opener}
use Rattle.call_spec.specs.HostFunctions.{host_function}
use Rattle.call_spec.specs.Outcomes.{Says}
use Rattle.host_ledger.specs.Worlds.{world_at, at_start, IsEnv, IsReady}
use Rattle.host_acts.specs.Traced.{leaving}
use Rattle.host_ledger.specs.declared.state.HostLedger.{HostLedger}

-- The functions of the modules x and l that act on the ledger or the running frame alone: all that neither upload, create nor
-- call.
abbrev pub is_over_ledger : HostImport → Bool
is_over_ledger imports.ContractEvent = true
is_over_ledger imports.GetLedgerVersion = true
is_over_ledger imports.GetLedgerSequence = true
is_over_ledger imports.GetLedgerTimestamp = true
is_over_ledger imports.GetLedgerNetworkId = true
is_over_ledger imports.GetCurrentContractAddress = true
is_over_ledger imports.GetMaxLiveUntilLedger = true
is_over_ledger imports.FailWithError = true
is_over_ledger imports.PutContractData = true
is_over_ledger imports.HasContractData = true
is_over_ledger imports.GetContractData = true
is_over_ledger imports.DelContractData = true
is_over_ledger imports.ExtendContractDataTtl = true
is_over_ledger imports.ExtendCurrentContractInstanceAndCodeTtl = true
is_over_ledger imports.UpdateCurrentContractWasm = true
is_over_ledger imports.GetContractId = true
is_over_ledger _ = false

-- the words are those of a call of such a function
pub record IsLedgerCall (i : HostImport) (words : List ℕ) : Type 0 where
  pub over_ledger : is_over_ledger i ≡ true
  pub arity : length words ≡ length (arguments_of i)

-- the words are those of a call of such a function, which is named
abbrev pub IsNamedCall : Option HostImport → List ℕ → Type 0
IsNamedCall None words = ⊥
IsNamedCall (Some i) words = IsLedgerCall i words

-- What a call leaves: writes and events were only added, and the frame is the one that started so.
pub record Left {G V : Type 0} (old new : HostLedger G V) : Type 0 where
  pub header : new.header.now ≡ old.header.now
  pub storage : IsLater old.storage new.storage
  pub events : (more : List _) × (new.events ≡ old.events ++ more)
  pub frame : at_start new.frame ≡ at_start old.frame

-- A call does what the function does with these words, in each environment and world of the state, whatever its accesses were so
-- far.
pub record Calls {G V : Type 0} (r : Result ℕ HostErr) (i : HostImport) (words : List ℕ) (old new : HostLedger G V) : Type 0 where
  pub does : (env : Env) → IsEnv env old → (opener : Opener) (rest : World) (trace : List Access)
      → Says r (λ n. n) (host_function env opener i words (world_at rest old trace))
      (leaving old.storage new.storage trace (world_at rest new))
  pub ready : IsReady new
  pub left : Left old new

-- A call by name does what the function of that name does.
abbrev pub CallsNamed : {G V : Type 0} → Result ℕ HostErr → Option HostImport → List ℕ → HostLedger G V → HostLedger G V → Type 0
CallsNamed r None words old new = ⊥
CallsNamed r (Some i) words old new = Calls r i words old new
