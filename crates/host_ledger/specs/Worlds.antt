-- The program's state as a world.
pub use Rattle.host_acts.specs.Served.{Serves}
pub use Rattle.instance_storage.specs.Held.{IsHeld}
use Rattle.std.specs.Prelude.{◌≡◌, ℕ, ◌++◌, List, []}
use Rattle.std.specs.Option.{option_map}
use Rattle.value_types.specs.Datum.{Datum}
use Rattle.value_types.specs.Views.{datums}
use Rattle.value_types.specs.declared.hash.Hash.{Hash}
use Rattle.value_types.specs.declared.address.ScAddress.{ScAddress}
use Rattle.value_types.specs.declared.address.ScAddress.TheVariants.{Contract}
use Rattle.invoke_types.specs.declared.function.Function.{Function}
use Rattle.invoke_types.specs.declared.function.Function.TheVariants.{ContractFn}
use Rattle.object_store.specs.Shown.{shown_of, AreIndices}
use Rattle.contract_storage.specs.Stored.{HasBounds, IsLater}
use Rattle.call_spec.specs.World.{Access, Copied, Frame, World, Env, next_seq}
use Rattle.host_ledger.specs.declared.state.InstanceCopy.{InstanceCopy}
use Rattle.host_ledger.specs.declared.state.Frame.{Frame as Frame'}
use Rattle.host_ledger.specs.declared.state.HostLedger.{HostLedger}

-- ---- worlds

abbrev pub copied : InstanceCopy → Copied
copied c = record { code = c.code; storage = c.storage }

abbrev pub address_of : Hash → ScAddress
address_of contract = Contract contract

-- the name of a contract's function, as an authorisation names it; a create has none
abbrev pub called_name : Function → List ℕ
called_name (ContractFn call) = call.function
called_name _ = []

-- its arguments
abbrev pub called_args : Function → List Datum
called_args (ContractFn call) = datums call.args
called_args _ = []

-- a call of a function of this contract
abbrev pub IsCallOf : Hash → Function → Type 0
IsCallOf contract (ContractFn call) = call.contract ≡ Contract contract
IsCallOf contract _ = ⊥

-- the frame that the program's frame shows, with this linear memory and these values
abbrev pub frame_at : List ℕ → List Datum → Frame' → Frame
frame_at memory objects f = record {
  contract = f.contract;
  caller = option_map address_of f.caller;
  function = called_name f.function;
  args = called_args f.function;
  code = f.code;
  first = copied f.first;
  copy = copied f.copy;
  shown = shown_of objects f.shown;
  memory = memory;
  path = f.path.items;
  begun = f.begun;
}

-- The world with these accesses that the program's state shows. What the state does not hold is that of the given world: the
-- frame's linear memory, the open contracts, and the authorisations that were used or noted.
abbrev pub world_at : {G V : Type 0} → World → HostLedger G V → List Access → World
world_at rest h trace = record rest {
  entries = h.storage.map;
  events = h.events;
  frame = frame_at rest.frame.memory h.objects h.frame;
  trace = trace;
  meter = h.budget;
}

-- ---- environments

-- an environment of the program's state
pub record IsEnv {G V : Type 0} (env : Env) (h : HostLedger G V) : Type 0 where
  pub header : env.header ≡ h.header.now
  pub serves : Serves env h.storage

-- ---- the state of a run

-- The storage was made with the number of the ledger that is made and with the header's settings, words index what was shown, and
-- instance storage is held. A row needs this state, and leaves such a state.
pub record IsReady {G V : Type 0} (h : HostLedger G V) : Type 0 where
  pub bounds : HasBounds (next_seq h.header.now) h.header.now.settings
  pub number : h.storage.n ≡ next_seq h.header.now
  pub lives : h.storage.lives ≡ h.header.now.settings
  pub indices : AreIndices h.objects h.frame.shown
  pub copy : IsHeld h.frame.copy.storage

-- the frame as it was at its start
abbrev pub at_start : Frame' → Frame'
at_start f = record f { copy = f.first; shown = []; begun = 0 }

-- What every row leaves: writes and events were only added, and nothing else has changed but the budget and the frame's copy of
-- the instance.
pub record Stays {G V : Type 0} (old new : HostLedger G V) : Type 0 where
  pub header : new.header.now ≡ old.header.now
  pub storage : IsLater old.storage new.storage
  pub events : (more : List _) × (new.events ≡ old.events ++ more)
  pub objects : new.objects ≡ old.objects
  pub frame : new.frame ≡ record old.frame { copy = new.frame.copy }
  pub copy : IsHeld old.frame.copy.storage → IsHeld new.frame.copy.storage

-- What showing a value leaves: only the budget, the values and what the frame was shown have changed.
pub record Shows {G V : Type 0} (old new : HostLedger G V) : Type 0 where
  pub header : new.header.now ≡ old.header.now
  pub storage : new.storage ≡ old.storage
  pub events : new.events ≡ old.events
  pub frame : new.frame ≡ record old.frame { shown = new.frame.shown }
