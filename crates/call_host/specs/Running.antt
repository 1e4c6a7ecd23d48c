-- The frame that runs.
use Rattle.std.specs.Prelude.{◌≡◌, ℕ, [], List, length, Option, Result}
use Rattle.std.specs.Option.{option_map}
use Rattle.value_types.specs.declared.hash.Hash.{Hash}
use Rattle.value_types.specs.declared.address.ScAddress.TheVariants.{Contract}
use Rattle.value_types.specs.declared.value.ScVal.{ScVal}
use Rattle.invoke_types.specs.declared.function.Function.TheVariants.{ContractFn}
use Rattle.auth_spec.specs.Authorities.{IsLaterState}
use Rattle.wasm_spec.specs.declared.module.Module.{Module}
use Rattle.wasm_spec.specs.Stores.{Store}
use Rattle.wasm_run.specs.Suspended.{Suspended, IsFresh}
use Rattle.host_spec.specs.declared.error.HostErr.{HostErr}
use Rattle.host_frame.specs.Made.{AreMade}
use Rattle.call_spec.specs.World.{Access, World, Env}
use Rattle.call_spec.specs.Acts.{Act}
use Rattle.call_spec.specs.Frames.{Entered}
use Rattle.call_spec.specs.Outcomes.{Says}
use Rattle.host_ledger.specs.Worlds.{address_of, called_name, called_args, copied, IsCallOf, IsHeld}
use Rattle.host_ledger.specs.Called.{Left}
use Rattle.host_ledger.specs.declared.state.Frame.{Frame}
use Rattle.host_ledger.specs.declared.state.InstanceCopy.{InstanceCopy}
use Rattle.call_host.specs.Worlds.{world_in, with_memory, leaving_by, IsEnvOf, MayRun}
use Rattle.call_host.specs.declared.host.Host.{Host}

-- what a frame starts with
abbrev pub entered : Frame → Module → ℕ → Store → Entered
entered frame m index store = record {
  contract = frame.contract;
  caller = option_map address_of frame.caller;
  function = called_name frame.function;
  args = called_args frame.function;
  instance = copied frame.copy;
  path = frame.path.items;
  module_ = m;
  index = index;
  store = store;
}

-- A frame that has shown and begun nothing yet. It runs the code of its instance and calls a function of its contract, whose
-- arguments may be shown.
pub record IsNewFrame (frame : Frame) : Type 0 where
  pub called : IsCallOf frame.contract frame.function
  pub args : AreMade (called_args frame.function)
  pub code : frame.code ≡ frame.copy.code
  pub first : frame.first ≡ frame.copy
  pub held : IsHeld frame.copy.storage
  pub shown : frame.shown ≡ []
  pub begun : frame.begun ≡ 0

-- the new frame of a call of this contract's function with these arguments, at a path
pub record IsFrameFor (frame : Frame) (id : Hash) (by : Option Hash) (name : List ℕ) (values : List ScVal)
    (instance : InstanceCopy) (at : List ℕ) : Type 0 where
  pub contract : frame.contract ≡ id
  pub caller : frame.caller ≡ by
  pub function : frame.function ≡ ContractFn (record { contract = Contract id; function = name; args = values })
  pub copy : frame.copy ≡ instance
  pub path : frame.path.items ≡ at
  pub new : IsNewFrame frame

-- the instance is at the start of this frame's function
abbrev pub Starts : Suspended → Entered → Type 0
Starts i e = IsFresh i e.module_ e.index (length e.args) e.store

-- What a run in the frame leaves: writes, events and authorisations that were used were only added, and the frame is the one that
-- started so.
pub record StaysIn {G U V : Type 0} (old new : Host G U V) : Type 0 where
  pub left : Left old.ledger new.ledger
  pub contracts : new.open.items ≡ old.open.items
  pub marks : IsLaterState old.marks new.marks
  pub verdicts : new.verdicts.now ≡ old.verdicts.now
  pub ready : MayRun new

-- `DoesIn` for a frame whose linear memory is `before` at the start and `after` at the end
abbrev pub DoesOver : {A B G U V : Type 0} → List ℕ → List ℕ → Result A HostErr → (A → B) → (Env → Act B)
    → Host G U V → Host G U V → Type 0
DoesOver before after r view act old new =
    (env : Env) → IsEnvOf env old → (rest : World) (trace : List Access) → rest.frame.memory ≡ before
    → Says r view (act env (world_in rest old trace)) (leaving_by old new trace (world_in (with_memory after rest) new))
