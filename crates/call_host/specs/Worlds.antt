-- The host's state as a world, around its running frame and in it.
use Rattle.std.specs.Prelude.{◌≡◌, ℕ, ◌+◌, ◌++◌, [], All, List, reverse, Result}
use Rattle.value_types.specs.Datum.{Datum}
use Rattle.value_types.specs.declared.hash.Hash.{Hash}
use Rattle.auth_types.specs.AuthEntry.{auth_entry_format}
use Rattle.auth_spec.specs.Authorities.{IsLaterState}
use Rattle.host_spec.specs.declared.error.HostErr.{HostErr}
use Rattle.contract_storage.specs.Stored.{IsLater}
use Rattle.call_spec.specs.World.{Access, Frame, World, Authority, Env}
use Rattle.call_spec.specs.Acts.{Act, Out, world_of}
use Rattle.call_spec.specs.Outcomes.{Leaves, Says}
use Rattle.host_ledger.specs.Traced.{leaving}
use Rattle.host_ledger.specs.Worlds.{IsCallOf, world_at, IsEnv, IsReady}
use Rattle.host_ledger.specs.declared.state.Frame.{Frame as Frame'}
use Rattle.call_host.specs.declared.host.Host.{Host}

-- ---- worlds

-- the contracts with an open frame, the newest first
abbrev pub contracts_of : {G U V : Type 0} → Host G U V → List Hash
contracts_of h = reverse h.open.items

-- a frame at the path of the program's frame, which has begun as many calls and creates
abbrev pub at_path : Frame' → Frame → Frame
at_path f frame = record frame { path = f.path.items; begun = f.begun }

-- The world with these accesses that the host shows around its running frame: the frame is any one at that frame's path. The
-- transaction itself needs this world: it belongs to no contract, while the program's frame for it has some contract.
abbrev pub world_around : {G U V : Type 0} → World → Host G U V → List Access → World
world_around rest h trace = record rest {
  entries = h.ledger.storage.map;
  events = h.ledger.events;
  pairs = h.marks.pairs;
  noted = h.marks.noted;
  frame = at_path h.ledger.frame rest.frame;
  contracts = contracts_of h;
  trace = trace;
  meter = h.ledger.budget;
}

-- The world of the host in its running frame. Only the frame's linear memory is that of the given world.
abbrev pub world_in : {G U V : Type 0} → World → Host G U V → List Access → World
world_in rest h trace =
    world_at (record rest { pairs = h.marks.pairs; noted = h.marks.noted; contracts = contracts_of h }) h.ledger trace

-- `Host` does not hold the linear memory, and the act may write to it. It is that of the act's final world.
abbrev pub ending : {A : Type 0} → World → Out A → World
ending rest out = record rest { frame = record rest.frame { memory = (world_of out).frame.memory } }

abbrev pub with_memory : List ℕ → World → World
with_memory memory w = record w { frame = record w.frame { memory = memory } }

-- ---- the running frame

-- it has begun one more call or create
abbrev pub numbered : {G U V : Type 0} → Host G U V → Host G U V
numbered h =
    record h { ledger = record h.ledger { frame = record h.ledger.frame { begun = h.ledger.frame.begun + 1 } } }

-- this frame was opened; it has shown nothing
abbrev pub IsOpened : {G U V : Type 0} → Frame' → Host G U V → Host G U V → Type 0
IsOpened frame old new =
    new ≡ record old { ledger = record old.ledger { objects = []; frame = frame }; «open» = new.open }

-- the frame was closed, and this one goes on with these values
abbrev pub IsClosed : {G U V : Type 0} → List Datum → Frame' → Host G U V → Host G U V → Type 0
IsClosed objects frame old new =
    new ≡ record old { ledger = record old.ledger { objects = objects; frame = frame }; «open» = new.open }

-- ---- environments

-- what may meet demands of authorisation
abbrev pub authority_of : {G U V : Type 0} → Host G U V → Authority
authority_of h = record { entries = h.marks.entries; source = h.marks.source; verdicts = h.verdicts.now }

-- an environment of the host's state
pub record IsEnvOf {G U V : Type 0} (env : Env) (h : Host G U V) : Type 0 where
  pub ledger : IsEnv env h.ledger
  pub authority : env.authority ≡ authority_of h

-- ---- acts

-- what an act leaves after these accesses, while the host changes
abbrev pub leaving_by : {G U V : Type 0} → Host G U V → Host G U V → List Access → (List Access → World) → Leaves
leaving_by old new before world = leaving old.ledger.storage new.ledger.storage before world

-- The Rust function returns what the act returns, and leaves the host that the act leaves. This holds for every environment of
-- the host, every frame at the path of the running one, and every earlier trace.
abbrev pub DoesAround : {A B G U V : Type 0} → Result A HostErr → (A → B) → (Env → Act B) → Host G U V → Host G U V → Type 0
DoesAround r view act old new = (env : Env) → IsEnvOf env old → (rest : World) (trace : List Access)
    → Says r view (act env (world_around rest old trace)) (leaving_by old new trace (world_around rest new))

-- the same in the frame that runs
abbrev pub DoesIn : {A B G U V : Type 0} → Result A HostErr → (A → B) → (Env → Act B) → Host G U V → Host G U V → Type 0
DoesIn r view act old new = (env : Env) → IsEnvOf env old → (rest : World) (trace : List Access)
    → Says r view (act env (world_in rest old trace)) (leaving_by old new trace (world_in rest new))

-- the same of an act that may write to the frame's linear memory
abbrev pub RunsIn : {A B G U V : Type 0} → Result A HostErr → (A → B) → (Env → Act B) → Host G U V → Host G U V → Type 0
RunsIn r view act old new = (env : Env) → IsEnvOf env old → (rest : World) (trace : List Access)
    → (let out = act env (world_in rest old trace) in Says r view out (leaving_by old new trace (world_in (ending rest out) new)))

-- ---- the state

-- The ledger's state and the running frame are in order, the frame's function is one of its contract, and the authorisation
-- entries have a spelling.
pub record MayRun {G U V : Type 0} (h : Host G U V) : Type 0 where
  pub ledger : IsReady h.ledger
  pub called : IsCallOf h.ledger.frame.contract h.ledger.frame.function
  pub entries : All auth_entry_format.fits h.marks.entries

-- a frame apart from the count of what it has begun
abbrev pub uncounted : Frame' → Frame'
uncounted f = record f { begun = 0 }

-- What a call leaves: writes, events and authorisations that were used were only added, and of the running frame only the count
-- of what it has begun may have changed.
pub record Stays {G U V : Type 0} (old new : Host G U V) : Type 0 where
  pub header : new.ledger.header.now ≡ old.ledger.header.now
  pub storage : IsLater old.ledger.storage new.ledger.storage
  pub events : (more : List _) × (new.ledger.events ≡ old.ledger.events ++ more)
  pub objects : new.ledger.objects ≡ old.ledger.objects
  pub frame : uncounted new.ledger.frame ≡ uncounted old.ledger.frame
  pub contracts : new.open.items ≡ old.open.items
  pub marks : IsLaterState old.marks new.marks
  pub verdicts : new.verdicts.now ≡ old.verdicts.now
