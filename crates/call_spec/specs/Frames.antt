-- Frames: one run of a contract's function (own, after CAP-0046-01 and CAP-0046-03, and core section 4.4).
use Rattle.std.specs.Prelude.{ℕ, ◌*◌, List, [], ◌∷◌, Bool, true, false, not, Option, Some, None}
use Rattle.std.specs.Ordering.{is_eq}
use Rattle.budget_meter.specs.Meter.{Meter}
use Rattle.budget_meter.specs.declared.kind.Kind.TheVariants.{MemAlloc, InvokeVmFunction}
use Rattle.value_types.specs.Datum.{Datum, void, error}
use Rattle.value_types.specs.Order.{datum_cmp}
use Rattle.value_types.specs.declared.hash.Hash.{Hash}
use Rattle.value_types.specs.declared.address.ScAddress.{ScAddress}
use Rattle.value_types.specs.declared.error.ScError.{ScError}
use Rattle.value_types.specs.declared.error.ScError.TheVariants as errors
use Rattle.value_types.specs.declared.error.ScErrorCode.{ScErrorCode}
use Rattle.value_types.specs.declared.error.ScErrorCode.TheVariants as codes
use Rattle.wasm_spec.specs.declared.types.ResizableLimits.{ResizableLimits}
use Rattle.wasm_spec.specs.declared.values.Value.{Value}
use Rattle.wasm_spec.specs.declared.values.Value.TheVariants.{I64}
use Rattle.wasm_spec.specs.declared.values.TrapKind.{TrapKind}
use Rattle.wasm_spec.specs.declared.values.TrapKind.TheVariants.{Unreachable, OutOfBounds, Arithmetic, IndirectType, EmptyElement}
use Rattle.wasm_spec.specs.declared.values.TrapKind.TheVariants.{CallDepth}
use Rattle.wasm_spec.specs.declared.module.Module.{Module}
use Rattle.wasm_spec.specs.Stores.{PAGE, Store}
use Rattle.wasm_spec.specs.Runs.{Run, Normal, Branch, Return, Trap, Spent as SpentRun, Stuck, Ask}
use Rattle.wasm_spec.specs.Meaning.{meaning}
use Rattle.host_spec.specs.Errors.{INVALID_VALUE}
use Rattle.host_spec.specs.Words.{meaning as word_meaning}
use Rattle.host_spec.specs.VecRows.{all_given}
use Rattle.call_spec.specs.Errors.{IMPOSSIBLE, HIDDEN_ERROR, TOO_MANY_FRAMES}
use Rattle.call_spec.specs.World.{Write, Copied, Frame, World, Env, made_seq}
use Rattle.call_spec.specs.Acts.{Spent, Out, Good, Bad, Undeclared, Act, then_do, after, gives, fails, with_world, with_frame}
use Rattle.call_spec.specs.Acts.{lift, paying}
use Rattle.call_spec.specs.Accesses.{access, puts}
use Rattle.call_spec.specs.Keys.{instance_of, instance_key, instance_entry}

-- ---- runs of code

-- the code of a trap's error, which has type WASM_VM
abbrev pub trap_code : TrapKind → ScErrorCode
trap_code Unreachable = codes.InvalidAction
trap_code OutOfBounds = codes.IndexBounds
trap_code Arithmetic = codes.ArithDomain
trap_code IndirectType = codes.UnexpectedType
trap_code EmptyElement = codes.MissingValue
trap_code CallDepth = codes.ExceededLimit

-- a function of the host: the index of the import that is called, and the arguments' words
abbrev pub HostCalls : Type 0
HostCalls = ℕ → List ℕ → Act ℕ

abbrev pub metered : Meter → World → World
metered meter w = record w { meter = meter }

-- the frame's memory and the budget at a call of the host
abbrev pub asking : List ℕ → Meter → World → World
asking memory meter w = record w { frame = record w.frame { memory = memory }; meter = meter }

-- a contract's function returns one word of 64 bits
abbrev pub returned : List Value → Act ℕ
returned (I64 word ∷ []) = gives word
returned _ = fails IMPOSSIBLE

-- A run of code whose imports a host answers. A run of a valid module is never stuck, and branches and returns end within it.
abbrev pub runs : HostCalls → Run → Act ℕ
runs host (Normal operands s) w = returned operands (metered s.meter w)
runs host (Branch depth operands s) w = fails IMPOSSIBLE w
runs host (Return operands s) w = fails IMPOSSIBLE w
runs host (Trap kind meter) w = fails (errors.WasmVm (trap_code kind)) (metered meter w)
runs host (SpentRun meter) w = Bad Spent (metered meter w)
runs host Stuck w = fails IMPOSSIBLE w
runs host (Ask f words memory meter on) w =
    then_do (host f words (asking memory meter w)) (λ answer u. runs host (on answer u.frame.memory u.meter) u)

-- ---- what a frame starts with

pub record Entered : Type 0 where
  pub contract : Hash
  pub caller : Option ScAddress
  pub function : List ℕ
  pub args : List Datum
  pub instance : Copied
  pub path : List ℕ
  -- the module of the instance's code, the function's index there, and the initial store
  pub module_ : Module
  pub index : ℕ
  pub store : Store

abbrev pub frame_of : Entered → Frame
frame_of e = record {
  contract = e.contract;
  caller = e.caller;
  function = e.function;
  args = e.args;
  code = e.instance.code;
  first = e.instance;
  copy = e.instance;
  shown = [];
  memory = e.store.memory.bytes;
  path = e.path;
  begun = 0;
}

-- the charge for the first pages, if there is a memory
abbrev pub paying_pages : {A : Type 0} → List ResizableLimits → Act A → Act A
paying_pages [] act = act
paying_pages (limits ∷ more) act = paying MemAlloc (PAGE * limits.min) act

abbrev pub runs_from : HostCalls → Entered → List ℕ → Act ℕ
runs_from host e words = with_world (λ w. w.meter) (λ meter. runs host (meaning e.module_ e.index words e.store meter))

-- The first pages and the run are charged, then the arguments are shown one by one, then the code runs.
abbrev pub started : HostCalls → Entered → Act ℕ
started host e =
    paying_pages e.module_.memories
    (paying InvokeVmFunction 1 (after (lift (all_given e.args)) (λ words. runs_from host e words)))

-- ---- what a frame ends with

-- an error of type CONTRACT stays, any other is hidden
abbrev pub passed_on : ScError → ScError
passed_on (errors.Contract code) = errors.Contract code
passed_on _ = HIDDEN_ERROR

-- a frame that returns an error fails
abbrev pub returned_value : Option Datum → Act Datum
returned_value None = fails INVALID_VALUE
returned_value (Some (error e)) = fails (passed_on e)
returned_value (Some d) = gives d

-- what a function returns that is called for its effect alone
abbrev pub is_void : Datum → Bool
is_void void = true
is_void _ = false

abbrev pub is_same : Copied → Copied → Bool
is_same first copy = is_eq (datum_cmp (instance_of first) (instance_of copy))

abbrev pub writes_if : Bool → Env → Frame → Act (Unit {0})
writes_if false env frame = gives tt
writes_if true env frame =
    access env Write (instance_key frame.contract) (puts env (instance_entry (made_seq env) frame.contract frame.copy) tt)

-- the frame's copy of the instance is written if it differs
abbrev pub writes_instance : Env → Act (Unit {0})
writes_instance env = with_frame (λ frame. writes_if (not (is_same frame.first frame.copy)) env frame)

-- First the result is judged. Then the instance is written.
abbrev pub finished : Env → ℕ → Act Datum
finished env word =
    after (with_frame (λ frame. returned_value (word_meaning frame.shown word))) (λ d. after (writes_instance env) (λ _. gives d))

-- ---- frames

abbrev pub with_frames : Frame → List Hash → World → World
with_frames frame contracts w = record w { frame = frame; contracts = contracts }

-- the frame is closed, however it ended
abbrev pub closed : {A : Type 0} → Frame → List Hash → Out A → Out A
closed frame contracts (Good a w) = Good a (with_frames frame contracts w)
closed frame contracts (Bad e w) = Bad e (with_frames frame contracts w)
closed frame contracts (Undeclared a w) = Undeclared a (with_frames frame contracts w)

abbrev pub in_frame : {A : Type 0} → Entered → Act A → Act A
in_frame e act w = closed w.frame w.contracts (act (with_frames (frame_of e) (e.contract ∷ w.contracts) w))

-- a frame from its start to its end
abbrev pub framed : Env → (Module → HostCalls) → Entered → Act Datum
framed env host e = in_frame e (after (started (host e.module_) e) (finished env))

-- What opens another frame, if another frame may be open.
abbrev pub Opener : Type 0
Opener = Option (Entered → Act Datum)

abbrev pub with_opener : {A : Type 0} → Opener → ((Entered → Act Datum) → Act A) → Act A
with_opener None next = fails TOO_MANY_FRAMES
with_opener (Some enter) next = next enter
