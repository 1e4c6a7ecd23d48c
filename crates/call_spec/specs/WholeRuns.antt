-- The run of a host function by a transaction over all entries of the ledger (own, after CAP-0046-02, CAP-0046-03 and CAP-0058).
use Rattle.std.specs.Prelude.{ℕ, List, [], true, Option, Some, None}
use Rattle.std.specs.Option.{unwrap_or}
use Rattle.budget_meter.specs.Meter.{Meter}
use Rattle.budget_meter.specs.declared.kind.Kind.TheVariants.{ValSer}
use Rattle.value_types.specs.Datum.{Datum, bytes, address}
use Rattle.value_types.specs.Views.{datums}
use Rattle.value_types.specs.declared.address.ScAddress.{ScAddress}
use Rattle.value_types.specs.declared.address.ScAddress.TheVariants.{Contract}
use Rattle.value_types.specs.declared.executable.Executable.{Executable}
use Rattle.value_types.specs.declared.executable.Executable.TheVariants.{Wasm}
use Rattle.invoke_types.specs.declared.preimage.Preimage.{Preimage}
use Rattle.invoke_types.specs.declared.preimage.Preimage.TheVariants.{FromAddress}
use Rattle.invoke_types.specs.declared.host_function.HostFunction.{HostFunction}
use Rattle.invoke_types.specs.declared.host_function.HostFunction.TheVariants.{InvokeContract, CreateContract, UploadContractWasm}
use Rattle.invoke_types.specs.declared.host_function.HostFunction.TheVariants.{CreateContractV2}
use Rattle.ledger_types.specs.declared.header.Header.{Header}
use Rattle.ledger_spec.specs.LedgerMap.{LedgerMap}
use Rattle.host_spec.specs.Hosted.{size_of}
use Rattle.call_spec.specs.World.{Judge, outside, World, Authority, Env}
use Rattle.call_spec.specs.Acts.{Out, Act, after, gives, paying}
use Rattle.call_spec.specs.Entering.{entering}
use Rattle.call_spec.specs.Frames.{Opener}
use Rattle.call_spec.specs.Calling.{undoing, calls}
use Rattle.call_spec.specs.Creating.{Creation, uploads, creates}
use Rattle.call_spec.specs.HostFunctions.{MOST_FRAMES, opener_of}

-- ---- what a transaction does

pub data Work : Type 0 where
  calling : ScAddress → List ℕ → List Datum → Work
  uploading : List ℕ → Work
  creating : Creation → Work

abbrev pub creation_of : Preimage → Executable → Option (List Datum) → Option Work
creation_of (FromAddress deployer salt) (Wasm code) args =
    Some (creating (record { deployer = deployer; code = code; salt = salt; args = args }))
creation_of _ _ args = None

-- What a host function does. None is MALFORMED. A contract of an asset cannot be made.
abbrev pub work_of : HostFunction → Option Work
work_of (InvokeContract args) = Some (calling args.contract args.function (datums args.args))
work_of (CreateContract args) = creation_of args.preimage args.executable None
work_of (UploadContractWasm code) = Some (uploading code)
work_of (CreateContractV2 args) = creation_of args.preimage args.executable (Some (datums args.constructor_args))

-- ---- the run

abbrev pub arguments_in : Work → List Datum
arguments_in (calling contract function args) = args
arguments_in (uploading code) = []
arguments_in (creating c) = unwrap_or c.args []

-- The call, the upload or the create. It returns the called function's value, the code's hash or the new contract's address.
abbrev pub does : Env → Opener → Work → Act Datum
does env opener (calling contract function args) =
    calls env opener (record { caller = None; address = contract; function = function; args = args })
does env opener (uploading code) = after (uploads env code) (λ hash. gives (bytes hash.0))
does env opener (creating c) = after (creates env opener None c) (λ id. gives (address (Contract id)))

-- The arguments enter first. The returned value is charged.
abbrev pub performs : Env → Opener → Work → Act Datum
performs env opener work = after (entering (arguments_in work) (does env opener work)) (λ d. paying ValSer (size_of d) (gives d))

-- The call, the upload or the create alone, under a judge. A failure leaves entries, events and authorisations as they were.
unfoldable pub done_under : Judge → Header → Authority → Work → Act Datum
done_under judge header authority work =
    let env : Env = record { header = header; authority = authority; judge = judge } in
    undoing (does env (opener_of env MOST_FRAMES) work)

-- ---- its start

-- a budget with this limit of instructions
abbrev pub meter_of : Header → ℕ → Meter
meter_of header instructions = record {
  limits = record { instructions = instructions; memory = header.settings.memory_limit };
  terms = header.settings.terms;
  used = record { instructions = 0; memory = 0 };
}

abbrev pub start_of : Header → ℕ → LedgerMap → World
start_of header instructions entries = record {
  entries = entries;
  events = [];
  pairs = [];
  noted = None;
  frame = outside;
  contracts = [];
  trace = [];
  meter = meter_of header instructions;
}

-- a run that the judge may stop
unfoldable pub run_under : Judge → Header → Authority → ℕ → Work → LedgerMap → Out Datum
run_under judge header authority instructions work entries =
    let env : Env = record { header = header; authority = authority; judge = judge } in
    performs env (opener_of env MOST_FRAMES) work (start_of header instructions entries)

-- every access is allowed
abbrev pub all_allowed : Judge
all_allowed kind key = true

-- The whole run: it knows no footprint.
abbrev pub whole : Header → Authority → ℕ → Work → LedgerMap → Out Datum
whole header authority instructions work entries = run_under all_allowed header authority instructions work entries
