-- What a call finds before it enters a frame: the called contract, its instance and its module.
use Rattle.std.specs.Prelude.{ℕ, Bool, ◌||◌, List, length, not}
use Rattle.std.specs.Option.{option_map}
use Rattle.budget_meter.specs.declared.kind.Kind.TheVariants.{VmInstantiation}
use Rattle.value_types.specs.Datum.{Datum}
use Rattle.value_types.specs.Views.{datums}
use Rattle.value_types.specs.declared.hash.Hash.{Hash}
use Rattle.value_types.specs.declared.address.ScAddress.{ScAddress}
use Rattle.wasm_spec.specs.declared.module.Module.{Module}
use Rattle.wasm_spec.specs.Instances.{start_of}
use Rattle.module_spec.specs.Loading.{module_of}
use Rattle.call_spec.specs.Errors.{RESERVED_NAME, REENTERED}
use Rattle.call_spec.specs.World.{Copied, Env}
use Rattle.call_spec.specs.Acts.{Act, after, gives, only_where, with_world, paying}
use Rattle.call_spec.specs.Frames.{Entered, Opener, with_opener}
use Rattle.call_spec.specs.Found.{instance_at, code_at, with_module, with_start}
use Rattle.call_spec.specs.Calling.{with_contract, is_reserved, is_running, Call, admits}
use Rattle.host_ledger.specs.Worlds.{address_of, copied}
use Rattle.call_host.specs.declared.targets.ContractCall.{ContractCall}
use Rattle.call_host.specs.declared.targets.Target.{Target as Target'}

-- the call as its definition has it
abbrev pub call_of : ContractCall → Call
call_of c =
    record {
      caller = option_map address_of c.caller;
      address = c.contract;
      function = c.function.now;
      args = datums c.args.items;
    }

-- whether the caller may call a function of this name
abbrev pub may_name : ContractCall → Bool
may_name c = c.by_host || not (is_reserved c.function.now)

-- the tests of the address, of the name, and of the open frames; whether the name may be called is given
abbrev pub tests : {A : Type 0} → Bool → ScAddress → (Hash → Act A) → Act A
tests named address next = with_contract address (λ contract.
    only_where named RESERVED_NAME (with_world (is_running contract) (λ running.
    only_where (not running) REENTERED (next contract))))

-- the tests and the frame of a call that has a path, while another frame may be open
abbrev pub call_at : Bool → Env → Opener → Call → List ℕ → Act Datum
call_at named env opener call path = with_opener opener (λ enter. with_contract call.address (admits named env enter call path))

-- the called contract, its instance, and the module of the instance's code
pub record Target : Type 0 where
  pub contract : Hash
  pub instance : Copied
  pub module_ : Module

abbrev pub target : Target' → Target
target t = record { contract = t.contract; instance = copied t.copy; module_ = t.module }

-- the module with a hash, after the charge for its code
abbrev pub module_at : Env → Hash → Act Module
module_at env hash =
    after (code_at env hash) (λ code. paying VmInstantiation (length code) (with_module (module_of code) (λ m. gives m)))

abbrev pub target_at : Env → Hash → Act Target
target_at env contract =
    after (instance_at env contract)
    (λ copy. after (module_at env copy.code) (λ m. gives (record { contract = contract; instance = copy; module_ = m })))

-- the target of a call
abbrev pub target_of : Bool → ScAddress → Env → Act Target
target_of named address env = after (tests named address (λ c. gives c)) (target_at env)

-- what a frame of the target starts with, if its function can be called with so many arguments
abbrev pub enters_at : (Entered → Act Datum) → Call → List ℕ → Target → Act Datum
enters_at enter call path t = with_start (start_of t.module_ call.function (length call.args)) (λ index store. enter (record {
  contract = t.contract;
  caller = call.caller;
  function = call.function;
  args = call.args;
  instance = t.instance;
  path = path;
  module_ = t.module_;
  index = index;
  store = store;
}))
