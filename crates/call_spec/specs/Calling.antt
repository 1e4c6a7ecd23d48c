-- Module d: calls of contracts, and calls whose failure is caught (own, after CAP-0046-01 and CAP-0046-03).
use Rattle.std.specs.Prelude.{ℕ, List, length, take, codes, Bool, true, not, Option, Some}
use Rattle.std.specs.List.{list_any}
use Rattle.std.specs.Str.{bytes_eq}
use Rattle.budget_meter.specs.declared.kind.Kind.TheVariants.{VmInstantiation}
use Rattle.value_types.specs.Datum.{Datum, error}
use Rattle.value_types.specs.declared.hash.Hash.{Hash}
use Rattle.value_types.specs.declared.address.ScAddress.{ScAddress}
use Rattle.value_types.specs.declared.address.ScAddress.TheVariants.{Contract}
use Rattle.wasm_spec.specs.Instances.{start_of}
use Rattle.module_spec.specs.Loading.{module_of}
use Rattle.host_spec.specs.Errors.{OTHER_TYPE}
use Rattle.host_spec.specs.Answers.{Answer}
use Rattle.auth_spec.specs.Authorities.{demands_of, noted_back}
use Rattle.call_spec.specs.Errors.{RESERVED_NAME, REENTERED}
use Rattle.call_spec.specs.World.{Copied, World, Env}
use Rattle.call_spec.specs.Acts.{Failed, Spent, Archived, Out, Good, Bad, Undeclared}
use Rattle.call_spec.specs.Acts.{Act, after, fails, only_where, with_world, with_frame, paying, begins}
use Rattle.call_spec.specs.Frames.{Entered, Opener, with_opener, passed_on}
use Rattle.call_spec.specs.Found.{instance_at, code_at, with_module, with_start}
use Rattle.call_spec.specs.Rules.{returning}

-- ---- tests

abbrev pub with_contract : {A : Type 0} → ScAddress → (Hash → Act A) → Act A
with_contract (Contract contract) next = next contract
with_contract _ next = fails OTHER_TYPE

-- names that begin with two underscores are reserved for the host's own calls
abbrev pub is_reserved : List ℕ → Bool
is_reserved name = bytes_eq (take 2 name) (codes "__")

-- whether the contract has an open frame
abbrev pub is_running : Hash → World → Bool
is_running contract w = list_any (λ other. bytes_eq contract.0 other.0) w.contracts

-- ---- calls

-- a function to be called, with its arguments, by this contract or by none
pub record Call : Type 0 where
  pub caller : Option ScAddress
  pub address : ScAddress
  pub function : List ℕ
  pub args : List Datum

-- the tests of the code, after its charge
abbrev pub enters : (Entered → Act Datum) → Call → Hash → Copied → List ℕ → List ℕ → Act Datum
enters enter call contract copy path code =
    paying VmInstantiation (length code) (with_module (module_of code) (λ m.
    with_start (start_of m call.function (length call.args)) (λ index store.
    enter (record {
      contract = contract;
      caller = call.caller;
      function = call.function;
      args = call.args;
      instance = copy;
      path = path;
      module_ = m;
      index = index;
      store = store;
    }))))

-- the tests of the ledger's entries
abbrev pub looks_up : Env → (Entered → Act Datum) → Call → Hash → List ℕ → Act Datum
looks_up env enter call contract path =
    after (instance_at env contract) (λ copy. after (code_at env copy.code) (enters enter call contract copy path))

-- the tests of the name, whose outcome is given, and of the open frames
abbrev pub admits : Bool → Env → (Entered → Act Datum) → Call → List ℕ → Hash → Act Datum
admits named env enter call path contract =
    only_where named RESERVED_NAME (with_world (is_running contract) (λ running.
    only_where (not running) REENTERED (looks_up env enter call contract path)))

-- The tests in their order: another frame may be open; the address is a contract's; the name is not reserved; the contract has no
-- open frame; its instance is there, is an instance, runs WebAssembly, and has storage that may enter the host; its code is there
-- and is a valid, linked module, which exports the function with this arity; its segments fit.
-- `named`: the name is one that the caller may call
abbrev pub calls_if : Bool → Env → Opener → Call → Act Datum
calls_if named env opener call =
    begins (λ path. with_opener opener (λ enter. with_contract call.address (admits named env enter call path)))

-- a call by a contract or a transaction
abbrev pub calls : Env → Opener → Call → Act Datum
calls env opener call = calls_if (not (is_reserved call.function)) env opener call

-- a call by the host itself, whose name is reserved for it
abbrev pub calls_for_host : Env → Opener → Call → Act Datum
calls_for_host env opener call = calls_if true env opener call

-- ---- failures that leave the world as it was, and caught calls

-- Entries, events and authorisations as they were. What a recorder noted is kept.
abbrev pub restored : World → World → World
restored before w = record w {
  entries = before.entries;
  events = before.events;
  pairs = before.pairs;
  noted = noted_back (demands_of before.noted) w.noted;
}

-- A failure leaves entries, events and authorisations as they were. The accesses and the budget stay as they are then.
abbrev pub undone : {A : Type 0} → World → Out A → Out A
undone before (Good a w) = Good a w
undone before (Bad (Failed e) w) = Bad (Failed e) (restored before w)
undone before (Bad Spent w) = Bad Spent w
undone before (Bad (Archived key) w) = Bad (Archived key) w
undone before (Undeclared a w) = Undeclared a w

abbrev pub undoing : {A : Type 0} → Act A → Act A
undoing act w = undone w (act w)

-- Only a failure is caught. The accesses and the budget stay as they are then.
abbrev pub caught : World → Out Datum → Out Datum
caught before (Good d w) = Good d w
caught before (Bad (Failed e) w) = Good (error (passed_on e)) (restored before w)
caught before (Bad Spent w) = Bad Spent w
caught before (Bad (Archived key) w) = Bad (Archived key) w
caught before (Undeclared a w) = Undeclared a w

abbrev pub catching : Act Datum → Act Datum
catching act w = caught w (act w)

-- ---- the functions

-- a call by the running frame
abbrev pub call_by : (Call → Act Datum) → ScAddress → List ℕ → List Datum → Act Datum
call_by make address function args = with_frame (λ frame.
    make (record { caller = Some (Contract frame.contract); address = address; function = function; args = args }))

abbrev pub call : Env → Opener → ScAddress → List ℕ → List Datum → Act Answer
call env opener address function args = returning (call_by (calls env opener) address function args) (λ d. d)

abbrev pub try_call : Env → Opener → ScAddress → List ℕ → List Datum → Act Answer
try_call env opener address function args =
    returning (call_by (λ c. catching (calls env opener c)) address function args) (λ d. d)
