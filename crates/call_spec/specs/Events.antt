-- Module x: the frame's surroundings and events (own, after CAP-0046-03 and CAP-0046-08).
use Rattle.std.specs.Prelude.{ℕ, ◌++◌, List, [], ◌∷◌, length, map, codes, Some}
use Rattle.xdr_core.specs.Sizes.{capped}
use Rattle.budget_meter.specs.declared.kind.Kind.TheVariants.{ValSer}
use Rattle.value_types.specs.Datum.{Datum, u32, u64, bytes, symbol, vec, address, items_of}
use Rattle.value_types.specs.Views.{scval}
use Rattle.value_types.specs.declared.hash.Hash.{Hash}
use Rattle.value_types.specs.declared.address.ScAddress.TheVariants.{Contract}
use Rattle.value_types.specs.declared.error.ScError.{ScError}
use Rattle.value_types.specs.declared.error.ScError.TheVariants as errors
use Rattle.invoke_types.specs.Event.{event_format}
use Rattle.invoke_types.specs.declared.event.ContractEventType.{ContractEventType}
use Rattle.invoke_types.specs.declared.event.ContractEventType.TheVariants as types
use Rattle.invoke_types.specs.declared.event.ContractEvent.{ContractEvent}
use Rattle.ledger_spec.specs.Changes.{furthest}
use Rattle.host_spec.specs.Answers.{Answer, value}
use Rattle.call_spec.specs.Errors.{NO_CONTRACT_ERROR}
use Rattle.call_spec.specs.World.{World, Env, made_seq}
use Rattle.call_spec.specs.Acts.{Act, gives, fails, with_frame, sets, paying}
use Rattle.call_spec.specs.Rules.{nothing}

-- ---- events

abbrev pub event_of : ContractEventType → Hash → List Datum → Datum → ContractEvent
event_of kind contract topics content = record {
  contract_id = Some contract;
  event_type = kind;
  topics = map scval topics;
  «data» = scval content;
}

-- the bytes of an event, or 2^64 - 1 if there are more
unfoldable pub event_size : ContractEvent → ℕ
event_size event = capped (length (event_format.spell event))

abbrev pub with_event : ContractEvent → World → World
with_event event w = record w { events = w.events ++ event ∷ [] }

-- appends an event, after its charge
abbrev pub emits : ContractEvent → Act Answer
emits event = paying ValSer (event_size event) (sets (with_event event) nothing)

abbrev pub contract_event : List Datum → Datum → Act Answer
contract_event topics content = with_frame (λ frame. emits (event_of types.Contract frame.contract topics content))

-- a WebAssembly executable, as a topic
abbrev pub executable_topic : Hash → Datum
executable_topic code = vec (items_of (symbol (codes "Wasm") ∷ bytes code.0 ∷ []))

-- the event of an update of a contract's code
abbrev pub update_event : Hash → Hash → Hash → ContractEvent
update_event contract old new =
    event_of types.System contract (symbol (codes "executable_update") ∷ executable_topic old ∷ executable_topic new ∷ [])
    (vec (items_of []))

-- ---- the ledger and the contract

abbrev pub get_ledger_version : Env → Act Answer
get_ledger_version env = gives (value (u32 env.header.protocol))

abbrev pub get_ledger_sequence : Env → Act Answer
get_ledger_sequence env = gives (value (u32 (made_seq env)))

abbrev pub get_ledger_timestamp : Env → Act Answer
get_ledger_timestamp env = gives (value (u64 env.header.close_time))

abbrev pub get_ledger_network_id : Env → Act Answer
get_ledger_network_id env = gives (value (bytes env.header.network_id.0))

abbrev pub get_current_contract_address : Act Answer
get_current_contract_address = with_frame (λ frame. gives (value (address (Contract frame.contract))))

abbrev pub get_max_live_until_ledger : Env → Act Answer
get_max_live_until_ledger env = gives (value (u32 (furthest env.header.settings (made_seq env))))

-- ---- failing

-- a contract fails with an error of its own type
abbrev pub fail_with_error : ScError → Act Answer
fail_with_error (errors.Contract code) = fails (errors.Contract code)
fail_with_error _ = fails NO_CONTRACT_ERROR
