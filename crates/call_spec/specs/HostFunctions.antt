-- The host functions: the rule of each that acts on the world, and the frames in which contracts call them (own, after
-- CAP-0046-03).
use Rattle.std.specs.Prelude.{ℕ, zero, suc, List, Option, Some, None}
use Rattle.std.specs.Option.{option_map}
use Rattle.host_interface.specs.Rows.{Row}
use Rattle.host_interface.specs.declared.import.HostImport.{HostImport}
use Rattle.host_interface.specs.declared.import.HostImport.TheVariants as imports
use Rattle.wasm_spec.specs.declared.module.Module.{Module}
use Rattle.module_spec.specs.Loading.{row_at}
use Rattle.host_spec.specs.Indices.{arguments_of}
use Rattle.host_spec.specs.Acts as values
use Rattle.host_spec.specs.ValueFunctions.{value_function}
use Rattle.call_spec.specs.Errors.{IMPOSSIBLE}
use Rattle.call_spec.specs.World.{Env}
use Rattle.call_spec.specs.Acts.{Act, fails, lift}
use Rattle.call_spec.specs.Rules.{Rule, call_of}
use Rattle.call_spec.specs.Events.{contract_event, get_ledger_version, get_ledger_sequence, get_ledger_timestamp}
use Rattle.call_spec.specs.Events.{get_ledger_network_id}
use Rattle.call_spec.specs.Events.{get_current_contract_address, get_max_live_until_ledger, fail_with_error}
use Rattle.call_spec.specs.Storage.{put_contract_data, has_contract_data, get_contract_data, del_contract_data}
use Rattle.call_spec.specs.Storage.{extend_contract_data_ttl, extend_current_contract_instance_and_code_ttl}
use Rattle.call_spec.specs.Creating.{upload_wasm, create_contract, create_contract_with_constructor, update_current_contract_wasm}
use Rattle.call_spec.specs.Creating.{get_contract_id}
use Rattle.call_spec.specs.Calling.{call, try_call}
use Rattle.call_spec.specs.Demands.{require_auth, require_auth_for_args}
use Rattle.call_spec.specs.Frames.{HostCalls, Opener, framed}

-- the rule of a function that acts on the world, or None for another function
abbrev pub world_rule : Env → Opener → (i : HostImport) → Option (Rule (arguments_of i))
world_rule env opener imports.ContractEvent = Some contract_event
world_rule env opener imports.GetLedgerVersion = Some (get_ledger_version env)
world_rule env opener imports.GetLedgerSequence = Some (get_ledger_sequence env)
world_rule env opener imports.GetLedgerTimestamp = Some (get_ledger_timestamp env)
world_rule env opener imports.GetLedgerNetworkId = Some (get_ledger_network_id env)
world_rule env opener imports.GetCurrentContractAddress = Some get_current_contract_address
world_rule env opener imports.GetMaxLiveUntilLedger = Some (get_max_live_until_ledger env)
world_rule env opener imports.FailWithError = Some fail_with_error
world_rule env opener imports.PutContractData = Some (put_contract_data env)
world_rule env opener imports.HasContractData = Some (has_contract_data env)
world_rule env opener imports.GetContractData = Some (get_contract_data env)
world_rule env opener imports.DelContractData = Some (del_contract_data env)
world_rule env opener imports.ExtendContractDataTtl = Some (extend_contract_data_ttl env)
world_rule env opener imports.ExtendCurrentContractInstanceAndCodeTtl = Some (extend_current_contract_instance_and_code_ttl env)
world_rule env opener imports.UploadWasm = Some (upload_wasm env)
world_rule env opener imports.CreateContract = Some (create_contract env opener)
world_rule env opener imports.CreateContractWithConstructor = Some (create_contract_with_constructor env opener)
world_rule env opener imports.UpdateCurrentContractWasm = Some (update_current_contract_wasm env)
world_rule env opener imports.GetContractId = Some (get_contract_id env)
world_rule env opener imports.Call = Some (call env opener)
world_rule env opener imports.TryCall = Some (try_call env opener)
world_rule env opener imports.RequireAuth = Some (require_auth env opener)
world_rule env opener imports.RequireAuthForArgs = Some (require_auth_for_args env opener)
world_rule env opener _ = None

-- a call of a function that acts on the world, or None for another function
abbrev pub world_function : Env → Opener → HostImport → Option (List ℕ → Act ℕ)
world_function env opener i = option_map (call_of (arguments_of i)) (world_rule env opener i)

-- each function acts on the world or on values alone
abbrev pub either : Option (List ℕ → Act ℕ) → Option (List ℕ → values.Act ℕ) → List ℕ → Act ℕ
either (Some function) other words = function words
either None (Some function) words = lift (function words)
either None None words = fails IMPOSSIBLE

-- a call of a host function
abbrev pub host_function : Env → Opener → HostImport → List ℕ → Act ℕ
host_function env opener i = either (world_function env opener i) (value_function i)

-- a linked module imports host functions alone
abbrev pub of_row : Env → Opener → Option Row → List ℕ → Act ℕ
of_row env opener None words = fails IMPOSSIBLE
of_row env opener (Some row) words = host_function env opener row.import words

-- the functions that a module imports
abbrev pub host_of : Env → Opener → Module → HostCalls
host_of env opener m index words = of_row env opener (row_at m index) words

-- the most open frames (a limit of this host)
unfoldable pub MOST_FRAMES : ℕ
MOST_FRAMES = 64

-- what opens a frame, while so many more frames may be open
abbrev pub opener_of : Env → ℕ → Opener
opener_of env zero = None
opener_of env (suc room) = Some (framed env (host_of env (opener_of env room)))
