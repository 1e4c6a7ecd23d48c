-- Demands of authorisation, as the program meets them.
use Rattle.std.specs.Prelude.{ℕ, List, Bool, true, false, map, slice_get, Option, Some, None, Result, Ok, Err}
use Rattle.value_types.specs.Datum.{Datum}
use Rattle.value_types.specs.Views.{scval, datum}
use Rattle.value_types.specs.declared.hash.Hash.{Hash}
use Rattle.value_types.specs.declared.value.ScVal.{ScVal}
use Rattle.value_types.specs.declared.address.ScAddress.{ScAddress}
use Rattle.value_types.specs.declared.address.ScAddress.TheVariants as addresses
use Rattle.invoke_types.specs.declared.function.Function.{Function}
use Rattle.invoke_types.specs.declared.function.Function.TheVariants.{ContractFn}
use Rattle.auth_types.specs.declared.auth_entry.AuthEntry.{AuthEntry}
use Rattle.auth_spec.specs.declared.demand.Demand.{Demand}
use Rattle.auth_spec.specs.declared.demand.Demand.TheVariants.{Matched, ByInvoker, Denied, Noted, NoMemory}
use Rattle.host_spec.specs.Answers.{Answer}
use Rattle.host_spec.specs.declared.error.HostErr.{HostErr}
use Rattle.host_spec.specs.declared.error.HostErr.TheVariants as ends
use Rattle.call_spec.specs.Errors.{DENIED}
use Rattle.call_spec.specs.World.{Env}
use Rattle.call_spec.specs.Acts.{Act, after, gives, fails, with_frame}
use Rattle.call_spec.specs.Demands.{demanded, proves_entry}
use Rattle.call_spec.specs.Frames.{Opener, is_void}
use Rattle.call_spec.specs.Rules.{nothing}
use Rattle.auth_parts.specs.Asked.{Asked, asks_first}

-- a call of a contract's function, as an authorisation names it
abbrev pub called : Hash → List ℕ → List Datum → Function
called contract function args =
    ContractFn (record { contract = addresses.Contract contract; function = function; args = map scval args })

-- Void, if the address authorises the function in the running frame
abbrev pub requires_here : Env → Opener → ScAddress → Function → Act Answer
requires_here env opener address function =
    with_frame (λ frame. after (demanded env opener frame.path frame.caller address function) (λ _. gives nothing))

-- the end of a demand, after the node that meets it is used
abbrev pub settled : Env → Opener → Demand → Act (Unit {0})
settled env opener ByInvoker = gives tt
settled env opener Denied = fails DENIED
settled env opener Noted = gives tt
settled env opener (Matched entry false) = gives tt
settled env opener (Matched entry true) = proves_entry env opener (slice_get env.authority.entries entry)
-- the program ends for want of memory then
settled env opener NoMemory = fails DENIED

-- the first part of what the root of an entry owes, when it is used for the first time
abbrev pub asks_at : Env → Option AuthEntry → Act Asked
asks_at env None = fails DENIED
asks_at env (Some entry) = asks_first env entry

-- ---- results

-- the id of a new contract, if its deployer authorised the create
abbrev pub granted : Result (Unit {0}) HostErr → Hash → Result Hash HostErr
granted (Ok u) id = Ok id
granted (Err e) id = Err e

-- every failure is one of authorisation
abbrev pub denied_end : HostErr → HostErr
denied_end (ends.Failed e) = ends.Failed DENIED
denied_end e = e

-- what the value of the function that checks an authorisation decides: whether it is Void is given
abbrev pub if_good : Bool → Result (Unit {0}) HostErr
if_good true = Ok tt
if_good false = Err (ends.Failed DENIED)

abbrev pub checked : Result ScVal HostErr → Result (Unit {0}) HostErr
checked (Ok v) = if_good (is_void (datum v))
checked (Err e) = Err (denied_end e)
