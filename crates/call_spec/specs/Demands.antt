-- Module a: demands of authorisation (own, after CAP-0046-11).
use Rattle.std.specs.Prelude.{ℕ, List, [], ◌∷◌, map, slice_get, Option, Some, None}
use Rattle.value_types.specs.Datum.{Datum}
use Rattle.value_types.specs.Views.{scval}
use Rattle.value_types.specs.declared.address.ScAddress.{ScAddress}
use Rattle.value_types.specs.declared.address.ScAddress.TheVariants as addresses
use Rattle.invoke_types.specs.declared.function.Function.{Function}
use Rattle.invoke_types.specs.declared.function.Function.TheVariants.{ContractFn}
use Rattle.auth_types.specs.declared.auth_entry.AuthEntry.{AuthEntry}
use Rattle.auth_spec.specs.Demands.{Choice, ByNode, ByCaller, ByNothing, ByNote, paired}
use Rattle.auth_spec.specs.Authorities.{choice_by, noted_next}
use Rattle.host_spec.specs.Answers.{Answer}
use Rattle.call_spec.specs.Errors.{DENIED}
use Rattle.call_spec.specs.World.{Frame, World, Env}
use Rattle.call_spec.specs.Acts.{Act, after, gives, fails, sets, with_world, with_frame}
use Rattle.call_spec.specs.Asking.{proves}
use Rattle.call_spec.specs.Frames.{Opener}
use Rattle.call_spec.specs.Rules.{nothing}

-- what a demand leaves: a node that meets it is used, and a recorder notes it
abbrev pub with_choice : List ℕ → ScAddress → Function → Choice → World → World
with_choice path address function c w =
    record w { pairs = paired w.pairs path c; noted = noted_next path address function c w.noted }

abbrev pub keeps : List ℕ → ScAddress → Function → Choice → Act (Unit {0})
keeps path address function c = sets (with_choice path address function c) tt

-- The root of an entry is used for the first time: its address proves that it authorises. A demand is met only by entries that
-- are there.
abbrev pub proves_entry : Env → Opener → Option AuthEntry → Act (Unit {0})
proves_entry env opener None = fails DENIED
proves_entry env opener (Some entry) = proves env opener entry.root_invocation entry.credentials

-- only the root of an entry is proved
abbrev pub proves_root : Env → Opener → ℕ → List ℕ → Act (Unit {0})
proves_root env opener entry [] = proves_entry env opener (slice_get env.authority.entries entry)
proves_root env opener entry (i ∷ more) = gives tt

-- what is owed to a choice, or its failure; for a demand that is noted nobody is asked
abbrev pub owes : Env → Opener → Choice → Act (Unit {0})
owes env opener ByCaller = gives tt
owes env opener (ByNode entry node) = proves_root env opener entry node
owes env opener ByNothing = fails DENIED
owes env opener (ByNote tree place) = gives tt

-- A node that meets a demand is used before its entry is proved.
abbrev pub met : Env → Opener → List ℕ → ScAddress → Function → Choice → Act (Unit {0})
met env opener path address function c = after (keeps path address function c) (λ _. owes env opener c)

-- A demand for an address in the frame of a path, whose direct caller is given. For a create the path has the create's number
-- behind it, and the caller is the frame's own contract.
abbrev pub demanded : Env → Opener → List ℕ → Option ScAddress → ScAddress → Function → Act (Unit {0})
demanded env opener path caller address function =
    with_world
    (λ w. choice_by w.noted (record { entries = env.authority.entries; source = env.authority.source; pairs = w.pairs })
    path caller address function)
    (met env opener path address function)

-- the frame's function with these arguments
abbrev pub invocation : Frame → List Datum → Function
invocation frame args =
    ContractFn (record { contract = addresses.Contract frame.contract; function = frame.function; args = map scval args })

abbrev pub requires : Env → Opener → ScAddress → List Datum → Frame → Act Answer
requires env opener address args frame =
    after (demanded env opener frame.path frame.caller address (invocation frame args)) (λ _. gives nothing)

abbrev pub require_auth : Env → Opener → ScAddress → Act Answer
require_auth env opener address = with_frame (λ frame. requires env opener address frame.args frame)

abbrev pub require_auth_for_args : Env → Opener → ScAddress → List Datum → Act Answer
require_auth_for_args env opener address args = with_frame (λ frame. requires env opener address args frame)
