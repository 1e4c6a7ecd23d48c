-- How an authorisation entry is proved, up to the run of a contract's own function, and what is left then (own, after
-- CAP-0046-11).
use Rattle.std.specs.Prelude.{ℕ, List, length}
use Rattle.sha2.specs.Sha256.{sha256}
use Rattle.budget_meter.specs.declared.kind.Kind.TheVariants.{ComputeSha256Hash}
use Rattle.value_types.specs.Datum.{Datum}
use Rattle.value_types.specs.Hash.{hash_of}
use Rattle.value_types.specs.declared.hash.Hash.{Hash}
use Rattle.value_types.specs.declared.address.ScAddress.{ScAddress}
use Rattle.value_types.specs.declared.address.ScAddress.TheVariants as addresses
use Rattle.auth_types.specs.Payload.{signed_bytes}
use Rattle.auth_types.specs.declared.invocation.Invocation.{Invocation}
use Rattle.auth_types.specs.declared.credentials.AddressCredentials.{AddressCredentials}
use Rattle.auth_types.specs.declared.credentials.Credentials.{Credentials}
use Rattle.auth_types.specs.declared.credentials.Credentials.TheVariants.{SourceAccount, Address}
use Rattle.auth_types.specs.declared.auth_entry.AuthEntry.{AuthEntry}
use Rattle.call_spec.specs.Errors.{DENIED}
use Rattle.call_spec.specs.World.{Env}
use Rattle.call_spec.specs.Acts.{Act, after, gives, fails, only_where, paying}
use Rattle.call_spec.specs.Frames.{Opener, is_void}
use Rattle.call_spec.specs.Calling.{calls_for_host}
use Rattle.call_spec.specs.Entering.{entering}
use Rattle.call_spec.specs.Asking.{uses_nonce, is_good, denying, check_args, check_of}

-- What is left after an address was asked: nothing, or the call of the contract's own function with these arguments.
pub data Asked : Type 0 where
  proved : Asked
  by_contract : Hash → List Datum → Asked

-- ---- up to the contract's own function

abbrev pub asks_address : Env → Hash → AddressCredentials → Invocation → ScAddress → Act Asked
asks_address env payload signer root (addresses.Account account) =
    only_where (is_good env.authority.verdicts account.0 payload) DENIED (gives proved)
asks_address env payload signer root (addresses.Contract contract) =
    let args = check_args payload signer root in denying (entering args (gives (by_contract contract args)))
asks_address env payload signer root _ = fails DENIED

-- the address judges the signature of this payload, whose charge comes first
abbrev pub asks_payload : Env → List ℕ → AddressCredentials → Invocation → Act Asked
asks_payload env payload signer root =
    paying ComputeSha256Hash (length payload) (asks_address env (hash_of (sha256 payload)) signer root signer.address)

abbrev pub asks_signer : Env → Invocation → AddressCredentials → Act Asked
asks_signer env root signer =
    after (uses_nonce env signer) (λ _. asks_payload env (signed_bytes env.header.network_id signer root) signer root)

abbrev pub asks_by : Env → Invocation → Credentials → Act Asked
asks_by env root SourceAccount = gives proved
asks_by env root (Address signer) = asks_signer env root signer

abbrev pub asks_first : Env → AuthEntry → Act Asked
asks_first env entry = asks_by env entry.root_invocation entry.credentials

-- ---- the rest

-- The contract's own function returns Void if the signature is good.
abbrev pub asks_then : Env → Opener → Asked → Act (Unit {0})
asks_then env opener proved = gives tt
asks_then env opener (by_contract contract args) =
    denying (after (calls_for_host env opener (check_of contract args)) (λ d. only_where (is_void d) DENIED (gives tt)))
