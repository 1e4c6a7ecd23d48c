-- How the address of an authorisation entry proves that it authorises: its nonce is used once, and its signature is judged (own,
-- after CAP-0046-11).
use Rattle.std.specs.Prelude.{ℕ, ℤ, ◌+◌, ◌&&◌, List, [], ◌∷◌, length, codes, Bool, nat_le, nat_lt, Option, Some, None}
use Rattle.std.specs.List.{list_any}
use Rattle.std.specs.Str.{bytes_eq}
use Rattle.sha2.specs.Sha256.{sha256}
use Rattle.budget_meter.specs.declared.kind.Kind.TheVariants.{ValSer, ComputeSha256Hash}
use Rattle.value_types.specs.Datum.{Datum, bytes, vec, items_of}
use Rattle.value_types.specs.Views.{datum}
use Rattle.value_types.specs.Hash.{hash_of}
use Rattle.value_types.specs.declared.hash.Hash.{Hash}
use Rattle.value_types.specs.declared.address.ScAddress.{ScAddress}
use Rattle.value_types.specs.declared.address.ScAddress.TheVariants as addresses
use Rattle.value_types.specs.declared.value.ScVal.TheVariants.{Void, LedgerKeyNonce}
use Rattle.ledger_types.specs.declared.durability.Durability.TheVariants.{Temporary}
use Rattle.ledger_types.specs.declared.key.LedgerKey.{LedgerKey}
use Rattle.ledger_types.specs.declared.key.LedgerKey.TheVariants as keys
use Rattle.ledger_types.specs.declared.entry.LedgerEntry.{LedgerEntry}
use Rattle.ledger_types.specs.declared.entry.LedgerEntryData.TheVariants as entries
use Rattle.ledger_types.specs.declared.verdicts.Verdicts.{Verdicts}
use Rattle.ledger_spec.specs.declared.Kept.{Kept}
use Rattle.auth_types.specs.Payload.{signed_bytes}
use Rattle.auth_types.specs.Views.{tree_of}
use Rattle.auth_types.specs.declared.invocation.Invocation.{Invocation}
use Rattle.auth_types.specs.declared.credentials.AddressCredentials.{AddressCredentials}
use Rattle.auth_types.specs.declared.credentials.Credentials.{Credentials}
use Rattle.auth_types.specs.declared.credentials.Credentials.TheVariants.{SourceAccount, Address}
use Rattle.call_spec.specs.Errors.{DENIED, EXPIRED, USED_NONCE}
use Rattle.call_spec.specs.World.{Write, Env, made_seq}
use Rattle.call_spec.specs.Acts.{Failed, Spent, Archived, Out, Good, Bad, Undeclared, Act, after, gives, fails, only_where}
use Rattle.call_spec.specs.Acts.{paying}
use Rattle.call_spec.specs.Accesses.{Effect, leaves, refuses, costs, access, entry_size}
use Rattle.call_spec.specs.Calling.{Call, calls_for_host}
use Rattle.call_spec.specs.Contexts.{contexts_of}
use Rattle.call_spec.specs.Entering.{entering}
use Rattle.call_spec.specs.Frames.{Opener, is_void}

-- ---- nonces

-- the key of a nonce
abbrev pub nonce_key : ScAddress → ℤ → LedgerKey
nonce_key address nonce = keys.ContractData address (LedgerKeyNonce nonce) Temporary

-- the entry of a nonce, modified in ledger n
abbrev pub nonce_entry : ℕ → ScAddress → ℤ → LedgerEntry
nonce_entry n address nonce = record {
  last_modified_ledger_seq = n;
  «data» = entries.ContractData (record { contract = address; key = LedgerKeyNonce nonce; durability = Temporary; val = Void });
}

-- a nonce that is there is used already; another one is there until its signature ends
abbrev pub uses : ℕ → AddressCredentials → Option Kept → Effect (Unit {0})
uses n signer (Some kept) = refuses USED_NONCE
uses n signer None =
    let entry = nonce_entry n signer.address signer.nonce in
    costs ValSer (entry_size entry) (leaves (Some (record { entry = entry; live_until = signer.signature_expiration_ledger })) tt)

-- the signature does not end before ledger n, and ends in a ledger that an entry may reach
abbrev pub is_valid_until : ℕ → ℕ → ℕ → Bool
is_valid_until n max_ttl until = nat_le n until && nat_lt until (n + max_ttl)

abbrev pub uses_nonce : Env → AddressCredentials → Act (Unit {0})
uses_nonce env signer =
    only_where (is_valid_until (made_seq env) env.header.settings.max_entry_ttl signer.signature_expiration_ledger) EXPIRED
    (access env Write (nonce_key signer.address signer.nonce) (uses (made_seq env) signer))

-- ---- accounts

-- the verdicts hold this pair of a key and a payload's hash
abbrev pub is_good : Verdicts → Hash → Hash → Bool
is_good verdicts key payload = list_any (λ v. bytes_eq v.key.0 key.0 && bytes_eq v.payload.0 payload.0) verdicts.pairs

-- ---- contracts

-- every failure is one of authorisation
abbrev pub denied : {A : Type 0} → Out A → Out A
denied (Good a w) = Good a w
denied (Bad (Failed e) w) = Bad (Failed DENIED) w
denied (Bad Spent w) = Bad Spent w
denied (Bad (Archived key) w) = Bad (Archived key) w
denied (Undeclared a w) = Undeclared a w

abbrev pub denying : {A : Type 0} → Act A → Act A
denying act w = denied (act w)

abbrev pub CHECK : List ℕ
CHECK = codes "__check_auth"

-- the hash of what was signed, the signature, and what it authorises
abbrev pub check_args : Hash → AddressCredentials → Invocation → List Datum
check_args payload signer root = bytes payload.0 ∷ datum signer.signature ∷ vec (items_of (contexts_of (tree_of root))) ∷ []

-- The contract's own function judges the signature. Its frame has no caller: the contract that demands is not one. It returns
-- Void if the signature is good.
abbrev pub check_of : Hash → List Datum → Call
check_of contract args = record { caller = None; address = addresses.Contract contract; function = CHECK; args = args }

abbrev pub checks : Env → Opener → Hash → List Datum → Act (Unit {0})
checks env opener contract args =
    entering args (after (calls_for_host env opener (check_of contract args)) (λ d. only_where (is_void d) DENIED (gives tt)))

-- ---- addresses

-- the address judges the signature of a payload with this hash; addresses of other kinds never authorise
abbrev pub asks : Env → Opener → Hash → AddressCredentials → Invocation → ScAddress → Act (Unit {0})
asks env opener payload signer root (addresses.Account account) =
    only_where (is_good env.authority.verdicts account.0 payload) DENIED (gives tt)
asks env opener payload signer root (addresses.Contract contract) =
    denying (checks env opener contract (check_args payload signer root))
asks env opener payload signer root _ = fails DENIED

-- the payload's charge comes after the nonce's
abbrev pub proves_by : Env → Opener → Invocation → AddressCredentials → Act (Unit {0})
proves_by env opener root signer =
    let payload = signed_bytes env.header.network_id signer root in
    after (uses_nonce env signer)
    (λ _. paying ComputeSha256Hash (length payload) (asks env opener (hash_of (sha256 payload)) signer root signer.address))

-- The operation's source is taken to have signed the transaction: it uses no nonce, and is not asked.
abbrev pub proves : Env → Opener → Invocation → Credentials → Act (Unit {0})
proves env opener root SourceAccount = gives tt
proves env opener root (Address signer) = proves_by env opener root signer
