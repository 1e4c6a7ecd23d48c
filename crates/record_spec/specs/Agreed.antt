-- A transaction with its recorded entries does what its recording run did (own, after CAP-0046-11).
use Rattle.std.specs.Prelude.{◌≡◌, ◌≢◌, ◌+◌, ◌≤◌, ◌<◌, ℕ, ℤ, All, List, Some, true, false}
use Rattle.std.specs.FinMap.{get}
use Rattle.sha2.specs.Sha256.{sha256}
use Rattle.value_types.specs.Datum.{Datum}
use Rattle.value_types.specs.Hash.{hash_of}
use Rattle.value_types.specs.declared.hash.Hash.{Hash}
use Rattle.value_types.specs.declared.address.ScAddress.{ScAddress}
use Rattle.value_types.specs.declared.address.ScAddress.TheVariants.{Account, Contract, MuxedAccount}
use Rattle.value_types.specs.declared.address.ScAddress.TheVariants.{ClaimableBalance, LiquidityPool}
use Rattle.ledger_types.specs.declared.header.Header.{Header}
use Rattle.ledger_types.specs.declared.verdicts.Verdicts.{Verdicts}
use Rattle.ledger_spec.specs.LedgerMap.{LedgerMap, key_bytes}
use Rattle.ledger_spec.specs.Seen.{absent, seen}
use Rattle.xdr_spec.specs.Format.{list}
use Rattle.auth_types.specs.AuthEntry.{auth_entry_format}
use Rattle.auth_types.specs.Payload.{signed_bytes}
use Rattle.auth_types.specs.declared.invocation.Invocation.{Invocation}
use Rattle.auth_types.specs.declared.auth_entry.AuthEntry.{AuthEntry}
use Rattle.auth_types.specs.declared.credentials.AddressCredentials.{AddressCredentials}
use Rattle.auth_types.specs.declared.credentials.Credentials.{Credentials}
use Rattle.auth_types.specs.declared.credentials.Credentials.TheVariants.{SourceAccount, Address}
use Rattle.tx_xdr.specs.declared.transaction.Transaction.{Transaction}
use Rattle.call_spec.specs.World.{World, next_seq}
use Rattle.call_spec.specs.Acts.{Spent, Out, Good, Bad}
use Rattle.call_spec.specs.Asking.{nonce_key, is_good}
use Rattle.call_spec.specs.WholeRuns.{whole}
use Rattle.record_spec.specs.Trees.{Terms}
use Rattle.record_spec.specs.Recorded.{Recorded, Ran, run_of, run_in, recorded_of, recorded}

-- ---- maps

-- no nonce has this key
abbrev pub IsOther : List ℕ → Type 0
IsOther key = (address : ScAddress) (nonce : ℤ) → key ≢ key_bytes (nonce_key address nonce)

-- two maps that differ at keys of nonces alone
abbrev pub ButNonces : LedgerMap → LedgerMap → Type 0
ButNonces m n = (key : List ℕ) → IsOther key → get m key ≡ get n key

-- ---- what is supposed

-- an account signed a payload with this hash
abbrev pub HasSigned : Verdicts → Hash → ScAddress → Type 0
HasSigned verdicts payload (Account account) = is_good verdicts account.0 payload ≡ true
HasSigned verdicts payload (Contract contract) = ⊥
HasSigned verdicts payload (MuxedAccount id key) = ⊥
HasSigned verdicts payload (ClaimableBalance id) = ⊥
HasSigned verdicts payload (LiquidityPool id) = ⊥

-- the account's nonce is free, and it signed the entry
pub record IsSigned (header : Header) (verdicts : Verdicts) (entries : LedgerMap) (root : Invocation)
    (signer : AddressCredentials) : Type 0 where
  pub free : seen (next_seq header) entries (nonce_key signer.address signer.nonce) ≡ absent
  pub signed : HasSigned verdicts (hash_of (sha256 (signed_bytes header.network_id signer root))) signer.address

abbrev pub MayBeUsed : Header → Verdicts → LedgerMap → Invocation → Credentials → Type 0
MayBeUsed header verdicts entries root SourceAccount = Unit {0}
MayBeUsed header verdicts entries root (Address signer) = IsSigned header verdicts entries root signer

-- the signatures are valid in the ledger that is made, and no longer than an entry may live
abbrev pub IsInTime : Header → Terms → Type 0
IsInTime header terms =
    (next_seq header ≤ terms.expiration) × (terms.expiration < next_seq header + header.settings.max_entry_ttl)

-- the run did not end because its budget was spent
abbrev pub IsPaid : {A : Type 0} → Out A → Type 0
IsPaid (Bad Spent w) = ⊥
IsPaid _ = Unit {0}

-- ---- what follows

pub record AgreedWorlds (w v : World) : Type 0 where
  pub events : v.events ≡ w.events
  pub maps : ButNonces w.entries v.entries

-- the same end and value, and the same events; the sums may differ
abbrev pub Agreed : {A : Type 0} → Out A → Out A → Type 0
Agreed (Good a w) (Good b v) = (a ≡ b) × AgreedWorlds w v
Agreed (Bad d w) (Bad e v) = (d ≡ e) × AgreedWorlds w v
Agreed _ _ = ⊥

-- its whole run with these authorisation entries in place of its own
abbrev pub run_with : Header → Verdicts → LedgerMap → Ran → List AuthEntry → Out Datum
run_with header verdicts entries ran auth =
    whole header (record { entries = auth; source = ran.source; verdicts = verdicts }) ran.instructions ran.work entries

-- With the recorded entries, signed by their accounts, the run has the same end, value and events, and its map differs at nonces
-- alone.
abbrev pub IsAgreed : Header → Terms → LedgerMap → Ran → Recorded → Type 0
IsAgreed header terms entries ran r = (verdicts : Verdicts)
    → r.caught ≡ false → IsPaid (run_in header entries ran) → IsPaid (run_with header verdicts entries ran r.entries)
    → IsInTime header terms
    → All (λ (e : AuthEntry). MayBeUsed header verdicts entries e.root_invocation e.credentials) r.entries
    → Agreed (run_in header entries ran) (run_with header verdicts entries ran r.entries)

-- So it is for what a transaction runs, if it runs anything.
unfoldable pub IsEnough : Header → Terms → LedgerMap → Transaction → Recorded → Type 0
IsEnough header terms entries tx r = (ran : Ran) → run_of header tx ≡ Some ran → IsAgreed header terms entries ran r

-- the entries have a spelling, and so has their row
abbrev pub AreSpelled : Recorded → Type 0
AreSpelled r = (list 4294967295 auth_entry_format).fits r.entries

-- The entries of a recording run are enough, over every map, if they have a spelling.
abbrev pub AgreedLaw : Type 0
AgreedLaw = (header : Header) (terms : Terms) (entries : LedgerMap) (ran : Ran)
    → AreSpelled (recorded_of header terms entries (Some ran))
    → IsAgreed header terms entries ran (recorded_of header terms entries (Some ran))

-- And so are those of a transaction.
abbrev pub EnoughLaw : Type 0
EnoughLaw = (header : Header) (terms : Terms) (entries : LedgerMap) (tx : Transaction)
    → AreSpelled (recorded header terms entries tx) → IsEnough header terms entries tx (recorded header terms entries tx)
