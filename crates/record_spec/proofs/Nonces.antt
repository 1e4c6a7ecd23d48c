-- The nonces of the recorded entries: each is used once, when the root of its tree meets its demand.
use Rattle.std.proofs.Common.{◌≡◌, ◌≢◌, ◌<◌, ◌≤◌, ◌+◌, ℕ, zero, suc, Bool, true, false, cond, List, [], ◌∷◌, ◌++◌, length, get_or, take, Some}
use Rattle.std.proofs.Common.{Option, slice_get, nat_lt, inl, inr, refl, sym, ap, ◌∙◌, subst, arith}
use Rattle.std.specs.Prelude.{ℤ, pos, All, Ok, Err, nat_le}
use Rattle.std.specs.List.{AllByRecursion}
use Rattle.std.specs.FinMap.{get}
use Rattle.std.specs.Str.{bytes_eq}
use Rattle.std.proofs.lemmas.Bool.{and_from, le-leb}
use Rattle.std.proofs.lemmas.Bool.Decides.{Decides-ltb}
use Rattle.std.proofs.lemmas.Option.{same_Some}
use Rattle.std.proofs.lemmas.List.{length-append}
use Rattle.std.proofs.lemmas.List.Elements.{recursion_from_All}
use Rattle.std.proofs.lemmas.Slice.Eq.{bytes_eq-Decides}
use Rattle.sha2.specs.Sha256.{sha256}
use Rattle.budget_meter.specs.Meter.{Meter, used_after}
use Rattle.wasm_spec.specs.Runs.{has_room}
use Rattle.budget_meter.specs.declared.kind.Kind.{Kind}
use Rattle.budget_meter.specs.declared.kind.Kind.TheVariants.{ValSer, ComputeSha256Hash}
use Rattle.xdr_spec.specs.Format.{Outcome, signed64, input}
use Rattle.value_types.specs.Address.{address_format}
use Rattle.value_types.specs.Formats.{scval_format, value_format, levels_below}
use Rattle.value_types.specs.Hash.{hash_of}
use Rattle.value_types.specs.declared.hash.Hash.{Hash}
use Rattle.value_types.specs.declared.account_id.AccountId.{AccountId}
use Rattle.value_types.specs.declared.address.ScAddress.{ScAddress}
use Rattle.value_types.specs.declared.address.ScAddress.TheVariants.{Account, Contract, MuxedAccount, ClaimableBalance, LiquidityPool}
use Rattle.value_types.specs.declared.value.ScVal.{ScVal}
use Rattle.value_types.specs.declared.value.ScVal.TheVariants.{Void, LedgerKeyNonce}
use Rattle.ledger_types.specs.Durability.{durability_format}
use Rattle.ledger_types.specs.Key.{key_format, key_lawful}
use Rattle.ledger_types.specs.declared.header.Header.{Header}
use Rattle.ledger_types.specs.declared.verdicts.Verdicts.{Verdicts}
use Rattle.ledger_types.specs.declared.durability.Durability.{Durability}
use Rattle.ledger_types.specs.declared.key.LedgerKey.{LedgerKey}
use Rattle.ledger_types.specs.declared.key.LedgerKey.TheVariants as keys
use Rattle.ledger_spec.specs.declared.Kept.{Kept}
use Rattle.ledger_spec.specs.LedgerMap.{LedgerMap, key_bytes}
use Rattle.ledger_spec.specs.Seen.{absent, seen, seen_of}
use Rattle.stage_runs.specs.Maps.{set_at}
use Rattle.stage_runs.proofs.Lemmas.{found_set}
use Rattle.auth_types.specs.AuthEntry.{auth_entry_format}
use Rattle.auth_types.specs.Credentials.{credentials_format, address_credentials_format}
use Rattle.auth_types.specs.Payload.{signed_bytes}
use Rattle.auth_types.specs.declared.auth_entry.AuthEntry.{AuthEntry}
use Rattle.auth_types.specs.declared.invocation.Invocation.{Invocation}
use Rattle.auth_types.specs.declared.credentials.AddressCredentials.{AddressCredentials}
use Rattle.auth_types.specs.declared.credentials.Credentials.{Credentials}
use Rattle.auth_types.specs.declared.credentials.Credentials.TheVariants.{SourceAccount, Address}
use Rattle.auth_spec.specs.Demands.{same_address, is_root}
use Rattle.auth_spec.specs.Noted.{Note, roots_in, is_account}
use Rattle.host_spec.specs.Acts.{charged, charged_if}
use Rattle.call_spec.specs.Errors.{DENIED, EXPIRED}
use Rattle.call_spec.specs.World.{World, Env, Write, next_seq}
use Rattle.call_spec.specs.Acts.{Spent, Out, Good, Bad, Act, then_do, gives, only_where, paying, state_of, lifted}
use Rattle.call_spec.specs.Accesses.{leaves, effected, noted, by_seen, access, entry_size}
use Rattle.call_spec.specs.Asking.{nonce_key, nonce_entry, uses, uses_nonce, is_valid_until, asks, proves_by, proves}
use Rattle.call_spec.specs.Demands.{proves_entry, proves_root}
use Rattle.call_spec.specs.Frames.{Opener}
use Rattle.call_spec.specs.WholeRuns.{all_allowed}
use Rattle.record_spec.specs.Trees.{Terms, signed_by, credentials_by, next_terms, entry_of, entries_from, entries_of}
use Rattle.record_spec.specs.Trees.{terms_after}
use Rattle.record_spec.specs.Agreed.{HasSigned, MayBeUsed, IsInTime}
use Rattle.record_spec.proofs.Lists.{all_get}
use Rattle.record_spec.proofs.Grown.{Grown, child_count, stood, grown_at, roots_append, root_here}
use Rattle.record_spec.proofs.Placed.{root_account, root_entry}

-- ---- keys

-- no nonce of an account has this key
abbrev pub IsNoNonce : List ℕ → Type 0
IsNoNonce key = (account : AccountId) (nonce : ℤ) → key ≢ key_bytes (nonce_key (Account account) nonce)

bytes_differ : (xs ys : List ℕ) (i x y : ℕ) → y < x → get_or xs i 0 ≡ x → get_or ys i 0 ≡ y → xs ≢ ys
bytes_differ xs ys i x y lt p q e =
    let same : get_or xs i 0 ≡ get_or ys i 0 = ap (λ (zs : List ℕ). get_or zs i 0) e in omega (arith, same, p, q, lt)

-- the kind of the address stands in the second word of a key
pub contract_is_no_nonce : (contract : Hash) (key : ScVal) (durability : Durability)
    → IsNoNonce (key_bytes (keys.ContractData (Contract contract) key durability))
unfolding key_format address_format
contract_is_no_nonce contract key durability account nonce e =
    bytes_differ (key_bytes (keys.ContractData (Contract contract) key durability)) (key_bytes (nonce_key (Account account) nonce)) 7 1 0
    (omega arith) refl refl e

-- the kind of the key stands in the first word
pub code_is_no_nonce : (hash : Hash) → IsNoNonce (key_bytes (keys.ContractCode hash))
unfolding key_format
code_is_no_nonce hash account nonce e =
    bytes_differ (key_bytes (keys.ContractCode hash)) (key_bytes (nonce_key (Account account) nonce)) 3 7 6 (omega arith) refl refl e

nonce_fits_at : (levels : ℕ) (nonce : ℤ) → signed64.fits nonce → (value_format levels).fits (LedgerKeyNonce nonce)
unfolding value_format
nonce_fits_at zero nonce h = h
nonce_fits_at (suc levels) nonce h = h

nonce_fits : (nonce : ℤ) → signed64.fits nonce → scval_format.fits (LedgerKeyNonce nonce)
unfolding scval_format
nonce_fits nonce h = nonce_fits_at levels_below nonce h

key_fits : (address : ScAddress) (nonce : ℤ) → address_format.fits address → signed64.fits nonce → key_format.fits (nonce_key address nonce)
unfolding key_format durability_format
key_fits address nonce h k = (h, (nonce_fits nonce k, refl))

-- the key that was read
abbrev read_key : Outcome LedgerKey → LedgerKey → LedgerKey
read_key (Ok found) other = found.0
read_key (Err e) other = other

same_key : (k l : LedgerKey) → key_format.fits k → key_format.fits l → key_bytes k ≡ key_bytes l → k ≡ l
same_key k l f g e =
    ap (λ (o : Outcome LedgerKey). read_key o k)
    (sym (key_lawful.again 0 k [] f) ∙ ap (λ (bytes : List ℕ). key_format.read (input 0 (bytes ++ []))) e ∙ key_lawful.again 0 l [] g)

same_nonce : (a b : ScAddress) (m n : ℤ) → nonce_key a m ≡ nonce_key b n → m ≡ n
same_nonce a b m n e = cc

-- ---- signers

abbrev FitsSigner : Credentials → Type 0
FitsSigner SourceAccount = Unit {0}
FitsSigner (Address signer) = address_format.fits signer.address × signed64.fits signer.nonce

signer_fits : (c : Credentials) → credentials_format.fits c → FitsSigner c
unfolding credentials_format address_credentials_format
signer_fits SourceAccount h = tt
signer_fits (Address signer) h = (h.0, h.1.0)

entry_fits : (entry : AuthEntry) → auth_entry_format.fits entry → FitsSigner entry.credentials
unfolding auth_entry_format
entry_fits entry h = signer_fits entry.credentials h.0

-- the signer of an entry, if it is not the source
pub record SignerOf (terms : Terms) (roots : List Note) (k : ℕ) (signer : AddressCredentials) : Type 0 where
  pub root : Note
  pub here : slice_get roots k ≡ Some root
  pub address : signer.address ≡ root.address
  pub number : ℕ
  pub nonce : signer.nonce ≡ pos number
  pub least : terms.nonce ≤ number
  pub expiration : signer.signature_expiration_ledger ≡ terms.expiration

first_signer : (terms : Terms) (source : AccountId) (root : Note) (roots : List Note) (b : Bool) (signer : AddressCredentials)
    → cond b SourceAccount (signed_by terms root.address) ≡ Address signer
    → (b ≡ false) × ((signer.nonce ≡ pos terms.nonce) × SignerOf terms (root ∷ roots) 0 signer)
first_signer terms source root roots true signer e = absurd cc
first_signer terms source root roots false signer e =
    let same : record { address = root.address; nonce = pos terms.nonce; signature_expiration_ledger = terms.expiration; signature = Void } ≡ signer = cc in
    let nonce : signer.nonce ≡ pos terms.nonce = sym (ap (λ (s : AddressCredentials). s.nonce) same) in (
      refl,
      (
        nonce,
        record {
          root = root;
          here = refl;
          address = sym (ap (λ (s : AddressCredentials). s.address) same);
          number = terms.nonce;
          nonce = nonce;
          least = omega arith;
          expiration = sym (ap (λ (s : AddressCredentials). s.signature_expiration_ledger) same);
        },
      ),
    )

-- the terms go up
next_least : (terms : Terms) (source : AccountId) (address : ScAddress)
    → (terms.nonce ≤ (next_terms terms source address).nonce) × ((next_terms terms source address).expiration ≡ terms.expiration)
next_least terms source address =
    elim (same_address address (Account source)) as (λ b. (terms.nonce ≤ (cond b terms (record terms { nonce = terms.nonce + 1 })).nonce)
    × ((cond b terms (record terms { nonce = terms.nonce + 1 })).expiration ≡ terms.expiration)) [
      | true ↦ (omega arith, refl)
      | false ↦ (omega arith, refl)
    ]

signer_of : (terms : Terms) (source : AccountId) (notes roots : List Note) (k : ℕ) (entry : AuthEntry) (signer : AddressCredentials)
    → slice_get (entries_from terms source notes roots) k ≡ Some entry → entry.credentials ≡ Address signer → SignerOf terms roots k signer
signer_of terms source notes [] k entry signer at is = absurd cc
signer_of terms source notes (r ∷ roots) zero entry signer at is =
    let same = same_Some (entry_of notes (credentials_by terms source r.address) r) entry at in
    (first_signer terms source r roots (same_address r.address (Account source)) signer (ap (λ (e : AuthEntry). e.credentials) same ∙ is)).1.1
signer_of terms source notes (r ∷ roots) (suc k) entry signer at is =
    let h = signer_of (next_terms terms source r.address) source notes roots k entry signer at is in
    let up = next_least terms source r.address in
    record {
      root = h.root;
      here = h.here;
      address = h.address;
      number = h.number;
      nonce = h.nonce;
      least = omega (arith, up.0, h.least);
      expiration = h.expiration ∙ up.1;
    }

-- two entries have different nonces
nonces_apart : (terms : Terms) (source : AccountId) (notes roots : List Note) (j k : ℕ) (e f : AuthEntry) (s t : AddressCredentials) → j < k
    → slice_get (entries_from terms source notes roots) j ≡ Some e → e.credentials ≡ Address s
    → slice_get (entries_from terms source notes roots) k ≡ Some f → f.credentials ≡ Address t → s.nonce ≢ t.nonce
nonces_apart terms source notes [] j k e f s t lt at is bt js same = absurd cc
nonces_apart terms source notes (r ∷ roots) j zero e f s t lt at is bt js same = absurd (omega arith)
nonces_apart terms source notes (r ∷ roots) zero (suc k) e f s t lt at is bt js same =
    let made = same_Some (entry_of notes (credentials_by terms source r.address) r) e at in
    let h = first_signer terms source r roots (same_address r.address (Account source)) s (ap (λ (e : AuthEntry). e.credentials) made ∙ is) in
    let later = signer_of (next_terms terms source r.address) source notes roots k f t bt js in
    let more : (next_terms terms source r.address).nonce ≡ terms.nonce + 1 =
    ap (λ b. (cond b terms (record terms { nonce = terms.nonce + 1 })).nonce) h.0 in
    let one : pos terms.nonce ≡ pos later.number = sym h.1.0 ∙ same ∙ later.nonce in
    let number : terms.nonce ≡ later.number = cc in
    absurd (omega (arith, more, later.least, number))
nonces_apart terms source notes (r ∷ roots) (suc j) (suc k) e f s t lt at is bt js same =
    nonces_apart (next_terms terms source r.address) source notes roots j k e f s t (omega arith) at is bt js same

-- ---- nonces that are free

abbrev pub IsFree : Header → LedgerMap → Credentials → Type 0
IsFree header map SourceAccount = Unit {0}
IsFree header map (Address signer) = seen (next_seq header) map (nonce_key signer.address signer.nonce) ≡ absent

-- the nonces of the entries from this index on
abbrev pub AreFree : Header → LedgerMap → List AuthEntry → ℕ → Type 0
AreFree header map auth first =
    (k : ℕ) (entry : AuthEntry) → first ≤ k → slice_get auth k ≡ Some entry → IsFree header map entry.credentials

abbrev pub Usable : Header → Verdicts → LedgerMap → List AuthEntry → Type 0
Usable header verdicts map auth = All (λ (e : AuthEntry). MayBeUsed header verdicts map e.root_invocation e.credentials) auth

-- an entry that may be used
usable_at : (header : Header) (verdicts : Verdicts) (map : LedgerMap) (auth : List AuthEntry) (k : ℕ) (entry : AuthEntry)
    → Usable header verdicts map auth → slice_get auth k ≡ Some entry → MayBeUsed header verdicts map entry.root_invocation entry.credentials
usable_at header verdicts map auth k entry usable at =
    let P : AuthEntry → Type 0 = λ e. MayBeUsed header verdicts map e.root_invocation e.credentials in
    all_get P auth k entry (recursion_from_All P auth usable) at

usable_free : (header : Header) (verdicts : Verdicts) (map : LedgerMap) (root : Invocation) (c : Credentials)
    → MayBeUsed header verdicts map root c → IsFree header map c
usable_free header verdicts map root SourceAccount h = tt
usable_free header verdicts map root (Address signer) h = h.free

-- at the start all are free
pub free_at_start : (header : Header) (verdicts : Verdicts) (map : LedgerMap) (auth : List AuthEntry) → Usable header verdicts map auth
    → AreFree header map auth 0
free_at_start header verdicts map auth usable k entry le at =
    usable_free header verdicts map entry.root_invocation entry.credentials (usable_at header verdicts map auth k entry usable at)

-- from a later index on fewer have to be free
free_later : (header : Header) (map : LedgerMap) (auth : List AuthEntry) (first later : ℕ) → first ≤ later → AreFree header map auth first
    → AreFree header map auth later
free_later header map auth first later up free k entry le at = let both : first ≤ k = omega (arith, up, le) in free k entry both at

-- the account of an address
account_at : (address : ScAddress) → is_account address ≡ true → (account : AccountId) × (address ≡ Account account)
account_at (Account account) e = (account, refl)
account_at (Contract contract) e = absurd cc
account_at (MuxedAccount id key) e = absurd cc
account_at (ClaimableBalance id) e = absurd cc
account_at (LiquidityPool id) e = absurd cc

signer_account : (terms : Terms) (notes : List Note) (k : ℕ) (signer : AddressCredentials) → Grown notes → SignerOf terms (roots_in notes) k signer
    → (account : AccountId) × (signer.address ≡ Account account)
signer_account terms notes k signer grown h =
    account_at signer.address (ap is_account h.address ∙ root_account notes k h.root grown h.here)

-- each entry is an account's, so a map that differs elsewhere alone has the same nonces
pub free_elsewhere : (header : Header) (terms : Terms) (source : AccountId) (final : List Note) (map other : LedgerMap) (first : ℕ) → Grown final
    → ((key : List ℕ) (account : AccountId) (nonce : ℤ) → key ≡ key_bytes (nonce_key (Account account) nonce) → get other key ≡ get map key)
    → AreFree header map (entries_of terms source final) first → AreFree header other (entries_of terms source final) first
free_elsewhere header terms source final map other first grown same free k entry le at =
    let go : (c : Credentials) → entry.credentials ≡ c → IsFree header map c → IsFree header other c =
    λ c. elim c as (λ c. entry.credentials ≡ c → IsFree header map c → IsFree header other c) [
      | SourceAccount ↦ λ e h. tt
      | Address signer ↦ λ e h.
          let s = signer_of terms source final (roots_in final) k entry signer at e in
          let a = signer_account terms final k signer grown s in
          ap (seen_of (next_seq header)) (same (key_bytes (nonce_key signer.address signer.nonce)) a.0 signer.nonce
          (ap (λ x. key_bytes (nonce_key x signer.nonce)) a.1)) ∙ h
    ] in
    go entry.credentials refl (free k entry le at)

-- a write at the nonce of an entry leaves those of later entries
free_after : (header : Header) (terms : Terms) (source : AccountId) (final : List Note) (map : LedgerMap) (k : ℕ) (entry : AuthEntry)
    (signer : AddressCredentials) (now : Option Kept) → AllByRecursion auth_entry_format.fits (entries_of terms source final)
    → slice_get (entries_of terms source final) k ≡ Some entry → entry.credentials ≡ Address signer
    → AreFree header map (entries_of terms source final) k
    → AreFree header (set_at map (nonce_key signer.address signer.nonce) now) (entries_of terms source final) (k + 1)
free_after header terms source final map k entry signer now fits at is free j later le bt =
    let auth = entries_of terms source final in
    let key = nonce_key signer.address signer.nonce in
    let fit = subst FitsSigner is (entry_fits entry (all_get auth_entry_format.fits auth k entry fits at)) in
    let go : (c : Credentials) → later.credentials ≡ c → FitsSigner c → IsFree header map c → IsFree header (set_at map key now) c =
    λ c. elim c as (λ c. later.credentials ≡ c → FitsSigner c → IsFree header map c → IsFree header (set_at map key now) c) [
      | SourceAccount ↦ λ e f h. tt
      | Address other ↦ λ e f h.
          let mine = nonce_key other.address other.nonce in
          let lt : k < j = omega (arith, le) in
          let apart : (b : Bool) → bytes_eq (key_bytes mine) (key_bytes key) ≡ b → b ≡ false =
          λ b. elim b as (λ b. bytes_eq (key_bytes mine) (key_bytes key) ≡ b → b ≡ false) [
            | true ↦ λ t. absurd (nonces_apart terms source final (roots_in final) k j entry later signer other lt at is bt e
                (same_nonce signer.address other.address signer.nonce other.nonce
                (same_key key mine (key_fits signer.address signer.nonce fit.0 fit.1) (key_fits other.address other.nonce f.0 f.1)
                (sym ((bytes_eq-Decides (key_bytes mine) (key_bytes key)).0 t)))))
            | false ↦ λ f. refl
          ] in
          ap (seen_of (next_seq header)) (found_set map key now (key_bytes mine)
          ∙ ap (λ b. cond b now (get map (key_bytes mine))) (apart (bytes_eq (key_bytes mine) (key_bytes key)) refl)) ∙ h
    ] in
    go later.credentials refl (entry_fits later (all_get auth_entry_format.fits auth j later fits bt))
    (let both : k ≤ j = omega (arith, le) in free j later both bt)

-- ---- the proof of a node's entry

-- the environment of the run with the recorded entries
abbrev pub signed_env : Header → Verdicts → AccountId → List AuthEntry → Env
signed_env header verdicts source auth =
    record { header = header; authority = record { entries = auth; source = source; verdicts = verdicts }; judge = all_allowed }

-- a world that differs in nonces of accounts, the trace and the meter alone
pub record Proved (w v : World) : Type 0 where
  pub rest : v ≡ record w { entries = v.entries; trace = v.trace; meter = v.meter }
  pub maps : (key : List ℕ) → IsNoNonce key → get v.entries key ≡ get w.entries key

-- It ends well, with these nonces free, or its budget is spent.
abbrev pub IsProved : Header → List AuthEntry → ℕ → World → Out (Unit {0}) → Type 0
IsProved header auth first w (Good a v) = Proved w v × AreFree header v.entries auth first
IsProved header auth first w (Bad Spent v) = Unit {0}
IsProved header auth first w _ = ⊥

proved_same : (w : World) → Proved w w
proved_same w = record { rest = refl; maps = λ key other. refl }

-- a charge is paid, or the budget is spent
after_charge : {A : Type 0} (kind : Kind) (amount : ℕ) (act : Act A) (w : World) (P : Out A → Type 0)
    → ((m : Meter) → P (act (record w { meter = m }))) → ((v : World) → P (Bad Spent v)) → P (paying kind amount act w)
unfolding charged
after_charge kind amount act w P paid spent =
    let s = state_of w in
    let used = used_after w.meter kind amount in
    let m : Meter = record w.meter { used = used } in
    elim (has_room w.meter.limits used) as (λ b. P (then_do (lifted w (charged_if b m s)) (λ _. act))) [
      | true ↦ paid m
      | false ↦ spent _
    ]

-- the signature is good
asked : (env : Env) (opener : Opener) (payload : Hash) (signer : AddressCredentials) (root : Invocation) (address : ScAddress)
    → HasSigned env.authority.verdicts payload address → asks env opener payload signer root address ≡ gives tt
asked env opener payload signer root (Account account) h = ap (λ b. only_where b DENIED (gives tt)) h
asked env opener payload signer root (Contract contract) h = absurd h
asked env opener payload signer root (MuxedAccount id key) h = absurd h
asked env opener payload signer root (ClaimableBalance id) h = absurd h
asked env opener payload signer root (LiquidityPool id) h = absurd h

valid : (header : Header) (terms : Terms) (until : ℕ) → IsInTime header terms → until ≡ terms.expiration
    → is_valid_until (next_seq header) header.settings.max_entry_ttl until ≡ true
valid header terms until time e =
    let low : next_seq header ≤ until = omega (arith, time.0, e) in
    let high : until < next_seq header + header.settings.max_entry_ttl = omega (arith, time.1, e) in
    and_from (nat_le (next_seq header) until) (nat_lt until (next_seq header + header.settings.max_entry_ttl))
    (le-leb (next_seq header) until low) ((Decides-ltb until (next_seq header + header.settings.max_entry_ttl)).1 high)

-- a write at the nonce of an account
written_nonce : (map : LedgerMap) (signer : AddressCredentials) (now : Option Kept) (account : AccountId) → signer.address ≡ Account account
    → (key : List ℕ) → IsNoNonce key → get (set_at map (nonce_key signer.address signer.nonce) now) key ≡ get map key
written_nonce map signer now account is key other =
    let own = nonce_key signer.address signer.nonce in
    let apart : (b : Bool) → bytes_eq key (key_bytes own) ≡ b → b ≡ false =
    λ b. elim b as (λ b. bytes_eq key (key_bytes own) ≡ b → b ≡ false) [
      | true ↦ λ t. absurd (other account signer.nonce ((bytes_eq-Decides key (key_bytes own)).0 t ∙ ap (λ x. key_bytes (nonce_key x signer.nonce)) is))
      | false ↦ λ f. refl
    ] in
    found_set map own now key ∙ ap (λ b. cond b now (get map key)) (apart (bytes_eq key (key_bytes own)) refl)

-- the nonce is there until the signature ends
abbrev kept_nonce : Header → AddressCredentials → Option Kept
kept_nonce header signer =
    Some (record {
      entry = nonce_entry (next_seq header) signer.address signer.nonce;
      live_until = signer.signature_expiration_ledger;
    })

-- A valid signer with a free nonce, which it uses: what is true of any world with that nonce, another trace and another meter is
-- true of the outcome, if it is true of the end of the budget.
signer_proves : (header : Header) (verdicts : Verdicts) (source : AccountId) (auth : List AuthEntry) (opener : Opener) (root : Invocation)
    (signer : AddressCredentials) (w : World) (P : Out (Unit {0}) → Type 0)
    → is_valid_until (next_seq header) header.settings.max_entry_ttl signer.signature_expiration_ledger ≡ true
    → seen (next_seq header) w.entries (nonce_key signer.address signer.nonce) ≡ absent
    → HasSigned verdicts (hash_of (sha256 (signed_bytes header.network_id signer root))) signer.address
    → ((v : World) → v ≡ record w { entries = v.entries; trace = v.trace; meter = v.meter }
    → v.entries ≡ set_at w.entries (nonce_key signer.address signer.nonce) (kept_nonce header signer) → P (Good tt v))
    → ((v : World) → P (Bad Spent v))
    → P (proves_by (signed_env header verdicts source auth) opener root signer w)
signer_proves header verdicts source auth opener root signer w P in_time free good done spent =
    let env = signed_env header verdicts source auth in
    let key = nonce_key signer.address signer.nonce in
    let payload = signed_bytes header.network_id signer root in
    let next : Unit {0} → Act (Unit {0}) = λ _. paying ComputeSha256Hash (length payload) (asks env opener (hash_of (sha256 payload)) signer root signer.address) in
    let entry = nonce_entry (next_seq header) signer.address signer.nonce in
    let effect = uses (next_seq header) signer in
    let write : Act (Unit {0}) = effected key (leaves (kept_nonce header signer) tt) in
    let seen_it : uses_nonce env signer w ≡ paying ValSer (entry_size entry) write (noted Write key w) =
    ap (λ b. only_where b EXPIRED (access env Write key effect) w) in_time ∙ ap (λ x. by_seen key effect x (noted Write key w)) free in
    let last : (u : World) → P (next tt u) → P (then_do (Good tt u) next) = λ u h. h in
    subst (λ o. P (then_do o next)) (sym seen_it)
    (after_charge ValSer (entry_size entry) write (noted Write key w) (λ o. P (then_do o next))
    (λ m.
    let u : World = record w { entries = set_at w.entries key (kept_nonce header signer); trace = (noted Write key w).trace; meter = m } in
    subst (λ (act : Act (Unit {0})). P (paying ComputeSha256Hash (length payload) act u))
    (sym (asked env opener (hash_of (sha256 payload)) signer root signer.address good))
    (after_charge ComputeSha256Hash (length payload) (gives tt) u P
    (λ n. done (record u { meter = n }) refl refl) spent))
    spent)

-- the entry of a root
entry_proved : (header : Header) (verdicts : Verdicts) (terms : Terms) (source : AccountId) (map : LedgerMap) (opener : Opener)
    (final : List Note) (w : World) (k : ℕ) (entry : AuthEntry) → Grown final
    → AllByRecursion auth_entry_format.fits (entries_of terms source final)
    → IsInTime header terms → Usable header verdicts map (entries_of terms source final)
    → AreFree header w.entries (entries_of terms source final) k → slice_get (entries_of terms source final) k ≡ Some entry
    → IsProved header (entries_of terms source final) (k + 1) w
    (proves (signed_env header verdicts source (entries_of terms source final)) opener entry.root_invocation entry.credentials w)
entry_proved header verdicts terms source map opener final w k entry grown fits time usable free at =
    let auth = entries_of terms source final in
    let env = signed_env header verdicts source auth in
    let root = entry.root_invocation in
    let go : (c : Credentials) → entry.credentials ≡ c → MayBeUsed header verdicts map root c → IsFree header w.entries c
    → IsProved header auth (k + 1) w (proves env opener root c w) =
    λ c. elim c as (λ c. entry.credentials ≡ c → MayBeUsed header verdicts map root c → IsFree header w.entries c
    → IsProved header auth (k + 1) w (proves env opener root c w)) [
      | SourceAccount ↦ λ e may now. (proved_same w, let up : k ≤ k + 1 = omega arith in free_later header w.entries auth k (k + 1) up free)
      | Address signer ↦ λ e may now.
          let s = signer_of terms source final (roots_in final) k entry signer at e in
          let a = signer_account terms final k signer grown s in
          let kept = kept_nonce header signer in
          let key = nonce_key signer.address signer.nonce in
          signer_proves header verdicts source auth opener root signer w (IsProved header auth (k + 1) w)
          (valid header terms signer.signature_expiration_ledger time s.expiration) now may.signed
          (λ v rest made. (
            record { rest = rest; maps = λ q other. ap (λ m. get m q) made ∙ written_nonce w.entries signer kept a.0 a.1 q other },
            subst (λ m. AreFree header m auth (k + 1)) (sym made)
                (free_after header terms source final w.entries k entry signer kept fits at e free),
          ))
          (λ v. tt)
    ] in
    let same : k ≤ k = omega arith in
    go entry.credentials refl (usable_at header verdicts map auth k entry usable at) (free k entry same at)

-- nothing is owed for a child
child_proved : (env : Env) (opener : Opener) (entry : ℕ) (xs : List ℕ) (k : ℕ) (w : World)
    → proves_root env opener entry (xs ++ k ∷ []) w ≡ Good tt w
child_proved env opener entry [] k w = refl
child_proved env opener entry (x ∷ xs) k w = refl

-- The entry of a node proves that it authorises: nothing is owed for a child, or for the source, and else the nonce is free and
-- the account signed. (map is the map at the start of the run, w the world of the run with entries.)
pub noted_is_proved : (header : Header) (verdicts : Verdicts) (terms : Terms) (source : AccountId) (map : LedgerMap) (opener : Opener)
    (ns : List Note) (n : Note) (more final : List Note) (w : World)
    → Grown final → final ≡ ns ++ n ∷ more
    → AllByRecursion auth_entry_format.fits (entries_of terms source final)
    → IsInTime header terms → Usable header verdicts map (entries_of terms source final)
    → AreFree header w.entries (entries_of terms source final) (length (roots_in ns))
    → IsProved header (entries_of terms source final) (length (roots_in (ns ++ n ∷ []))) w
    (proves_root (signed_env header verdicts source (entries_of terms source final)) opener n.pair.entry n.pair.node w)
noted_is_proved header verdicts terms source map opener ns n more final w grown whole fits time usable free =
    let auth = entries_of terms source final in
    let env = signed_env header verdicts source auth in
    let long : length (roots_in (ns ++ n ∷ [])) ≡ length (roots_in ns) + length (roots_in (n ∷ [])) =
    ap length (roots_append ns n []) ∙ length-append (roots_in ns) (roots_in (n ∷ [])) in
    let count : ℕ = length (roots_in ns) in
    elim (stood ns n (grown_at final ns more n grown whole)) [
      | inl r ↦
          let tree : slice_get (roots_in final) n.pair.entry ≡ Some n =
          ap (λ xs. slice_get (roots_in xs) n.pair.entry) whole ∙ root_here ns more n r in
          let entry = entry_of final (credentials_by (terms_after terms source (take n.pair.entry (roots_in final))) source n.address) n in
          let at : slice_get auth n.pair.entry ≡ Some entry = root_entry terms source final n.pair.entry n tree in
          let own : AreFree header w.entries auth n.pair.entry = subst (AreFree header w.entries auth) (sym r.entry) free in
          let one : roots_in (n ∷ []) ≡ n ∷ [] = ap (λ b. cond b (n ∷ []) []) (ap is_root r.node) in
          let next : n.pair.entry + 1 ≡ length (roots_in (ns ++ n ∷ [])) = omega (arith, long, r.entry, ap length one) in
          let owed : proves_root env opener n.pair.entry n.pair.node w ≡ proves env opener entry.root_invocation entry.credentials w =
          ap (λ xs. proves_root env opener n.pair.entry xs w) r.node ∙ ap (λ o. proves_entry env opener o w) at in
          subst (λ o. IsProved header auth (length (roots_in (ns ++ n ∷ []))) w o) (sym owed)
          (subst (λ k. IsProved header auth k w (proves env opener entry.root_invocation entry.credentials w)) next
          (entry_proved header verdicts terms source map opener final w n.pair.entry entry grown fits time usable own at))
      | inr c ↦
          let owed : proves_root env opener n.pair.entry n.pair.node w ≡ Good tt w =
          ap (λ xs. proves_root env opener n.pair.entry xs w) c.node ∙ child_proved env opener n.pair.entry c.parent.pair.node (child_count ns c.parent.pair) w in
          subst (λ o. IsProved header auth (length (roots_in (ns ++ n ∷ []))) w o) (sym owed) (
            proved_same w,
            let up : count ≤ length (roots_in (ns ++ n ∷ [])) = omega (arith, long) in
                free_later header w.entries auth count (length (roots_in (ns ++ n ∷ []))) up free,
          )
    ]
