-- The steps of asking, from the calls that they are made of.
use Rattle.std.proofs.Common.{◌≡◌, ℕ, List, length, Result, Ok, Err, refl, sym, ap, subst}
use Rattle.sha2.specs.Sha256.{sha256}
use Rattle.budget_meter.specs.Meter.{Meter}
use Rattle.budget_meter.specs.declared.kind.Kind.TheVariants.{ComputeSha256Hash}
use Rattle.value_types.specs.Datum.{Datum}
use Rattle.value_types.specs.Hash.{hash_of}
use Rattle.value_types.specs.Views.{datums}
use Rattle.value_types.specs.declared.hash.Hash.{Hash}
use Rattle.value_types.specs.declared.account_id.AccountId.{AccountId}
use Rattle.value_types.specs.declared.address.ScAddress.{ScAddress}
use Rattle.value_types.specs.declared.address.ScAddress.TheVariants.{Account}
use Rattle.value_types.specs.declared.value.ScVal.{ScVal}
use Rattle.ledger_types.specs.declared.verdicts.Verdicts.{Verdicts}
use Rattle.auth_types.specs.AuthEntry.{auth_entry_format}
use Rattle.auth_types.specs.Credentials.{credentials_format, address_credentials_format}
use Rattle.auth_types.specs.Invocation.{invocation_format}
use Rattle.auth_types.specs.Payload.{signed_bytes}
use Rattle.auth_types.specs.declared.invocation.Invocation.{Invocation}
use Rattle.auth_types.specs.declared.credentials.AddressCredentials.{AddressCredentials}
use Rattle.auth_types.specs.declared.credentials.Credentials.{Credentials}
use Rattle.auth_types.specs.declared.credentials.Credentials.TheVariants.{Address}
use Rattle.auth_types.specs.declared.auth_entry.AuthEntry.{AuthEntry}
use Rattle.host_spec.specs.Acts as values
use Rattle.host_spec.specs.declared.error.ValueErr.{ValueErr}
use Rattle.host_spec.specs.declared.error.ValueErr.TheVariants as errs
use Rattle.host_spec.specs.declared.error.HostErr.{HostErr}
use Rattle.contract_storage.specs.Stored.{Stored, IsLater}
use Rattle.call_spec.specs.Errors.{DENIED}
use Rattle.call_spec.specs.World.{World, Env}
use Rattle.call_spec.specs.Acts.{Act, Out, gives, only_where, lift, paying}
use Rattle.call_spec.specs.Outcomes.{Leaves, quiet, Says}
use Rattle.host_ledger.specs.Traced.{leaving}
use Rattle.host_ledger.proofs.Lemmas.{since}
use Rattle.call_spec.specs.Entering.{entering}
use Rattle.call_spec.specs.Asking.{denied, denying, is_good, uses_nonce}
use Rattle.host_ledger.specs.Worlds.{Serves}
use Rattle.call_parts.specs.Steps.{Steps, Charges, Returns}
use Rattle.call_parts.proofs.Lemmas.{charges_steps, charges_stop, charges_then, goes, returns_charges, serves_later, stops}
use Rattle.auth_parts.specs.Asked.{Asked, proved, by_contract, asks_address, asks_payload, asks_signer, asks_by, asks_first}
use Rattle.auth_parts.specs.Entering.{with_meter, Enters}
use Rattle.auth_parts.specs.Views.{asked, denied_end}
use Rattle.auth_parts.specs.declared.asking.Asked.{Asked as Asked'}
use Rattle.auth_parts.proofs.Passing.{enters_any}

-- the arguments of a contract's own function enter, and every failure is one of authorisation
abbrev pub enters_for : Hash → List Datum → Act Asked
enters_for contract ds = denying (entering ds (gives (by_contract contract ds)))

-- ---- arguments that entered

pub contract_asked : (u : Unit {0}) (contract : Hash) (a : Asked') (ds : List Datum) (before after : Meter) → asked a ≡ by_contract contract ds
    → (let r : Result (Unit {0}) ValueErr = Ok u in Enters {A = Datum} r (entering ds) before after)
    → (let q : Result Asked' HostErr = Ok a in Charges q asked (enters_for contract ds) before after)
contract_asked u contract a ds before after is h w e =
    let q : Result Asked' HostErr = Ok a in
    subst (λ (out : Out Asked). Says q asked (denied out) (quiet w (λ trace. record w { meter = after }))) (sym (enters_any Asked (Ok u) ds before after h (gives (by_contract contract ds)) w e))
    (refl, ap (λ (x : Asked). gives x (with_meter after w)) (sym is))

pub contract_refused : (error : ValueErr) (x : HostErr) (contract : Hash) (ds : List Datum) (before after : Meter) → x ≡ denied_end error
    → (let r : Result (Unit {0}) ValueErr = Err error in Enters {A = Datum} r (entering ds) before after)
    → (let q : Result Asked' HostErr = Err x in Charges q asked (enters_for contract ds) before after)
contract_refused error x contract ds before after is h =
    subst (λ (y : HostErr). let q : Result Asked' HostErr = Err y in Charges q asked (enters_for contract ds) before after) (sym is) (at error h)
  where
    at : (error : ValueErr) → (let r : Result (Unit {0}) ValueErr = Err error in Enters {A = Datum} r (entering ds) before after)
        → (let q : Result Asked' HostErr = Err (denied_end error) in Charges q asked (enters_for contract ds) before after)
    at (errs.Failed e) h w i =
        let q : Result Asked' HostErr = Err (denied_end (errs.Failed e)) in
        subst (λ (out : Out Asked). Says q asked (denied out) (quiet w (λ trace. record w { meter = after }))) (sym (enters_any Asked (Err (errs.Failed e)) ds before after h (gives (by_contract contract ds)) w i)) (refl, refl)
    at errs.Spent h w i =
        let q : Result Asked' HostErr = Err (denied_end errs.Spent) in
        subst (λ (out : Out Asked). Says q asked (denied out) (quiet w (λ trace. record w { meter = after }))) (sym (enters_any Asked (Err errs.Spent) ds before after h (gives (by_contract contract ds)) w i)) (refl, refl, refl, refl)
    at errs.NoMemory h w i = tt

pub contract_args : (contract : Hash) (q : Result Asked' HostErr) (ds es : List Datum) (before after : Meter) → ds ≡ es → Charges q asked (enters_for contract ds) before after → Charges q asked (enters_for contract es) before after
contract_args contract q ds es before after same h = subst (λ (xs : List Datum). Charges q asked (enters_for contract xs) before after) same h

-- the tests of a slice that lends these values
pub lent_enters : (r : Result (Unit {0}) ValueErr) (vs items : List ScVal) (before after : Meter) → vs ≡ items → Enters {A = Datum} r (entering (datums vs)) before after → Enters {A = Datum} r (entering (datums items)) before after
lent_enters r vs items before after same h = subst (λ (xs : List ScVal). Enters {A = Datum} r (entering (datums xs)) before after) same h

-- ---- addresses

pub account_asked : (q : Result Asked' HostErr) (env : Env) (verdicts : Verdicts) (payload : Hash) (signer : AddressCredentials) (root : Invocation) (address : ScAddress) (account : AccountId) (meter : Meter) → address ≡ Account account
    → env.authority.verdicts ≡ verdicts → Returns q asked (only_where (is_good verdicts account.0 payload) DENIED (gives proved)) → Charges q asked (asks_address env payload signer root address) meter meter
account_asked q env verdicts payload signer root address account meter is same h =
    subst (λ (a : ScAddress). Charges q asked (asks_address env payload signer root a) meter meter) (sym is)
    (subst (λ (v : Verdicts). Charges q asked (only_where (is_good v account.0 payload) DENIED (gives proved)) meter meter) (sym same)
    (returns_charges q asked (only_where (is_good verdicts account.0 payload) DENIED (gives proved)) meter h))

pub address_asked : (q : Result Asked' HostErr) (env : Env) (payload : Hash) (signer : AddressCredentials) (root : Invocation) (address other : ScAddress) (before after : Meter) → address ≡ other
    → Charges q asked (asks_address env payload signer root other) before after → Charges q asked (asks_address env payload signer root address) before after
address_asked q env payload signer root address other before after is h = subst (λ (a : ScAddress). Charges q asked (asks_address env payload signer root a) before after) (sym is) h

-- ---- what was signed

-- what an entry that has a spelling holds
pub signer_fits : (entry : AuthEntry) (signer : AddressCredentials) → auth_entry_format.fits entry → entry.credentials ≡ Address signer → address_credentials_format.fits signer
unfolding auth_entry_format credentials_format
signer_fits entry signer h is = subst (λ (c : Credentials). credentials_format.fits c) is h.0

pub root_fits : (entry : AuthEntry) → auth_entry_format.fits entry → invocation_format.fits entry.root_invocation
unfolding auth_entry_format
root_fits entry h = h.1

module _ (env : Env) (signer : AddressCredentials) (root : Invocation) where
  -- the judgement of a payload, after its charge
  abbrev judges : List ℕ → Act Asked
  judges payload = asks_address env (hash_of (sha256 payload)) signer root signer.address

  pub payload_paid : (u : Unit {0}) (q : Result Asked' HostErr) (payload other : List ℕ) (len : ℕ) (before between after : Meter) → len ≡ length payload → payload ≡ other
      → (let r : Result (Unit {0}) HostErr = Ok u in Charges r (λ u. u) (lift (values.charged ComputeSha256Hash len)) before between) → Charges q asked (judges payload) between after → Charges q asked (asks_payload env other signer root) before after
  payload_paid u q payload other len before between after sized same h k =
      subst (λ (p : List ℕ). Charges q asked (asks_payload env p signer root) before after) same
      (subst (λ (n : ℕ). Charges q asked (paying ComputeSha256Hash n (judges payload)) before after) sized
      (charges_then (λ (v : Unit {0}). v) asked u q (lift (values.charged ComputeSha256Hash len)) (λ _. judges payload) before between after h k))

  pub payload_unpaid : (e : HostErr) (payload other : List ℕ) (len : ℕ) (before after : Meter) → len ≡ length payload → payload ≡ other
      → (let r : Result (Unit {0}) HostErr = Err e in Charges r (λ u. u) (lift (values.charged ComputeSha256Hash len)) before after)
      → (let q : Result Asked' HostErr = Err e in Charges q asked (asks_payload env other signer root) before after)
  payload_unpaid e payload other len before after sized same h =
      let q : Result Asked' HostErr = Err e in
      subst (λ (p : List ℕ). Charges q asked (asks_payload env p signer root) before after) same
      (subst (λ (n : ℕ). Charges q asked (paying ComputeSha256Hash n (judges payload)) before after) sized
      (charges_stop (λ (v : Unit {0}). v) asked e (lift (values.charged ComputeSha256Hash len)) (λ _. judges payload) before after h))

  -- ---- the nonce, and then the payload

  -- what comes after the nonce
  abbrev pays : Act Asked
  pays = asks_payload env (signed_bytes env.header.network_id signer root) signer root

  pub signer_asked : (u : Unit {0}) (q : Result Asked' HostErr) (old new : Stored) (before between after : Meter) → Serves env old → IsLater old new
      → (let r : Result (Unit {0}) HostErr = Ok u in Steps r (λ u. u) (λ env. uses_nonce env signer) old new before between) → Charges q asked pays between after
      → (w : World) → w.entries ≡ old.map → w.meter ≡ before → Says q asked (asks_signer env root signer w) (leaving old new w.trace (λ trace. record w { entries = new.map; trace = trace; meter = after }))
  signer_asked u q old new before between after serves later h k w i j =
      goes (λ (v : Unit {0}). v) asked u q (uses_nonce env signer w) (λ _. pays) (leaving old new w.trace (λ trace. record w { entries = new.map; trace = trace; meter = between }))
      (leaving old new w.trace (λ trace. record w { entries = new.map; trace = trace; meter = after })) (h env serves w i j)
      (λ t told. since q asked (pays (record w { entries = new.map; trace = t; meter = between })) old new new w.trace t (λ trace. record w { entries = new.map; trace = trace; meter = after }) told
      (charges_steps q asked pays new between after k env (serves_later env old new later serves) (record w { entries = new.map; trace = t; meter = between }) refl refl))

  pub signer_stops : (e : HostErr) (old new : Stored) (before after : Meter) → Serves env old → (let r : Result (Unit {0}) HostErr = Err e in Steps r (λ u. u) (λ env. uses_nonce env signer) old new before after)
      → (w : World) → w.entries ≡ old.map → w.meter ≡ before
      → (let q : Result Asked' HostErr = Err e in Says q asked (asks_signer env root signer w) (leaving old new w.trace (λ trace. record w { entries = new.map; trace = trace; meter = after })))
  signer_stops e old new before after serves h w i j =
      stops (λ (v : Unit {0}). v) asked e (uses_nonce env signer w) (λ _. pays) (leaving old new w.trace (λ trace. record w { entries = new.map; trace = trace; meter = after })) (h env serves w i j)

-- ---- entries

pub entry_asked : (q : Result Asked' HostErr) (env : Env) (entry : AuthEntry) (signer : AddressCredentials) (w : World) (left : Leaves) → entry.credentials ≡ Address signer
    → Says q asked (asks_signer env entry.root_invocation signer w) left → Says q asked (asks_first env entry w) left
entry_asked q env entry signer w left is h = subst (λ (c : Credentials). Says q asked (asks_by env entry.root_invocation c w) left) (sym is) h
