-- An entry is proved in two parts: up to the run of a contract's own function, and the rest.
use Rattle.std.proofs.Common.{◌≡◌, Bool, true, false, List, [], ◌∷◌, length, Some, Result, Ok, Err, refl, sym, ap, ◌∙◌}
use Rattle.sha2.specs.Sha256.{sha256}
use Rattle.budget_meter.specs.declared.kind.Kind.TheVariants.{ValDeser, ComputeSha256Hash}
use Rattle.value_types.specs.Datum.{Datum}
use Rattle.value_types.specs.Hash.{hash_of}
use Rattle.value_types.specs.declared.hash.Hash.{Hash}
use Rattle.value_types.specs.declared.error.ScError.{ScError}
use Rattle.value_types.specs.declared.address.ScAddress.{ScAddress}
use Rattle.value_types.specs.declared.address.ScAddress.TheVariants as addresses
use Rattle.auth_types.specs.Payload.{signed_bytes}
use Rattle.auth_types.specs.declared.invocation.Invocation.{Invocation}
use Rattle.auth_types.specs.declared.credentials.AddressCredentials.{AddressCredentials}
use Rattle.auth_types.specs.declared.credentials.Credentials.{Credentials}
use Rattle.auth_types.specs.declared.credentials.Credentials.TheVariants.{SourceAccount, Address}
use Rattle.auth_types.specs.declared.auth_entry.AuthEntry.{AuthEntry}
use Rattle.host_spec.specs.Acts as values
use Rattle.host_spec.specs.Hosted.{size_of}
use Rattle.call_spec.specs.Errors.{DENIED}
use Rattle.call_spec.specs.World.{World, Env}
use Rattle.call_spec.specs.Acts.{Failed, Spent, Archived, Out, Good, Bad, Undeclared, Act, then_do, after, gives, only_where, lift, paying}
use Rattle.call_spec.specs.Frames.{Opener, is_void}
use Rattle.call_spec.specs.Calling.{calls_for_host}
use Rattle.call_spec.specs.Entering.{argument_entry, only_if_let_in, entering}
use Rattle.call_spec.specs.Asking.{denied, denying, is_good, check_args, check_of, asks, uses_nonce, proves_by, proves}
use Rattle.call_spec.specs.Demands.{proves_entry}
use Rattle.auth_parts.specs.Asked.{Asked, proved, by_contract, asks_address, asks_payload, asks_signer, asks_by, asks_first, asks_then}

-- ---- acts

then_assoc : {A B C : Type 0} (out : Out A) (f : A → Act B) (g : B → Act C) → then_do (then_do out f) g ≡ then_do out (λ a w. then_do (f a w) g)
then_assoc (Good a w) f g = refl
then_assoc (Bad e w) f g = refl
then_assoc (Undeclared a w) f g = refl

then_same : {A B : Type 0} (out : Out A) (f g : A → Act B) → ((a : A) (w : World) → f a w ≡ g a w) → then_do out f ≡ then_do out g
then_same (Good a w) f g h = h a w
then_same (Bad e w) f g h = refl
then_same (Undeclared a w) f g h = refl

denied_then : {A B : Type 0} (out : Out A) (next : A → Act B) → denied (then_do out next) ≡ then_do (denied out) (λ a. denying (next a))
denied_then (Good a w) next = refl
denied_then (Bad (Failed e) w) next = refl
denied_then (Bad Spent w) next = refl
denied_then (Bad (Archived key) w) next = refl
denied_then (Undeclared a w) next = refl

-- ---- arguments that enter

let_in : {A B : Type 0} (r : Result Datum ScError) (enter : Act B) (first : Act A) (next : A → Act B) → ((w : World) → enter w ≡ then_do (first w) next)
    → (w : World) → only_if_let_in r enter w ≡ then_do (only_if_let_in r first w) next
let_in (Ok d) enter first next h w = h w
let_in (Err e) enter first next h w = refl

-- what comes after the arguments have entered
pub entering_then : {A B : Type 0} (ds : List Datum) (a : A) (next : A → Act B) (w : World) → entering ds (next a) w ≡ then_do (entering ds (gives a) w) next
entering_then [] a next w = refl
entering_then (d ∷ ds) a next w =
    then_same (lift (values.charged ValDeser (size_of d)) w) (λ _. only_if_let_in (argument_entry d) (entering ds (next a))) (λ _ v. then_do (only_if_let_in (argument_entry d) (entering ds (gives a)) v) next)
    (λ u v. let_in (argument_entry d) (entering ds (next a)) (entering ds (gives a)) next (λ x. entering_then ds a next x) v)
    ∙ sym (then_assoc (lift (values.charged ValDeser (size_of d)) w) (λ _. only_if_let_in (argument_entry d) (entering ds (gives a))) next)

-- ---- the address

module _ (env : Env) (opener : Opener) where
  -- the rest, before its failures are denied
  abbrev runs : Asked → Act (Unit {0})
  runs proved = gives tt
  runs (by_contract contract args) = after (calls_for_host env opener (check_of contract args)) (λ d. only_where (is_void d) DENIED (gives tt))

  runs_denied : (a : Asked) (w : World) → denied (runs a w) ≡ asks_then env opener a w
  runs_denied proved w = refl
  runs_denied (by_contract contract args) w = refl

  account : (b : Bool) (w : World) → only_where b DENIED (gives (tt {0})) w ≡ then_do (only_where b DENIED (gives proved) w) (asks_then env opener)
  account true w = refl
  account false w = refl

  contract_asked : (contract : Hash) (args : List Datum) (w : World)
      → denied (entering args (runs (by_contract contract args)) w) ≡ then_do (denied (entering args (gives (by_contract contract args)) w)) (asks_then env opener)
  contract_asked contract args w =
      ap denied (entering_then args (by_contract contract args) runs w)
      ∙ denied_then (entering args (gives (by_contract contract args)) w) runs
      ∙ then_same (denied (entering args (gives (by_contract contract args)) w)) (λ a. denying (runs a)) (asks_then env opener) runs_denied

  address_asked : (payload : Hash) (signer : AddressCredentials) (root : Invocation) (address : ScAddress) (w : World)
      → asks env opener payload signer root address w ≡ then_do (asks_address env payload signer root address w) (asks_then env opener)
  address_asked payload signer root (addresses.Account key) w = account (is_good env.authority.verdicts key.0 payload) w
  address_asked payload signer root (addresses.Contract contract) w = contract_asked contract (check_args payload signer root) w
  address_asked payload signer root (addresses.MuxedAccount id key) w = refl
  address_asked payload signer root (addresses.ClaimableBalance id) w = refl
  address_asked payload signer root (addresses.LiquidityPool id) w = refl

  -- ---- the entry

  payload_asked : (payload : List _) (signer : AddressCredentials) (root : Invocation) (w : World)
      → paying ComputeSha256Hash (length payload) (asks env opener (hash_of (sha256 payload)) signer root signer.address) w ≡ then_do (asks_payload env payload signer root w) (asks_then env opener)
  payload_asked payload signer root w =
      let hash = hash_of (sha256 payload) in
      then_same (lift (values.charged ComputeSha256Hash (length payload)) w) (λ _. asks env opener hash signer root signer.address) (λ _ v. then_do (asks_address env hash signer root signer.address v) (asks_then env opener))
      (λ u v. address_asked hash signer root signer.address v)
      ∙ sym (then_assoc (lift (values.charged ComputeSha256Hash (length payload)) w) (λ _. asks_address env hash signer root signer.address) (asks_then env opener))

  signer_asked : (root : Invocation) (signer : AddressCredentials) (w : World) → proves_by env opener root signer w ≡ then_do (asks_signer env root signer w) (asks_then env opener)
  signer_asked root signer w =
      let payload = signed_bytes env.header.network_id signer root in
      then_same (uses_nonce env signer w) (λ _. paying ComputeSha256Hash (length payload) (asks env opener (hash_of (sha256 payload)) signer root signer.address)) (λ _ v. then_do (asks_payload env payload signer root v) (asks_then env opener))
      (λ u v. payload_asked payload signer root v)
      ∙ sym (then_assoc (uses_nonce env signer w) (λ _. asks_payload env payload signer root) (asks_then env opener))

  by_asked : (root : Invocation) (credentials : Credentials) (w : World) → proves env opener root credentials w ≡ then_do (asks_by env root credentials w) (asks_then env opener)
  by_asked root SourceAccount w = refl
  by_asked root (Address signer) w = signer_asked root signer w

  -- The entry is proved by what `asks_first` and then `asks_then` do.
  pub entry_asked : (entry : AuthEntry) (w : World) → proves_entry env opener (Some entry) w ≡ after (asks_first env entry) (asks_then env opener) w
  entry_asked entry w = by_asked entry.root_invocation entry.credentials w
