-- Accesses of ledger keys that are no nonces of accounts, in the run whose demands are noted and in the one with entries.
use Rattle.std.proofs.Common.{◌≡◌, ℕ, ℤ, List, Option, Some, None, Bool, true, false, cond, refl, sym, ap, ◌∙◌}
use Rattle.std.specs.Str.{bytes_eq}
use Rattle.std.specs.FinMap.{get}
use Rattle.std.proofs.lemmas.Slice.Eq.{bytes_eq-Decides}
use Rattle.value_types.specs.Datum.{Datum}
use Rattle.value_types.specs.Views.{scval}
use Rattle.value_types.specs.declared.hash.Hash.{Hash}
use Rattle.value_types.specs.declared.value.ScVal.TheVariants.{LedgerKeyContractInstance}
use Rattle.value_types.specs.declared.account_id.AccountId.{AccountId}
use Rattle.value_types.specs.declared.address.ScAddress.TheVariants.{Account}
use Rattle.ledger_types.specs.declared.durability.Durability.{Durability}
use Rattle.ledger_types.specs.declared.durability.Durability.TheVariants.{Persistent}
use Rattle.ledger_types.specs.declared.key.LedgerKey.{LedgerKey}
use Rattle.ledger_spec.specs.declared.Kept.{Kept}
use Rattle.ledger_spec.specs.LedgerMap.{LedgerMap, key_bytes}
use Rattle.ledger_spec.specs.Seen.{Seen, live, absent, archived, seen, seen_of}
use Rattle.stage_runs.specs.Maps.{set_at}
use Rattle.stage_runs.proofs.Lemmas.{found_set}
use Rattle.call_spec.specs.World.{AccessKind, World, next_seq}
use Rattle.call_spec.specs.Acts.{Archived}
use Rattle.call_spec.specs.Accesses.{Effect, answers, leaves, refuses, costs, effected, noted, by_seen, access}
use Rattle.call_spec.specs.Asking.{nonce_key}
use Rattle.call_spec.specs.Keys.{data_key, instance_key, code_key}
use Rattle.record_spec.proofs.Nonces.{IsNoNonce, contract_is_no_nonce, code_is_no_nonce, free_elsewhere}
use Rattle.record_spec.proofs.Beside.{Setting, Given, noting_env, proving_env, grows_refl, Beside, Agreeing}
use Rattle.record_spec.proofs.Acts.{good_agrees, bad_agrees, fails_agrees, with_agrees, Keeping, changed_agrees, paying_agrees}

-- ---- writes

module _ (key : LedgerKey) (now : Option Kept) (plain : IsNoNonce (key_bytes key)) where
  other_bytes : (account : AccountId) (nonce : ℤ) (k : List ℕ) → k ≡ key_bytes (nonce_key (Account account) nonce) → (b : Bool) → bytes_eq k (key_bytes key) ≡ b → b ≡ false
  other_bytes account nonce k is true e = absurd (plain account nonce (sym ((bytes_eq-Decides k (key_bytes key)).0 e) ∙ is))
  other_bytes account nonce k is false e = refl

  -- a write at such a key leaves the nonces of accounts
  set_elsewhere : (map : LedgerMap) (k : List ℕ) (account : AccountId) (nonce : ℤ) → k ≡ key_bytes (nonce_key (Account account) nonce) → get (set_at map key now) k ≡ get map k
  set_elsewhere map k account nonce is =
      found_set map key now k ∙ ap (λ b. cond b now (get map k)) (other_bytes account nonce k is (bytes_eq k (key_bytes key)) refl)

module _ (s : Setting) (known : Given s) where
  set_beside : (key : LedgerKey) (now : Option Kept) → IsNoNonce (key_bytes key) → (w v : World) → Beside s w v
      → Beside s (record w { entries = set_at w.entries key now }) (record v { entries = set_at v.entries key now })
  set_beside key now plain w v b = record {
    noted = b.noted;
    none = b.none;
    empty = b.empty;
    pairs = b.pairs;
    events = b.events;
    frame = b.frame;
    contracts = b.contracts;
    caller = b.caller;
    maps = λ k other. found_set v.entries key now k ∙ ap (cond (bytes_eq k (key_bytes key)) now) (b.maps k other) ∙ sym (found_set w.entries key now k);
    free = free_elsewhere s.header s.terms s.source s.final v.entries (set_at v.entries key now) _ known.grown (set_elsewhere key now plain v.entries) b.free;
  }

  -- ---- effects

  effected_agrees : {A : Type 0} (key : LedgerKey) → IsNoNonce (key_bytes key) → (effect : Effect A) → Agreeing s (effected key effect) (effected key effect)
  effected_agrees key plain (answers a) = good_agrees s a
  effected_agrees key plain (leaves now a) = record { grows = λ w. grows_refl w.noted; agree = λ w v b i t p q. (refl, set_beside key now plain w v b) }
  effected_agrees key plain (refuses e) = fails_agrees s e
  effected_agrees key plain (costs kind input effect) = paying_agrees s kind input (effected key effect) (effected key effect) (effected_agrees key plain effect)

  seen_agrees : {A : Type 0} (key : LedgerKey) → IsNoNonce (key_bytes key) → (effect : Option Kept → Effect A) (x : Seen) → Agreeing s (by_seen key effect x) (by_seen key effect x)
  seen_agrees key plain effect (live kept) = effected_agrees key plain (effect (Some kept))
  seen_agrees key plain effect absent = effected_agrees key plain (effect None)
  seen_agrees key plain effect archived = bad_agrees s (Archived key)

  -- ---- accesses

  traced : (kind : AccessKind) (key : LedgerKey) → Keeping s (noted kind key) (noted kind key)
  traced kind key = record {
    noted = λ w. refl;
    beside = λ w v b. record {
      noted = b.noted;
      none = b.none;
      empty = b.empty;
      pairs = b.pairs;
      events = b.events;
      frame = b.frame;
      contracts = b.contracts;
      caller = b.caller;
      maps = b.maps;
      free = b.free;
    };
  }

  access_agrees : {A : Type 0} (kind : AccessKind) (key : LedgerKey) → IsNoNonce (key_bytes key) → (effect : Option Kept → Effect A) → Agreeing s (access (noting_env s) kind key effect) (access (proving_env s) kind key effect)
  access_agrees kind key plain effect =
      with_agrees s (λ w. seen (next_seq s.header) w.entries key) (λ x w. by_seen key effect x (noted kind key w)) (λ x w. by_seen key effect x (noted kind key w))
      (λ w v b. ap (seen_of (next_seq s.header)) (sym (b.maps (key_bytes key) plain)))
      (λ x. changed_agrees s (noted kind key) (noted kind key) (by_seen key effect x) (by_seen key effect x) (traced kind key) (seen_agrees key plain effect x))

  -- the keys of a contract's data, of its instance and of code are such keys
  pub data_agrees : {A : Type 0} (kind : AccessKind) (contract : Hash) (key : Datum) (durability : Durability) (effect : Option Kept → Effect A)
      → Agreeing s (access (noting_env s) kind (data_key contract key durability) effect) (access (proving_env s) kind (data_key contract key durability) effect)
  data_agrees kind contract key durability effect = access_agrees kind (data_key contract key durability) (contract_is_no_nonce contract (scval key) durability) effect

  pub instance_agrees : {A : Type 0} (kind : AccessKind) (contract : Hash) (effect : Option Kept → Effect A) → Agreeing s (access (noting_env s) kind (instance_key contract) effect) (access (proving_env s) kind (instance_key contract) effect)
  instance_agrees kind contract effect = access_agrees kind (instance_key contract) (contract_is_no_nonce contract LedgerKeyContractInstance Persistent) effect

  pub code_agrees : {A : Type 0} (kind : AccessKind) (hash : Hash) (effect : Option Kept → Effect A) → Agreeing s (access (noting_env s) kind (code_key hash) effect) (access (proving_env s) kind (code_key hash) effect)
  code_agrees kind hash effect = access_agrees kind (code_key hash) (code_is_no_nonce hash) effect
