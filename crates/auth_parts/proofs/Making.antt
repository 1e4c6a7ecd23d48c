-- The make of a nonce is an access.
use Rattle.std.proofs.Common.{◌≡◌, ℕ, Bool, true, false, Result, Ok, Err, refl, sym, ap, ◌∙◌}
use Rattle.std.specs.Prelude.{IfErr}
use Rattle.budget_meter.specs.Meter.{Meter}
use Rattle.budget_meter.specs.declared.kind.Kind.TheVariants.{ValSer}
use Rattle.auth_types.specs.declared.credentials.AddressCredentials.{AddressCredentials}
use Rattle.ledger_types.specs.Entry.{key_of, entry_format}
use Rattle.ledger_types.specs.declared.key.LedgerKey.{LedgerKey}
use Rattle.ledger_types.specs.declared.entry.LedgerEntry.{LedgerEntry}
use Rattle.ledger_types.specs.declared.header.Settings.{Settings}
use Rattle.host_spec.specs.Acts as values
use Rattle.host_spec.specs.declared.error.HostErr.{HostErr}
use Rattle.host_spec.specs.declared.error.HostErr.TheVariants as ends
use Rattle.contract_storage.specs.Stored.{Stored}
use Rattle.contract_storage.specs.Acts.{Does, make_act}
use Rattle.contract_storage.specs.declared.access.StoErr.{StoErr}
use Rattle.call_spec.specs.Errors.{EXPIRED, USED_NONCE}
use Rattle.call_spec.specs.World.{Write, World, Env, made_seq}
use Rattle.call_spec.specs.Acts.{Act, only_where, lift}
use Rattle.call_spec.specs.Accesses.{access, entry_size}
use Rattle.call_spec.specs.Asking.{nonce_key, nonce_entry, uses, is_valid_until, uses_nonce}
use Rattle.host_ledger.specs.Worlds.{Serves}
use Rattle.host_ledger.specs.Accessed.{end_of}
use Rattle.call_parts.specs.Steps.{Steps, Charges}
use Rattle.call_parts.proofs.Lemmas.{AllMake, make_paid, make_refused, make_there, steps_as}

-- the access that uses a nonce
abbrev pub uses_up : AddressCredentials → Env → Act (Unit {0})
uses_up signer env = access env Write (nonce_key signer.address signer.nonce) (uses (made_seq env) signer)

module _ (signer : AddressCredentials) where
  abbrev until : ℕ
  until = signer.signature_expiration_ledger

  abbrev entry_in : ℕ → LedgerEntry
  entry_in n = nonce_entry n signer.address signer.nonce

  abbrev key : LedgerKey
  key = nonce_key signer.address signer.nonce

  -- the use of a nonce makes its entry
  nonce_makes : (entry : LedgerEntry) (n : ℕ) (s : Stored) → entry ≡ entry_in n → s.n ≡ n → AllMake (λ env. uses (made_seq env) signer) USED_NONCE entry until s
  nonce_makes entry n s is number env serves = record { there = λ kept. refl; none = rw (is, ← number, serves.number) refl }

  -- an entry that the storage makes, whose charge comes after it
  pub nonce_made : (b : Bool) (q : Result (Unit {0}) HostErr) (entry : LedgerEntry) (n size : ℕ) (old new : Stored) (before after' : Meter) → entry ≡ entry_in n → old.n ≡ n → size ≡ entry_size entry → entry_format.fits entry → b ≡ true
      → Does (make_act entry until) (Ok b) old new → Charges q (λ u. u) (lift (values.charged ValSer size)) before after' → IfErr q (λ e. e ≡ ends.Spent)
      → Steps q (λ u. u) (uses_up signer) old new before after'
  nonce_made b q entry n size old new before after' is number sized fits true' h paid spent =
      make_paid (λ env. uses (made_seq env) signer) USED_NONCE entry until b q key size old new before after' (nonce_makes entry n old is number) (ap key_of is) sized fits true' h paid spent

  -- an entry that is there already
  pub nonce_used : (b : Bool) (entry : LedgerEntry) (n : ℕ) (old new : Stored) (meter : Meter) → entry ≡ entry_in n → old.n ≡ n → entry_format.fits entry → b ≡ false → Does (make_act entry until) (Ok b) old new
      → (let q : Result (Unit {0}) HostErr = Err (ends.Failed USED_NONCE) in Steps q (λ u. u) (uses_up signer) old new meter meter)
  nonce_used b entry n old new meter is number fits false' h =
      make_there (λ env. uses (made_seq env) signer) USED_NONCE entry until b key old new meter (nonce_makes entry n old is number) (ap key_of is) fits false' h

  -- a make that the storage refuses
  pub nonce_refused : (e : StoErr) (x : HostErr) (again : LedgerKey) (entry : LedgerEntry) (n : ℕ) (old new : Stored) (meter : Meter) → x ≡ end_of again e → again ≡ key → entry ≡ entry_in n → old.n ≡ n → entry_format.fits entry
      → Does (make_act entry until) (Err e) old new → (let q : Result (Unit {0}) HostErr = Err x in Steps q (λ u. u) (uses_up signer) old new meter meter)
  nonce_refused e x again entry n old new meter end keyed is number fits h =
      make_refused (λ env. uses (made_seq env) signer) USED_NONCE entry until e x key again old new meter (nonce_makes entry n old is number) (ap key_of is) keyed end fits h

  -- ---- the test of the last ledger

  where_true : (b : Bool) (act : Act (Unit {0})) (w : World) → b ≡ true → act w ≡ only_where b EXPIRED act w
  where_true true act w e = refl
  where_true false act w e = absurd cc

  valid_at : (env : Env) (s : Stored) (n : ℕ) (settings : Settings) → Serves env s → s.n ≡ n → s.lives ≡ settings
      → is_valid_until n settings.max_entry_ttl until ≡ is_valid_until (made_seq env) env.header.settings.max_entry_ttl until
  valid_at env s n settings serves number lives =
      ap (λ (m : ℕ). is_valid_until m settings.max_entry_ttl until) (sym number ∙ serves.number)
      ∙ ap (λ (x : Settings). is_valid_until (made_seq env) x.max_entry_ttl until) (sym lives ∙ serves.lives)

  -- a nonce of a signature that is valid
  pub valid_nonce : (q : Result (Unit {0}) HostErr) (b : Bool) (n : ℕ) (settings : Settings) (old new : Stored) (before after' : Meter) → b ≡ is_valid_until n settings.max_entry_ttl until → b ≡ true → old.n ≡ n → old.lives ≡ settings
      → Steps q (λ u. u) (uses_up signer) old new before after' → Steps q (λ u. u) (λ env. uses_nonce env signer) old new before after'
  valid_nonce q b n settings old new before after' tested good number lives h =
      steps_as q (λ (u : Unit {0}). u) (uses_up signer) (λ env. uses_nonce env signer) old new before after'
      (λ env serves w. where_true (is_valid_until (made_seq env) env.header.settings.max_entry_ttl until) (uses_up signer env) w
      (sym (valid_at env old n settings serves number lives) ∙ sym tested ∙ good)) h
