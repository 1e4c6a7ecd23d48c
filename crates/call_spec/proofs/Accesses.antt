-- Accesses that are judged, over one map, beside the same accesses that are not, over another map.
use Rattle.std.proofs.Common.{◌≡◌, ℕ, ◌+◌, List, [], ◌∷◌, Option, Some, None, Bool, true, false, cond, refl, sym, ap, ◌∙◌, subst}
use Rattle.std.specs.Prelude.{if◌then◌else◌, ◌&&◌, ◌≤◌, nat_le}
use Rattle.std.specs.Option.{option_or}
use Rattle.std.specs.Str.{bytes_eq}
use Rattle.std.specs.FinMap.{get}
use Rattle.std.proofs.lemmas.Bool.{leb-true}
use Rattle.std.proofs.lemmas.Slice.Eq.{bytes_eq-Decides}
use Rattle.ledger_types.specs.Entry.{key_of}
use Rattle.ledger_types.specs.declared.entry.LedgerEntry.{LedgerEntry}
use Rattle.ledger_types.specs.declared.key.LedgerKey.{LedgerKey}
use Rattle.ledger_types.specs.declared.header.Header.{Header}
use Rattle.ledger_spec.specs.declared.Kept.{Kept}
use Rattle.ledger_spec.specs.LedgerMap.{LedgerMap, key_bytes, HasCodeHash}
use Rattle.ledger_spec.specs.Seen.{Seen, live, absent, archived, seen, seen_of, is_temporary}
use Rattle.ledger_spec.specs.Changes.{asked_life, longer as longer_by}
use Rattle.stage_runs.specs.Maps.{set_at}
use Rattle.stage_runs.proofs.Lemmas.{found_set, left_false}
use Rattle.call_spec.specs.World.{AccessKind, Read, Extend, Write, Judge, Access, World, Env, Authority}
use Rattle.wasm_spec.specs.Spending.{IsLater}
use Rattle.wasm_spec.proofs.Lemmas.{same}
use Rattle.host_spec.specs.Acts as values
use Rattle.call_spec.proofs.Sums.{charged_rises}
use Rattle.call_spec.specs.Acts.{Act, world_of, then_do, with_state, state_of, lifted, lift}
use Rattle.call_spec.specs.Accesses.{put_kept, Effect, answers, leaves, refuses, costs, effected, access_of, noted, by_seen, judged, access}
use Rattle.auth_types.specs.declared.credentials.AddressCredentials.{AddressCredentials}
use Rattle.call_spec.specs.Asking.{nonce_key, nonce_entry, is_valid_until}
use Rattle.call_spec.specs.Footprints.{allows, first_rejected}
use Rattle.call_spec.specs.WholeRuns.{all_allowed}
use Rattle.call_spec.specs.Laws.{Maps, is_write, writes_in, IsExtended}
use Rattle.call_spec.proofs.Acts.{Continues, continues_refl, continues_trans, Sound, Clean, Same, Watch, Fine, Leaves, Local, then_fine, then_later, lifted_later, not_before, extended_refl, stays, then_grows, lift_local}

-- ---- the two runs' surroundings

-- every access is allowed
abbrev pub free : Header → Authority → Env
free header authority = record { header = header; authority = authority; judge = all_allowed }

-- the judge decides
abbrev pub held : Judge → Header → Authority → Env
held may header authority = record { header = header; authority = authority; judge = may }

-- ---- writes at a key that may be read

module _ (may : Judge) (m n p q : LedgerMap) (key : LedgerKey) (now : Option Kept) (readable : may Read (key_bytes key) ≡ true) (maps : Maps may m n p q) where
  other : (k : List ℕ) → may Read k ≡ false → (b : Bool) → bytes_eq k (key_bytes key) ≡ b → b ≡ false
  other k hidden true e = sym readable ∙ ap (may Read) (sym ((bytes_eq-Decides k (key_bytes key)).0 e)) ∙ hidden
  other k hidden false e = refl

  off : (r : LedgerMap) (k : List ℕ) → may Read k ≡ false → get (set_at r key now) k ≡ get r k
  off r k hidden = found_set r key now k ∙ ap (λ b. cond b now (get r k)) (other k hidden (bytes_eq k (key_bytes key)) refl)

  pub set_maps : Maps may m n (set_at p key now) (set_at q key now)
  set_maps = record {
    agree = λ k shown. found_set p key now k ∙ ap (cond (bytes_eq k (key_bytes key)) now) (maps.agree k shown) ∙ sym (found_set q key now k);
    left = λ k hidden. off p k hidden ∙ maps.left k hidden;
    right = λ k hidden. off q k hidden ∙ maps.right k hidden;
  }

-- ---- effects that leave the entry, but for its life

abbrev pub Gentle : {A : Type 0} → Option Kept → Effect A → Type 0
Gentle found (answers a) = Unit {0}
Gentle None (leaves now a) = ⊥
Gentle (Some kept) (leaves now a) = IsExtended (Some kept) now
Gentle found (refuses e) = Unit {0}
Gentle found (costs kind input effect) = Gentle found effect

-- the effect leaves the entry as it is
abbrev pub Still : {A : Type 0} → Effect A → Type 0
Still (answers a) = Unit {0}
Still (leaves now a) = ⊥
Still (refuses e) = Unit {0}
Still (costs kind input effect) = Still effect

still_gentle : {A : Type 0} (found : Option Kept) (effect : Effect A) → Still effect → Gentle found effect
still_gentle found (answers a) h = tt
still_gentle found (leaves now a) h = absurd h
still_gentle found (refuses e) h = tt
still_gentle found (costs kind input effect) h = still_gentle found effect h

-- a read leaves the entry, an extension leaves all but its life
abbrev pub GentleUnless : {A : Type 0} → AccessKind → (Option Kept → Effect A) → Type 0
GentleUnless Write effect = Unit {0}
GentleUnless Read effect = (found : Option Kept) → Still (effect found)
GentleUnless Extend effect = (found : Option Kept) → Gentle found (effect found)

-- ---- what is watched

-- the live entry that an access finds is one of those that are watched
abbrev pub IsFineAt : Watch → LedgerKey → Option Kept → Type 0
IsFineAt P key None = Unit {0}
IsFineAt P key (Some kept) = P.is (key_bytes key) kept × (P.number ≤ kept.live_until)

-- the effect leaves an entry as it has to be
abbrev pub Puts : {A : Type 0} → Watch → LedgerKey → Effect A → Type 0
Puts P key (answers a) = Unit {0}
Puts P key (leaves None a) = Unit {0}
Puts P key (leaves (Some kept) a) = P.is (key_bytes key) kept
Puts P key (refuses e) = Unit {0}
Puts P key (costs kind input effect) = Puts P key effect

-- a read leaves no entry
abbrev pub PutsFound : {A : Type 0} → Watch → LedgerKey → AccessKind → (Option Kept → Effect A) → Type 0
PutsFound P key Read effect = Unit {0}
PutsFound P key Extend effect = (found : Option Kept) → IsFineAt P key found → Puts P key (effect found)
PutsFound P key Write effect = (found : Option Kept) → IsFineAt P key found → Puts P key (effect found)

-- what is watched holds of entries that are extended, of those that are put, and of nonces
pub record Fair (header : Header) (P : Watch) : Type 0 where
  pub numbered : P.number ≡ header.seq + 1
  pub longer : (q : List ℕ) (kept : Kept) (threshold extend_to life : ℕ) → asked_life header.settings (header.seq + 1) kept.entry extend_to ≡ Some life
      → P.is q kept → P.is q (longer_by (header.seq + 1) kept threshold life)
  pub put : (entry : LedgerEntry) (found : Option Kept) → HasCodeHash entry.data → IsFineAt P (key_of entry) found
      → P.is (key_bytes (key_of entry)) (put_kept header.settings (header.seq + 1) entry found)
  pub nonce : (signer : AddressCredentials) → is_valid_until (header.seq + 1) header.settings.max_entry_ttl signer.signature_expiration_ledger ≡ true
      → P.is (key_bytes (nonce_key signer.address signer.nonce))
      (record { entry = nonce_entry (header.seq + 1) signer.address signer.nonce; live_until = signer.signature_expiration_ledger })

still_puts : {A : Type 0} (P : Watch) (key : LedgerKey) (effect : Effect A) → Still effect → Puts P key effect
still_puts P key (answers a) h = tt
still_puts P key (leaves now a) h = absurd h
still_puts P key (refuses e) h = tt
still_puts P key (costs kind input effect) h = still_puts P key effect h

kind_puts : {A : Type 0} (P : Watch) (key : LedgerKey) (kind : AccessKind) (effect : Option Kept → Effect A) → GentleUnless kind effect → PutsFound P key kind effect
    → (found : Option Kept) → IsFineAt P key found → Puts P key (effect found)
kind_puts P key Read effect g k found f = still_puts P key (effect found) (g found)
kind_puts P key Extend effect g k found f = k found f
kind_puts P key Write effect g k found f = k found f

-- what holds of the entries after an act without accesses that is charged
paid_then : {A : Type 0} (R : Option Kept → Type 0) (w : World) (s : values.Out (Unit {0})) (next : Act A) (q : List ℕ)
    → ((u : World) → u.entries ≡ w.entries → R (get (world_of (next u)).entries q)) → R (get w.entries q) → R (get (world_of (then_do (lifted w s) (λ _. next))).entries q)
paid_then R w (values.Good a st) next q h stay = h (with_state st w) refl
paid_then R w (values.Failed e st) next q h stay = stay
paid_then R w (values.Spent st) next q h stay = stay

-- at another key
effected_other : {A : Type 0} (key : LedgerKey) (q : List ℕ) → bytes_eq q (key_bytes key) ≡ false → (effect : Effect A) (w : World) → IsExtended (get w.entries q) (get (world_of (effected key effect w)).entries q)
effected_other key q apart (answers a) w = extended_refl (get w.entries q)
effected_other key q apart (leaves now a) w = stays (get w.entries q) (get (set_at w.entries key now) q) (found_set w.entries key now q ∙ ap (λ b. cond b now (get w.entries q)) apart)
effected_other key q apart (refuses e) w = extended_refl (get w.entries q)
effected_other key q apart (costs kind input effect) w =
    paid_then (λ o. IsExtended (get w.entries q) o) w (values.charged kind input (state_of w)) (effected key effect) q
    (λ u e. subst (λ p. IsExtended (get p q) (get (world_of (effected key effect u)).entries q)) e (effected_other key q apart effect u))
    (extended_refl (get w.entries q))

abbrev IsFoundAt : Option Kept → LedgerMap → LedgerKey → Type 0
IsFoundAt None map key = Unit {0}
IsFoundAt (Some kept) map key = get map (key_bytes key) ≡ Some kept

-- at any key, if the effect is gentle
gentle_set : (key : LedgerKey) (q : List ℕ) (kept : Kept) (now : Option Kept) (map : LedgerMap) → get map (key_bytes key) ≡ Some kept → IsExtended (Some kept) now → (b : Bool) → bytes_eq q (key_bytes key) ≡ b
    → IsExtended (get map q) (get (set_at map key now) q)
gentle_set key q kept now map is h true e =
    let here : get map q ≡ Some kept = ap (get map) ((bytes_eq-Decides q (key_bytes key)).0 e) ∙ is in
    let there : get (set_at map key now) q ≡ now = found_set map key now q ∙ ap (λ b. cond b now (get map q)) e in
    subst (λ o. IsExtended o (get (set_at map key now) q)) (sym here) (subst (λ o. IsExtended (Some kept) o) (sym there) h)
gentle_set key q kept now map is h false e = stays (get map q) (get (set_at map key now) q) (found_set map key now q ∙ ap (λ b. cond b now (get map q)) e)

effected_gentle : {A : Type 0} (key : LedgerKey) (q : List ℕ) (found : Option Kept) (effect : Effect A) → Gentle found effect → (w : World) → IsFoundAt found w.entries key
    → IsExtended (get w.entries q) (get (world_of (effected key effect w)).entries q)
effected_gentle key q found (answers a) g w is = extended_refl (get w.entries q)
effected_gentle key q None (leaves now a) g w is = absurd g
effected_gentle key q (Some kept) (leaves now a) g w is = gentle_set key q kept now w.entries is g (bytes_eq q (key_bytes key)) refl
effected_gentle key q found (refuses e) g w is = extended_refl (get w.entries q)
effected_gentle key q found (costs kind input effect) g w is =
    paid_then (λ o. IsExtended (get w.entries q) o) w (values.charged kind input (state_of w)) (effected key effect) q
    (λ u e. subst (λ p. IsExtended (get p q) (get (world_of (effected key effect u)).entries q)) e (effected_gentle key q found effect g u (subst (λ p. IsFoundAt found p key) (sym e) is)))
    (extended_refl (get w.entries q))

pub newest_allowed : (may : Judge) (a : Access) (older : List Access) → option_or (first_rejected may older) (if allows may a then None else Some a) ≡ None → allows may a ≡ true
newest_allowed may a older e = at (first_rejected may older) (allows may a) e
  where
    at : (x : Option Access) (b : Bool) → option_or x (if b then None else Some a) ≡ None → b ≡ true
    at x true h = refl
    at None false h = absurd cc
    at (Some y) false h = absurd cc

some_same : {A : Type 0} (a b : A) → ◌≡◌ {A = Option A} (Some a) (Some b) → a ≡ b
some_same a b e = cc

none_is : {A : Type 0} (a : A) → ◌≡◌ {A = Option A} None (Some a) → ⊥
none_is a e = cc

absent_is : absent ≡ archived → ⊥
absent_is e = cc

live_same : (a b : Kept) → live a ≡ live b → a ≡ b
live_same a b e = cc

live_until_later : (number : ℕ) (o : Option Kept) (kept : Kept) → seen_of number o ≡ live kept → number ≤ kept.live_until
live_until_later number None kept e = absurd cc
live_until_later number (Some k) kept e = at (nat_le number k.live_until) (is_temporary k.entry.data) refl e
  where
    at : (b c : Bool) → nat_le number k.live_until ≡ b → (if b then live k else if c then absent else archived) ≡ live kept → number ≤ kept.live_until
    at true c is e = subst (λ x. number ≤ x.live_until) (live_same k kept e) (leb-true number k.live_until is)
    at false true is e = absurd cc
    at false false is e = absurd cc

live_found : (number : ℕ) (o : Option Kept) (kept : Kept) → seen_of number o ≡ live kept → o ≡ Some kept
live_found number None kept e = absurd cc
live_found number (Some k) kept e = at (nat_le number k.live_until) (is_temporary k.entry.data) e
  where
    at : (b c : Bool) → (if b then live k else if c then absent else archived) ≡ live kept → Some k ≡ Some kept
    at true c e = cc
    at false true e = absurd cc
    at false false e = absurd cc

seen_other : {A : Type 0} (key : LedgerKey) (effect : Option Kept → Effect A) (q : List ℕ) → bytes_eq q (key_bytes key) ≡ false → (s : Seen) (w : World) → IsExtended (get w.entries q) (get (world_of (by_seen key effect s w)).entries q)
seen_other key effect q apart (live kept) w = effected_other key q apart (effect (Some kept)) w
seen_other key effect q apart absent w = effected_other key q apart (effect None) w
seen_other key effect q apart archived w = extended_refl (get w.entries q)

seen_gentle : {A : Type 0} (key : LedgerKey) (effect : Option Kept → Effect A) (q : List ℕ) → ((found : Option Kept) → Gentle found (effect found)) → (number : ℕ) (s : Seen) (w : World) → seen number w.entries key ≡ s
    → IsExtended (get w.entries q) (get (world_of (by_seen key effect s w)).entries q)
seen_gentle key effect q g number (live kept) w e = effected_gentle key q (Some kept) (effect (Some kept)) (g (Some kept)) w (live_found number (get w.entries (key_bytes key)) kept e)
seen_gentle key effect q g number absent w e = effected_gentle key q None (effect None) (g None) w tt
seen_gentle key effect q g number archived w e = extended_refl (get w.entries q)

by_kind : {A : Type 0} (kind : AccessKind) (key : LedgerKey) (effect : Option Kept → Effect A) → GentleUnless kind effect → (number : ℕ) (w : World) (q : List ℕ) → (is_write kind && bytes_eq q (key_bytes key)) ≡ false
    → IsExtended (get w.entries q) (get (world_of (judged true number kind key effect w)).entries q)
by_kind Write key effect g number w q apart = seen_other key effect q apart (seen number w.entries key) (noted Write key w)
by_kind Read key effect g number w q apart = seen_gentle key effect q (λ found. still_gentle found (effect found) (g found)) number (seen number w.entries key) (noted Read key w) refl
by_kind Extend key effect g number w q apart = seen_gentle key effect q g number (seen number w.entries key) (noted Extend key w) refl

-- ---- effects

module _ (may : Judge) (m n : LedgerMap) (P : Watch) where
  paid_same : {A : Type 0} (w : World) (q : LedgerMap) (s : values.Out (Unit {0})) (next : Act A) → Maps may m n w.entries q → Clean may w.trace
      → ((u : World) → u.trace ≡ w.trace → Maps may m n u.entries q → Same may m n (next u) (next (record u { entries = q })))
      → Same may m n (then_do (lifted w s) (λ _. next)) (then_do (lifted (record w { entries = q }) s) (λ _. next))
  paid_same w q (values.Good a st) next maps clean h = h (with_state st w) refl maps
  paid_same w q (values.Failed e st) next maps clean h = (refl, (refl, maps, clean))
  paid_same w q (values.Spent st) next maps clean h = (refl, (refl, maps, clean))

  effected_same : {A : Type 0} (key : LedgerKey) → may Read (key_bytes key) ≡ true → (effect : Effect A) (w : World) (q : LedgerMap) → Maps may m n w.entries q → Clean may w.trace
      → Same may m n (effected key effect w) (effected key effect (record w { entries = q }))
  effected_same key readable (answers a) w q maps clean = (refl, (refl, maps, clean))
  effected_same key readable (leaves now a) w q maps clean = (refl, (refl, set_maps may m n w.entries q key now readable maps, clean))
  effected_same key readable (refuses e) w q maps clean = (refl, (refl, maps, clean))
  effected_same key readable (costs kind input effect) w q maps clean =
      paid_same w q (values.charged kind input (state_of w)) (effected key effect) maps clean (λ u e mp. effected_same key readable effect u q mp (subst (λ t. Clean may t) (sym e) clean))

  by_seen_same : {A : Type 0} (key : LedgerKey) (effect : Option Kept → Effect A) → may Read (key_bytes key) ≡ true → (s : Seen) (w : World) (q : LedgerMap) → Maps may m n w.entries q → Clean may w.trace
      → Same may m n (by_seen key effect s w) (by_seen key effect s (record w { entries = q }))
  by_seen_same key effect readable (live kept) w q maps clean = effected_same key readable (effect (Some kept)) w q maps clean
  by_seen_same key effect readable absent w q maps clean = effected_same key readable (effect None) w q maps clean
  by_seen_same key effect readable archived w q maps clean = (refl, (refl, maps, clean))

  -- what an access does grows the trace, whatever the key
  effected_grows : {A : Type 0} (key : LedgerKey) (effect : Effect A) (w : World) → Continues w.trace (world_of (effected key effect w)).trace
  effected_grows key (answers a) w = continues_refl w.trace
  effected_grows key (leaves now a) w = continues_refl w.trace
  effected_grows key (refuses e) w = continues_refl w.trace
  effected_grows key (costs kind input effect) w =
      continues_trans _ _ _ ((lift_local may m n P (values.charged kind input) (λ q. charged_rises kind input)).grows w)
      (then_grows may m n P (lift (values.charged kind input) w) (λ _. effected key effect) (λ _ u. effected_grows key effect u))

  by_seen_grows : {A : Type 0} (key : LedgerKey) (effect : Option Kept → Effect A) (s : Seen) (w : World) → Continues w.trace (world_of (by_seen key effect s w)).trace
  by_seen_grows key effect (live kept) w = effected_grows key (effect (Some kept)) w
  by_seen_grows key effect absent w = effected_grows key (effect None) w
  by_seen_grows key effect archived w = continues_refl w.trace

  clean_more : (t : List Access) (a : Access) → Clean may t → allows may a ≡ true → Clean may (a ∷ t)
  clean_more t a clean e = ap (λ x. option_or x (if allows may a then None else Some a)) clean ∙ ap (λ (b : Bool). if b then None else Some a) e

  -- ---- the sums

  effected_later : {A : Type 0} (key : LedgerKey) (effect : Effect A) (w : World) → IsLater w.meter (world_of (effected key effect w)).meter
  effected_later key (answers a) w = same w.meter
  effected_later key (leaves now a) w = same w.meter
  effected_later key (refuses e) w = same w.meter
  effected_later key (costs kind input effect) w =
      then_later may m n P w.meter (lift (values.charged kind input) w) (λ _. effected key effect) (lifted_later may m n P w (values.charged kind input (state_of w)) ((charged_rises kind input).at (state_of w))) (λ _ u. effected_later key effect u)

  seen_later : {A : Type 0} (key : LedgerKey) (effect : Option Kept → Effect A) (s : Seen) (w : World) → IsLater w.meter (world_of (by_seen key effect s w)).meter
  seen_later key effect (live kept) w = effected_later key (effect (Some kept)) w
  seen_later key effect absent w = effected_later key (effect None) w
  seen_later key effect archived w = same w.meter

  -- ---- what is watched

  fine_set : (key : LedgerKey) (now : Option Kept) (map : LedgerMap) → Fine P map → ((kept : Kept) → now ≡ Some kept → P.is (key_bytes key) kept) → Fine P (set_at map key now)
  fine_set key now map f h q kept e = at (bytes_eq q (key_bytes key)) refl (sym (found_set map key now q) ∙ e)
    where
      at : (b : Bool) → bytes_eq q (key_bytes key) ≡ b → cond b now (get map q) ≡ Some kept → P.is q kept
      at true is found = subst (λ x. P.is x kept) (sym ((bytes_eq-Decides q (key_bytes key)).0 is)) (h kept found)
      at false is found = f q kept found

  put_alone : (key : LedgerKey) (new kept : Kept) → P.is (key_bytes key) new → ◌≡◌ {A = Option Kept} (Some new) (Some kept) → P.is (key_bytes key) kept
  put_alone key new kept h e = subst (λ x. P.is (key_bytes key) x) (some_same new kept e) h

  effected_fine : {A : Type 0} (key : LedgerKey) (effect : Effect A) → Puts P key effect → (w : World) → Fine P w.entries → Leaves may P (effected key effect w)
  effected_fine key (answers a) h w f = (f, tt)
  effected_fine key (leaves None a) h w f = (fine_set key None w.entries f (λ kept e. absurd (none_is kept e)), tt)
  effected_fine key (leaves (Some new) a) h w f = (fine_set key (Some new) w.entries f (λ kept e. put_alone key new kept h e), tt)
  effected_fine key (refuses e) h w f = (f, tt)
  effected_fine key (costs kind input effect) h w f =
      then_fine may m n P (lift (values.charged kind input) w) (λ _. effected key effect) (λ _ u g. effected_fine key effect h u g) ((lift_local may m n P (values.charged kind input) (λ q. charged_rises kind input)).fine w f)

  seen_fine : {A : Type 0} (header : Header) → Fair header P → (kind : AccessKind) (key : LedgerKey) (effect : Option Kept → Effect A) → Sound may → ((found : Option Kept) → IsFineAt P key found → Puts P key (effect found))
      → (w : World) → Fine P w.entries → (o : Option Kept) → get w.entries (key_bytes key) ≡ o → (s : Seen) → seen_of (header.seq + 1) o ≡ s → Leaves may P (by_seen key effect s (noted kind key w))
  seen_fine header fair kind key effect sound k w f o is (live kept) e =
      let found : get w.entries (key_bytes key) ≡ Some kept = is ∙ live_found (header.seq + 1) o kept e in
      effected_fine key (effect (Some kept)) (k (Some kept) (f (key_bytes key) kept found, subst (λ x. x ≤ kept.live_until) (sym fair.numbered) (live_until_later (header.seq + 1) o kept e))) (noted kind key w) f
  seen_fine header fair kind key effect sound k w f o is absent e = effected_fine key (effect None) (k None tt) (noted kind key w) f
  seen_fine header fair kind key effect sound k w f None is archived e = absurd (absent_is e)
  seen_fine header fair kind key effect sound k w f (Some kept) is archived e = (
    f,
    λ clean.
        (kept, f (key_bytes key) kept is, sound kind (key_bytes key) (newest_allowed may (access_of kind key w) w.trace clean), subst (λ x. seen_of x (Some kept) ≡ archived) (sym fair.numbered) e),
  )

  -- ---- accesses

  -- what the access adds to the trace is followed by what it does
  noted_grows : {A : Type 0} (kind : AccessKind) (key : LedgerKey) (effect : Option Kept → Effect A) (s : Seen) (w : World) → Continues (access_of kind key w ∷ w.trace) (world_of (by_seen key effect s (noted kind key w))).trace
  noted_grows kind key effect s w = by_seen_grows key effect s (noted kind key w)

  access_same : {A : Type 0} → Sound may → (number : ℕ) (kind : AccessKind) (key : LedgerKey) (effect : Option Kept → Effect A) (w : World) (q : LedgerMap) → Maps may m n w.entries q → Clean may w.trace
      → (b : Bool) → may kind (key_bytes key) ≡ b → Same may m n (judged true number kind key effect w) (judged b number kind key effect (record w { entries = q }))
  access_same sound number kind key effect w q maps clean true e =
      let readable = sound kind (key_bytes key) e in
      subst (λ s. Same may m n (by_seen key effect (seen number w.entries key) (noted kind key w)) (by_seen key effect s (noted kind key (record w { entries = q }))))
      (ap (seen_of number) (maps.agree (key_bytes key) readable))
      (by_seen_same key effect readable (seen number w.entries key) (noted kind key w) q maps (clean_more w.trace (access_of kind key w) clean e))
  access_same sound number kind key effect w q maps clean false e = (e, refl, noted_grows kind key effect (seen number w.entries key) w, clean)

  -- ---- what an access leaves alone

  access_quiet : {A : Type 0} (kind : AccessKind) (key : LedgerKey) (effect : Option Kept → Effect A) → GentleUnless kind effect → (number : ℕ) (w : World) (q : List ℕ)
      → writes_in (world_of (judged true number kind key effect w)).trace q ≡ false → IsExtended (get w.entries q) (get (world_of (judged true number kind key effect w)).entries q)
  access_quiet kind key effect g number w q none =
      let before : writes_in (access_of kind key w ∷ w.trace) q ≡ false =
      not_before (access_of kind key w ∷ w.trace) (world_of (judged true number kind key effect w)).trace q (noted_grows kind key effect (seen number w.entries key) w) none in
      by_kind kind key effect g number w q (left_false (is_write kind && bytes_eq q (key_bytes key)) (writes_in w.trace q) before)

  pub access_local : {A : Type 0} → Sound may → (header : Header) (authority : Authority) → Fair header P → (kind : AccessKind) (key : LedgerKey) (effect : Option Kept → Effect A) → GentleUnless kind effect → PutsFound P key kind effect
      → Local may m n P (access (free header authority) kind key effect) (access (held may header authority) kind key effect)
  access_local sound header authority fair kind key effect g k = record {
    same = λ w q maps clean. access_same sound (header.seq + 1) kind key effect w q maps clean (may kind (key_bytes key)) refl;
    grows = λ w. continues_trans _ _ _ (access_of kind key w ∷ [], refl) (noted_grows kind key effect (seen (header.seq + 1) w.entries key) w);
    quiet = λ w q none. access_quiet kind key effect g (header.seq + 1) w q none;
    fine = λ w f. seen_fine header fair kind key effect sound (kind_puts P key kind effect g k) w f (get w.entries (key_bytes key)) refl (seen (header.seq + 1) w.entries key) refl;
    later = λ q w. seen_later key effect (seen (header.seq + 1) w.entries key) (noted kind key w);
  }
