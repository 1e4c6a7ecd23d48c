-- A whole run whose accesses are declared meets no archived entry, if none is declared.
use Rattle.std.proofs.lemmas.Bool.Decides.{nat_tests}
use Rattle.std.proofs.lemmas.Slice.Eq.{bytes_eq-Decides}
use Rattle.std.proofs.Common.{◌≡◌, ℕ, ◌+◌, ◌-◌, ◌≤◌, arith, List, [], ◌∷◌, ◌++◌, Option, Some, None, Bool, true, false, refl, sym, ap, ◌∙◌, subst}
use Rattle.std.specs.Prelude.{if◌then◌else◌, ◌||◌, nat_le}
use Rattle.std.specs.List.{list_any}
use Rattle.std.specs.Str.{bytes_eq}
use Rattle.std.specs.FinMap.{get}
use Rattle.value_types.specs.Datum.{Datum}
use Rattle.ledger_types.specs.Entry.{key_of}
use Rattle.ledger_types.specs.declared.key.LedgerKey.{LedgerKey}
use Rattle.ledger_types.specs.declared.entry.LedgerEntry.{LedgerEntry}
use Rattle.ledger_types.specs.declared.header.Header.{Header}
use Rattle.auth_types.specs.declared.credentials.AddressCredentials.{AddressCredentials}
use Rattle.call_spec.specs.Asking.{nonce_entry}
use Rattle.tx_xdr.specs.declared.transaction.Footprint.{Footprint}
use Rattle.ledger_spec.specs.declared.Kept.{Kept}
use Rattle.ledger_spec.specs.LedgerMap.{LedgerMap, key_bytes}
use Rattle.ledger_spec.specs.Seen.{live, absent, archived, seen, seen_of, is_temporary}
use Rattle.ledger_spec.specs.Changes.{longer}
use Rattle.stage_runs.specs.Maps.{has_bytes}
use Rattle.stage_runs.proofs.Lemmas.{left_false, right_false}
use Rattle.call_spec.specs.World.{Read, Judge, World, next_seq}
use Rattle.call_spec.specs.Acts.{Archived, Out, Bad, world_of}
use Rattle.call_spec.specs.Accesses.{put_kept}
use Rattle.call_spec.specs.Footprints.{by_footprint, first_rejected}
use Rattle.call_spec.specs.WholeRuns.{whole}
use Rattle.call_spec.specs.Invoked.{is_archived, declares_archived}
use Rattle.call_spec.specs.Laws.{IsExtended, NeverArchivedLaw}
use Rattle.call_spec.proofs.Acts.{Watch, IsLost, Told, Clean}
use Rattle.call_spec.proofs.Accesses.{Fair, IsFineAt}
use Rattle.call_spec.proofs.Rows.{longer_extended}
use Rattle.call_spec.proofs.Stopping.{footprint_sound}
use Rattle.call_spec.proofs.HostFunctions.{run_fine}

-- ---- archived entries

parts : (n : ℕ) (kept : Kept) → seen_of n (Some kept) ≡ archived → (nat_le n kept.live_until ≡ false) × (is_temporary kept.entry.data ≡ false)
parts n kept e = at (nat_le n kept.live_until) (is_temporary kept.entry.data) refl refl e
  where
    at : (b t : Bool) → nat_le n kept.live_until ≡ b → is_temporary kept.entry.data ≡ t → (if b then live kept else if t then absent else archived) ≡ archived
        → (nat_le n kept.live_until ≡ false) × (is_temporary kept.entry.data ≡ false)
    at true t p q e = absurd cc
    at false true p q e = absurd cc
    at false false p q e = (p, q)

whole_of : (n : ℕ) (kept : Kept) → nat_le n kept.live_until ≡ false → is_temporary kept.entry.data ≡ false → seen_of n (Some kept) ≡ archived
whole_of n kept p q = ap (λ (b : Bool). if b then live kept else if is_temporary kept.entry.data then absent else archived) p ∙ ap (λ (t : Bool). if t then absent else archived) q

not_within : (n life : ℕ) → nat_le n life ≡ false → n ≤ life → ⊥
not_within n life p h = grind (arith, nat_tests, p, h)

sooner : (n old new : ℕ) → nat_le n new ≡ false → old ≤ new → nat_le n old ≡ false
sooner n old new p h = grind (arith, nat_tests, p, h)

-- what lives longer is archived only if it was
was_archived : (n : ℕ) (old new : Kept) → IsExtended (Some old) (Some new) → seen_of n (Some new) ≡ archived → seen_of n (Some old) ≡ archived
was_archived n old new h e =
    let p = parts n new e in
    whole_of n old (sooner n old.live_until new.live_until p.0 h.1) (ap (λ (x : LedgerEntry). is_temporary x.data) (sym h.0) ∙ p.1)

-- ---- what is watched

abbrev unarchived : Judge → Header → Watch
unarchived may header = record { number = header.seq + 1; is = λ q kept. may Read q ≡ true → seen_of (header.seq + 1) (Some kept) ≡ archived → ⊥; sums = Unit {0} }

module _ (may : Judge) (header : Header) (least : 1 ≤ header.settings.min_persistent_ttl) where
  new_lives : (temporary : Bool) → temporary ≡ false → header.seq + 1 ≤ header.seq + 1 + (if temporary then header.settings.min_temporary_ttl else header.settings.min_persistent_ttl) - 1
  new_lives true e = absurd cc
  new_lives false e = omega (arith, least)

  put_unarchived : (entry : LedgerEntry) (found : Option Kept) → IsFineAt (unarchived may header) (key_of entry) found
      → seen_of (header.seq + 1) (Some (put_kept header.settings (header.seq + 1) entry found)) ≡ archived → ⊥
  put_unarchived entry None f e =
      let p = parts (header.seq + 1) (put_kept header.settings (header.seq + 1) entry None) e in
      not_within (header.seq + 1) (put_kept header.settings (header.seq + 1) entry None).live_until p.0 (new_lives (is_temporary entry.data) p.1)
  put_unarchived entry (Some kept) f e =
      not_within (header.seq + 1) kept.live_until (parts (header.seq + 1) (put_kept header.settings (header.seq + 1) entry (Some kept)) e).0 f.1

  nonce_unarchived : (signer : AddressCredentials)
      → seen_of (header.seq + 1) (Some (record { entry = nonce_entry (header.seq + 1) signer.address signer.nonce; live_until = signer.signature_expiration_ledger })) ≡ archived → ⊥
  nonce_unarchived signer e =
      let p = parts (header.seq + 1) (record { entry = nonce_entry (header.seq + 1) signer.address signer.nonce; live_until = signer.signature_expiration_ledger }) e in
      absurd (let temporary = p.1 in cc)

  unarchived_fair : Fair header (unarchived may header)
  unarchived_fair = record {
    numbered = refl;
    longer = λ q kept threshold extend_to life asked not shown e. not shown (was_archived (header.seq + 1) kept (longer (header.seq + 1) kept threshold life) (longer_extended (header.seq + 1) kept threshold life) e);
    put = λ entry found hash f shown e. put_unarchived entry found f e;
    nonce = λ signer valid shown e. nonce_unarchived signer e;
  }

-- ---- declared keys

any_left : {A : Type 0} (f : A → Bool) (xs ys : List A) → list_any f (xs ++ ys) ≡ false → list_any f xs ≡ false
any_left f [] ys e = refl
any_left f (x ∷ xs) ys e = at (f x) (any_left f xs ys (right_false (f x) (list_any f (xs ++ ys)) e)) (left_false (f x) (list_any f (xs ++ ys)) e)
  where
    at : (b : Bool) → list_any f xs ≡ false → b ≡ false → (b || list_any f xs) ≡ false
    at true more h = h
    at false more h = more

any_right : {A : Type 0} (f : A → Bool) (xs ys : List A) → list_any f (xs ++ ys) ≡ false → list_any f ys ≡ false
any_right f [] ys e = e
any_right f (x ∷ xs) ys e = any_right f xs ys (right_false (f x) (list_any f (xs ++ ys)) e)

-- none of the keys is archived
none_archived : (n : ℕ) (map : LedgerMap) (q : List ℕ) (ks : List LedgerKey) → list_any (λ key. is_archived (seen n map key)) ks ≡ false → has_bytes ks q ≡ true → is_archived (seen_of n (get map q)) ≡ false
none_archived n map q [] h has = absurd cc
none_archived n map q (key ∷ ks) h has =
    at (none_archived n map q ks (right_false (is_archived (seen n map key)) (list_any (λ k. is_archived (seen n map k)) ks) h)) (bytes_eq q (key_bytes key)) refl has
  where
    at : (has_bytes ks q ≡ true → is_archived (seen_of n (get map q)) ≡ false) → (b : Bool) → bytes_eq q (key_bytes key) ≡ b → (b || has_bytes ks q) ≡ true → is_archived (seen_of n (get map q)) ≡ false
    at more true is e =
        ap (λ k. is_archived (seen_of n (get map k))) ((bytes_eq-Decides q (key_bytes key)).0 is) ∙ left_false (is_archived (seen n map key)) (list_any (λ k. is_archived (seen n map k)) ks) h
    at more false is e = more e

module _ (n : ℕ) (map : LedgerMap) (footprint : Footprint) (clean : declares_archived n map footprint ≡ false) where
  declared_fine : (q : List ℕ) (a b : Bool) → has_bytes footprint.read_only q ≡ a → has_bytes footprint.read_write q ≡ b → (a || b) ≡ true → is_archived (seen_of n (get map q)) ≡ false
  declared_fine q true b p r e = none_archived n map q footprint.read_only (any_left (λ key. is_archived (seen n map key)) footprint.read_only footprint.read_write clean) p
  declared_fine q false true p r e = none_archived n map q footprint.read_write (any_right (λ key. is_archived (seen n map key)) footprint.read_only footprint.read_write clean) r
  declared_fine q false false p r e = absurd cc

  not_both : (s t : Option Kept) → s ≡ t → is_archived (seen_of n s) ≡ false → seen_of n t ≡ archived → ⊥
  not_both s t e f a = true_false (ap is_archived (sym a) ∙ ap (λ o. is_archived (seen_of n o)) (sym e) ∙ f)
    where
      true_false : true ≡ false → ⊥
      true_false h = cc

  start_fine : (q : List ℕ) (kept : Kept) → get map q ≡ Some kept → by_footprint footprint Read q ≡ true → seen_of n (Some kept) ≡ archived → ⊥
  start_fine q kept found shown e =
      not_both (get map q) (Some kept) found (declared_fine q (has_bytes footprint.read_only q) (has_bytes footprint.read_write q) refl refl shown) e

-- ---- the law

end_told : (may : Judge) (P : Watch) (key : LedgerKey) (w : World) (o : Out Datum) → o ≡ Bad (Archived key) w → Told may P o → Clean may (world_of o).trace → IsLost may P key
end_told may P key w o e told clean =
    let here : Told {A = Datum} may P (Bad (Archived key) w) = subst (λ x. Told may P x) e told in
    here (ap (λ x. first_rejected may (world_of x).trace) (sym e) ∙ clean)

pub never_archived_law : NeverArchivedLaw
never_archived_law header authority instructions work footprint entries key w least none clean e =
    let may : Judge = by_footprint footprint in
    let left = run_fine may entries entries (unarchived may header) (footprint_sound footprint) header authority (unarchived_fair may header least) instructions work (start_fine (next_seq header) entries footprint none) in
    let lost = end_told may (unarchived may header) key w (whole header authority instructions work entries) e left.1 clean in
    lost.1 lost.2 lost.3
