-- What a whole run leaves at every key.
use Rattle.std.proofs.Common.{◌≡◌, ℕ, ◌+◌, ◌-◌, ◌<◌, ◌≤◌, ◌^◌, arith, List, Option, Some, None, Bool, true, false, refl, subst}
use Rattle.std.specs.Prelude.{if◌then◌else◌, ◌&&◌, nat_le, nat_lt}
use Rattle.std.proofs.lemmas.Bool.{leb-true, ltb-true}
use Rattle.ledger_types.specs.Entry.{key_of}
use Rattle.ledger_types.specs.declared.entry.LedgerEntry.{LedgerEntry}
use Rattle.ledger_types.specs.declared.header.Header.{Header}
use Rattle.ledger_spec.specs.declared.Kept.{Kept}
use Rattle.ledger_spec.specs.LedgerMap.{key_bytes, HasCodeHash}
use Rattle.ledger_spec.specs.Seen.{is_temporary}
use Rattle.ledger_spec.specs.Changes.{asked_life, first_life, furthest, longer}
use Rattle.call_spec.specs.World.{next_seq}
use Rattle.call_spec.specs.Accesses.{put_kept}
use Rattle.call_spec.specs.WholeRuns.{all_allowed}
use Rattle.call_spec.specs.Laws.{IsWellKept, AreNumberedLives, KeptLaw, KeptFromLaw}
use Rattle.auth_types.specs.declared.credentials.AddressCredentials.{AddressCredentials}
use Rattle.call_spec.specs.Asking.{nonce_key, nonce_entry, is_valid_until}
use Rattle.call_spec.proofs.Acts.{Watch}
use Rattle.call_spec.proofs.Accesses.{Fair, IsFineAt}
use Rattle.call_spec.proofs.HostFunctions.{run_fine, done_fine}

abbrev well_kept : Header → Watch
well_kept header = record { number = header.seq + 1; is = IsWellKept; sums = Unit {0} }

-- ---- lives

below : (n life most : ℕ) → n + life ≤ most → 1 ≤ n → n + life - 1 < most
below n life most h one = omega (arith, h, one)

second_true : (a b : Bool) → (a && b) ≡ true → b ≡ true
second_true true b h = h
second_true false b h = absurd cc

module _ (header : Header) (lives : AreNumberedLives header) where
  first_numbered : (entry : LedgerEntry) → first_life header.settings (next_seq header) entry < 2 ^ 32
  first_numbered entry = at (is_temporary entry.data)
    where
      at : (b : Bool) → next_seq header + (if b then header.settings.min_temporary_ttl else header.settings.min_persistent_ttl) - 1 < 2 ^ 32
      at true = below (next_seq header) header.settings.min_temporary_ttl (2 ^ 32) lives.temporary (omega arith)
      at false = below (next_seq header) header.settings.min_persistent_ttl (2 ^ 32) lives.persistent (omega arith)

  furthest_numbered : furthest header.settings (next_seq header) < 2 ^ 32
  furthest_numbered = below (next_seq header) header.settings.max_entry_ttl (2 ^ 32) lives.furthest (omega arith)

  life_is : (a b : ℕ) → Some a ≡ Some b → a ≡ b
  life_is a b e = cc

  asked_numbered : (kept : Kept) (extend_to life : ℕ) → asked_life header.settings (next_seq header) kept.entry extend_to ≡ Some life → life < 2 ^ 32
  asked_numbered kept extend_to life e = at (nat_le (next_seq header + extend_to) (furthest header.settings (next_seq header))) (is_temporary kept.entry.data) refl e
    where
      at : (b t : Bool) → nat_le (next_seq header + extend_to) (furthest header.settings (next_seq header)) ≡ b
          → (if b then Some (next_seq header + extend_to) else if t then None else Some (furthest header.settings (next_seq header))) ≡ Some life → life < 2 ^ 32
      at true t is found = subst (λ x. x < 2 ^ 32) (life_is (next_seq header + extend_to) life found)
          (omega (arith, leb-true (next_seq header + extend_to) (furthest header.settings (next_seq header)) is, furthest_numbered))
      at false true is found = absurd cc
      at false false is found = subst (λ x. x < 2 ^ 32) (life_is (furthest header.settings (next_seq header)) life found) furthest_numbered

  -- ---- what changes

  longer_kept : (q : List ℕ) (kept : Kept) (threshold life : ℕ) → life < 2 ^ 32 → IsWellKept q kept → IsWellKept q (longer (next_seq header) kept threshold life)
  longer_kept q kept threshold life h is = at (nat_lt kept.live_until life && nat_le (kept.live_until - next_seq header) threshold)
    where
      at : (b : Bool) → IsWellKept q (if b then record kept { live_until = life } else kept)
      at true = record { numbered = h; keyed = is.keyed; hashed = is.hashed }
      at false = is

  put_well : (entry : LedgerEntry) (found : Option Kept) → HasCodeHash entry.data → IsFineAt (well_kept header) (key_of entry) found
      → IsWellKept (key_bytes (key_of entry)) (put_kept header.settings (next_seq header) entry found)
  put_well entry None hash f = record { numbered = first_numbered entry; keyed = refl; hashed = hash }
  put_well entry (Some kept) hash f = record { numbered = f.0.numbered; keyed = refl; hashed = hash }

  nonce_well : (signer : AddressCredentials) → is_valid_until (next_seq header) header.settings.max_entry_ttl signer.signature_expiration_ledger ≡ true
      → IsWellKept (key_bytes (nonce_key signer.address signer.nonce))
      (record { entry = nonce_entry (next_seq header) signer.address signer.nonce; live_until = signer.signature_expiration_ledger })
  nonce_well signer valid = record {
    numbered = omega (
      arith,
      lives.furthest,
      ltb-true signer.signature_expiration_ledger (next_seq header + header.settings.max_entry_ttl)
          (second_true (nat_le (next_seq header) signer.signature_expiration_ledger) (nat_lt signer.signature_expiration_ledger (next_seq header + header.settings.max_entry_ttl)) valid),
    );
    keyed = refl;
    hashed = tt;
  }

  kept_fair : Fair header (well_kept header)
  kept_fair = record {
    numbered = refl;
    longer = λ q kept threshold extend_to life asked is. longer_kept q kept threshold life (asked_numbered kept extend_to life asked) is;
    put = put_well;
    nonce = nonce_well;
  }

-- ---- whole runs

pub kept_law : KeptLaw
kept_law header authority instructions work entries lives are =
    (run_fine all_allowed entries entries (well_kept header) (λ kind k e. refl) header authority (kept_fair header lives) instructions work are).0

pub kept_from_law : KeptFromLaw
kept_from_law header authority work w lives are =
    (done_fine all_allowed w.entries w.entries (well_kept header) (λ kind k e. refl) header authority (kept_fair header lives) work w are).0
