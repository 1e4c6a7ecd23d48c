-- What a map has at a key after live entries at some keys were lengthened.
use Rattle.std.specs.FinMap.{get}
use Rattle.std.specs.Option.{option_map}
use Rattle.std.specs.Str.{bytes_eq}
use Rattle.std.proofs.Common.{◌≡◌, ℕ, max, Bool, true, false, ◌||◌, cond, leb, List, [], ◌∷◌, Option, Some, None, refl, sym, ap, ◌∙◌, arith}
use Rattle.std.proofs.lemmas.Bool.Decides.{nat_tests}
use Rattle.std.proofs.lemmas.Slice.Eq.{bytes_eq-Decides}
use Rattle.ledger_spec.specs.Seen.{live, absent, archived, seen_of, is_temporary}
use Rattle.stage_runs.specs.Maps.{Bytes, LedgerKey, key_bytes, Kept, LedgerMap, has_bytes}
use Rattle.stage_runs.proofs.Lemmas.{found, longer, longer_at}
use Rattle.apply_spec.specs.Enforced.{lengthened_seen, lengthened, all_lengthened}

-- what is at a key after its entry was lengthened
abbrev pub lengthened_kept : ℕ → ℕ → Option Kept → Option Kept
lengthened_kept n until None = None
lengthened_kept n until (Some kept) = Some (cond (leb n kept.live_until) (longer until kept) kept)

abbrev pub lengthened_at : ℕ → ℕ → Bool → Option Kept → Option Kept
lengthened_at n until here o = cond here (lengthened_kept n until o) o

module _ (n until : ℕ) where
  -- an entry that was lengthened stays as it is when it is lengthened again
  again_kept : (kept : Kept) (b : Bool) → leb n kept.live_until ≡ b → lengthened_kept n until (Some (cond b (longer until kept) kept)) ≡ Some (cond b (longer until kept) kept)
  again_kept kept true e =
      let still : leb n (max kept.live_until until) ≡ true = grind (arith, nat_tests) in
      let same : max (max kept.live_until until) until ≡ max kept.live_until until = omega arith in
      ap (λ b. Some (cond b (longer until (longer until kept)) (longer until kept))) still ∙ ap (λ (l : ℕ). Some (let k : Kept = record kept { live_until = l } in k)) same
  again_kept kept false e = ap (λ b. Some (cond b (longer until kept) kept)) e

  again : (o : Option Kept) → lengthened_kept n until (lengthened_kept n until o) ≡ lengthened_kept n until o
  again None = refl
  again (Some kept) = again_kept kept (leb n kept.live_until) refl

  module _ (m : LedgerMap) (key : LedgerKey) (q : Bytes) where
    same_at : bytes_eq q (key_bytes key) ≡ true → get m q ≡ get m (key_bytes key)
    same_at is = ap (get m) ((bytes_eq-Decides q (key_bytes key)).0 is)

    -- nothing changes where the entry at the key stays as it is
    stays : (o : Option Kept) (here : Bool) → bytes_eq q (key_bytes key) ≡ here → get m (key_bytes key) ≡ o → lengthened_kept n until o ≡ o
        → get m q ≡ lengthened_at n until here (get m q)
    stays o true is e f =
        let at : get m q ≡ o = same_at is ∙ e in
        at ∙ sym f ∙ ap (lengthened_kept n until) (sym at)
    stays o false is e f = refl

    raised : (kept : Kept) (here : Bool) → bytes_eq q (key_bytes key) ≡ here → get m (key_bytes key) ≡ Some kept → leb n kept.live_until ≡ true
        → get (lengthened_seen (live kept) m key until) q ≡ lengthened_at n until here (get m q)
    raised kept true is e f =
        let at : get m q ≡ Some kept = same_at is ∙ e in
        found m key until q
        ∙ ap (λ b. longer_at b until (get m q)) is
        ∙ ap (option_map (longer until)) at
        ∙ sym (ap (λ (b : Bool). Some (cond b (longer until kept) kept)) f)
        ∙ ap (lengthened_kept n until) (sym at)
    raised kept false is e f = found m key until q ∙ ap (λ b. longer_at b until (get m q)) is

    -- what one key's lengthening leaves at any key
    one_found : (o : Option Kept) → get m (key_bytes key) ≡ o → get (lengthened_seen (seen_of n o) m key until) q ≡ lengthened_at n until (bytes_eq q (key_bytes key)) (get m q)
    one_found None e = stays None (bytes_eq q (key_bytes key)) refl e refl
    one_found (Some kept) e = at (leb n kept.live_until) refl (is_temporary kept.entry.data)
      where
        at : (b : Bool) → leb n kept.live_until ≡ b → (t : Bool)
            → get (lengthened_seen (cond b (live kept) (cond t absent archived)) m key until) q ≡ lengthened_at n until (bytes_eq q (key_bytes key)) (get m q)
        at true f t = raised kept (bytes_eq q (key_bytes key)) refl e f
        at false f true = stays (Some kept) (bytes_eq q (key_bytes key)) refl e (ap (λ (b : Bool). Some (cond b (longer until kept) kept)) f)
        at false f false = stays (Some kept) (bytes_eq q (key_bytes key)) refl e (ap (λ (b : Bool). Some (cond b (longer until kept) kept)) f)

    pub found_lengthened : get (lengthened n until m key) q ≡ lengthened_at n until (bytes_eq q (key_bytes key)) (get m q)
    found_lengthened = one_found (get m (key_bytes key)) refl

  twice_at : (a b : Bool) (o : Option Kept) → lengthened_at n until b (lengthened_at n until a o) ≡ lengthened_at n until (a || b) o
  twice_at true true o = again o
  twice_at true false o = refl
  twice_at false true o = refl
  twice_at false false o = refl

  -- what the lengthening of several keys leaves at a key
  pub found_all : (keys : List LedgerKey) (m : LedgerMap) (q : Bytes) → get (all_lengthened n until m keys) q ≡ lengthened_at n until (has_bytes keys q) (get m q)
  found_all [] m q = refl
  found_all (key ∷ keys) m q =
      found_all keys (lengthened n until m key) q
      ∙ ap (lengthened_at n until (has_bytes keys q)) (found_lengthened m key q)
      ∙ twice_at (bytes_eq q (key_bytes key)) (has_bytes keys q) (get m q)
