-- The verdicts hold a pair, or they do not.
use Rattle.std.proofs.Common.{◌≡◌, ◌<◌, ◌↔◌, ℕ, zero, suc, Bool, true, false, ◌&&◌, ◌||◌, List, [], ◌∷◌, length, get_or, refl, sym, ap, ap₂, arith}
use Rattle.std.specs.Prelude.{Contains, IsTrue}
use Rattle.std.specs.List.{list_any}
use Rattle.std.specs.Str.{bytes_eq}
use Rattle.std.proofs.lemmas.Slice.Eq.{bytes_eq-Decides}
use Rattle.value_types.specs.declared.hash.Hash.{Hash}
use Rattle.ledger_types.specs.Verdicts.{verdict_of}
use Rattle.ledger_types.specs.declared.verdicts.Verdict.{Verdict}
use Rattle.ledger_types.specs.declared.verdicts.Verdicts.{Verdicts}
use Rattle.call_spec.specs.Errors.{DENIED}
use Rattle.call_spec.specs.World.{World}
use Rattle.call_spec.specs.Acts.{Failed, Good, Bad, gives, only_where}
use Rattle.call_spec.specs.Asking.{is_good}
use Rattle.auth_parts.specs.Asked.{proved}

module _ (key payload : Hash) where
  abbrev is_pair : Verdict → Bool
  is_pair v = bytes_eq v.key.0 key.0 && bytes_eq v.payload.0 payload.0

  same_hash : (g h : Hash) → g.0 ≡ h.0 → g ≡ h
  same_hash g h e = ap (λ (x : List ℕ). let y : Hash = record { 0 = x } in y) e

  both : (a b : Bool) → a ≡ true → b ≡ true → a && b ≡ true
  both true b p q = q
  both false b p q = absurd cc

  first : (a b : Bool) → a && b ≡ true → a ≡ true
  first true b e = refl
  first false b e = absurd cc

  second : (a b : Bool) → a && b ≡ true → b ≡ true
  second true b e = e
  second false b e = absurd cc

  pair_there : (v : Verdict) → v ≡ verdict_of (key, payload) → is_pair v ≡ true
  pair_there v e =
      both (bytes_eq v.key.0 key.0) (bytes_eq v.payload.0 payload.0)
      ((bytes_eq-Decides v.key.0 key.0).1 (ap (λ (x : Verdict). x.key.0) e)) ((bytes_eq-Decides v.payload.0 payload.0).1 (ap (λ (x : Verdict). x.payload.0) e))

  pair_back : (v : Verdict) → is_pair v ≡ true → v ≡ verdict_of (key, payload)
  pair_back v e =
      let keys = (bytes_eq-Decides v.key.0 key.0).0 (first (bytes_eq v.key.0 key.0) (bytes_eq v.payload.0 payload.0) e) in
      let payloads = (bytes_eq-Decides v.payload.0 payload.0).0 (second (bytes_eq v.key.0 key.0) (bytes_eq v.payload.0 payload.0) e) in
      ap₂ (λ (k p : Hash). verdict_of (k, p)) (same_hash v.key key keys) (same_hash v.payload payload payloads)

  either : (a b : Bool) → b ≡ true → (a || b) ≡ true
  either true b e = refl
  either false b e = e

  left : (a b : Bool) → a ≡ true → (a || b) ≡ true
  left true b e = refl
  left false b e = absurd cc

  any_there : (vs : List Verdict) (k : ℕ) → k < length vs → get_or vs k (verdict_of (key, payload)) ≡ verdict_of (key, payload) → list_any is_pair vs ≡ true
  any_there [] k lt e = absurd (omega arith)
  any_there (v ∷ vs) zero lt e = left (is_pair v) (list_any is_pair vs) (pair_there v e)
  any_there (v ∷ vs) (suc k) lt e = either (is_pair v) (list_any is_pair vs) (any_there vs k (omega arith) e)

  any_back : (vs : List Verdict) → list_any is_pair vs ≡ true → Contains vs (verdict_of (key, payload))
  any_back [] e = absurd cc
  any_back (v ∷ vs) e = at (is_pair v) refl e (any_back vs)
    where
      at : (b : Bool) → is_pair v ≡ b → (b || list_any is_pair vs) ≡ true → (list_any is_pair vs ≡ true → Contains vs (verdict_of (key, payload))) → Contains (v ∷ vs) (verdict_of (key, payload))
      at true is h more = (zero, omega arith, pair_back v is)
      at false is h more = let c = more h in (suc c.0, omega (arith, c.1), c.2)

  holds_by : (b g : Bool) → (b ≡ true → g ≡ true) → (g ≡ true → b ≡ true) → b ≡ g
  holds_by true g f h = sym (f refl)
  holds_by false true f h = absurd (let e = h refl in cc)
  holds_by false false f h = refl

  pub holds_is : (verdicts : Verdicts) (b : Bool) → (IsTrue b ↔ Contains verdicts.pairs (verdict_of (key, payload))) → b ≡ is_good verdicts key payload
  holds_is verdicts b h =
      holds_by b (is_good verdicts key payload) (λ e. let c = h.0 e in any_there verdicts.pairs c.0 c.1 c.2) (λ e. h.1 (any_back verdicts.pairs e))

-- ---- the test of an account

pub good_account : (good : Bool) → good ≡ true → (w : World) → only_where good DENIED (gives proved) w ≡ Good proved w
good_account true e w = refl
good_account false e w = absurd cc

pub bad_account : (good : Bool) → good ≡ false → (w : World) → only_where good DENIED (gives proved) w ≡ Bad (Failed DENIED) w
bad_account false e w = refl
bad_account true e w = absurd cc
