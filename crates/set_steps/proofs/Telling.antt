-- What two maps have at some keys, as it is added key by key.
use Rattle.std.specs.BTreeMap.{BTreeMap, is_at}
use Rattle.std.specs.Cmp.Lexicographic.{slice_cmp}
use Rattle.std.specs.FinMap.{get, empty}
use Rattle.std.specs.Map.{lookup}
use Rattle.std.specs.Option.{option_map, option_or}
use Rattle.std.specs.Ordering.{nat_cmp}
use Rattle.std.specs.Prelude.{IfSome}
use Rattle.std.specs.Str.{bytes_eq}
use Rattle.std.proofs.Common.{◌≡◌, ℕ, ◌+◌, ◌<◌, ◌≤◌, ◌^◌, Vec, Bool, true, false, cond, List, [], ◌∷◌, length, get_or, take, drop, Option, Some, None, refl, sym, ap, ap₂, subst, ◌∙◌}
use Rattle.std.proofs.lemmas.List.{drop_all, drop_more}
use Rattle.std.proofs.lemmas.Slice.Eq.{bytes_eq-Decides}
use Rattle.entry_lookup.specs.Found.{kept_of}
use Rattle.entry_lookup.specs.declared.ground.Found.{Found}
use Rattle.ledger_spec.specs.LedgerMap.{IsKeptAt, IsLedgerMap}
use Rattle.ledger_spec.proofs.Lemmas.{kept_at}
use Rattle.stage_runs.specs.Maps.{Bytes, Kept, LedgerMap, key_bytes}
use Rattle.stage_runs.specs.Runs.{change, change_all}
use Rattle.stage_runs.specs.declared.Change.{Change}
use Rattle.stage_runs.proofs.Lemmas.{found_set}
use Rattle.change_log.specs.declared.groups.Changed.{Changed}
use Rattle.set_steps.specs.Lives.{before_lives, living, relived}
use Rattle.set_steps.specs.Sides.{sides_in, AddsChange, AddsChanges, AddsLife, AddsLives, AreSides, Having, IsSide, Tells}
use Rattle.set_steps.specs.declared.lives.Life.{Life}
use Rattle.set_steps.proofs.Lists.{fold_more}
use Rattle.set_steps.proofs.Waiting.{symmetric}

-- ---- nothing is told yet

pub kept_here : (m : LedgerMap) → IsLedgerMap m → (q : Bytes) → IfSome (get m q) (IsKeptAt q)
kept_here m is q = at (get m q) refl
  where
    at : (o : Option Kept) → get m q ≡ o → IfSome o (IsKeptAt q)
    at None e = tt
    at (Some kept) e = kept_at m q kept is e

pub sides_none : (m : LedgerMap) (look : Bytes → Option Changed) → IsLedgerMap m → ((q : Bytes) → look q ≡ None) → AreSides (get m) (get m) (get m) look
sides_none m look is none = record {
  each = λ q. subst (Tells (get m q) (get m q) (get m q)) (sym (none q)) (refl, refl);
  before_kept = kept_here m is;
  after_kept = kept_here m is;
}

-- ---- one key

-- the sides at a key that is told
pub told : (before after now : Having) (look : Bytes → Option Changed) (q k : Bytes) (side : Changed) → q ≡ k → look q ≡ Some side
    → AreSides before after now look → IsSide (before k) (after k) side
told before after now look q k side same e are =
    subst (λ (p : Bytes). IsSide (before p) (after p) side) same (subst (Tells (before q) (after q) (now q)) e (are.each q))

-- those at a key that is not
pub untold : (before after : Having) (m : LedgerMap) (look : Bytes → Option Changed) (q k : Bytes) (side : Changed) → q ≡ k → look q ≡ None
    → option_map kept_of side.before ≡ get m k → option_map kept_of side.after ≡ get m k → AreSides before after (get m) look
    → IsSide (before k) (after k) side
untold before after m look q k side same e is is' are =
    let here : (get m q ≡ before q) × (get m q ≡ after q) = subst (Tells (before q) (after q) (get m q)) e (are.each q) in
    subst (λ (p : Bytes). option_map kept_of side.before ≡ get m p → option_map kept_of side.after ≡ get m p → IsSide (before p) (after p) side) same
    (λ h h'. record { before = h ∙ here.0; after = h' ∙ here.1 }) is is'

tells_same : (b b' a a' now : Option Kept) (o o' : Option Changed) → b ≡ b' → a ≡ a' → o' ≡ o → Tells b a now o → Tells b' a' now o'
tells_same b b' a a' now o o' eb ea eo t =
    subst (λ (x : Option Kept). Tells x a' now o') eb
    (subst (λ (x : Option Kept). Tells b x now o') ea (subst (Tells b a now) (sym eo) t))

-- one key more is told
sides_more : (before after before' after' now : Having) (look look' : Bytes → Option Changed) (k : Bytes) (side : Changed)
    → ((q : Bytes) → look' q ≡ cond (bytes_eq k q) (Some side) (look q))
    → ((q : Bytes) → bytes_eq k q ≡ false → before q ≡ before' q) → ((q : Bytes) → bytes_eq k q ≡ false → after q ≡ after' q)
    → IsSide (before' k) (after' k) side → IfSome (before' k) (IsKeptAt k) → IfSome (after' k) (IsKeptAt k)
    → AreSides before after now look → AreSides before' after' now look'
sides_more before after before' after' now look look' k side is same same' here kept kept' are = record {
  each = λ q. at q (bytes_eq k q) refl;
  before_kept = λ q. kept_each before before' are.before_kept same kept q (bytes_eq k q) refl;
  after_kept = λ q. kept_each after after' are.after_kept same' kept' q (bytes_eq k q) refl;
}
  where
    at : (q : Bytes) (b : Bool) → bytes_eq k q ≡ b → Tells (before' q) (after' q) (now q) (look' q)
    at q true e =
        subst (Tells (before' q) (after' q) (now q)) (sym (is q ∙ ap (λ (b : Bool). cond b (Some side) (look q)) e))
        (subst (λ (p : Bytes). IsSide (before' p) (after' p) side) ((bytes_eq-Decides k q).0 e) here)
    at q false e =
        tells_same (before q) (before' q) (after q) (after' q) (now q) (look q) (look' q) (same q e) (same' q e)
        (is q ∙ ap (λ (b : Bool). cond b (Some side) (look q)) e) (are.each q)

    kept_each : (old new : Having) → ((q : Bytes) → IfSome (old q) (IsKeptAt q)) → ((q : Bytes) → bytes_eq k q ≡ false → old q ≡ new q)
        → IfSome (new k) (IsKeptAt k) → (q : Bytes) (b : Bool) → bytes_eq k q ≡ b → IfSome (new q) (IsKeptAt q)
    kept_each old new all others one q true e = subst (λ (p : Bytes). IfSome (new p) (IsKeptAt p)) ((bytes_eq-Decides k q).0 e) one
    kept_each old new all others one q false e = subst (λ (o : Option Kept). IfSome o (IsKeptAt q)) (others q e) (all q)

itself : (k : Bytes) → bytes_eq k k ≡ true
itself k = (bytes_eq-Decides k k).1 refl

-- what is kept at a key is so with any life
living_kept : (q : Bytes) (l : ℕ) (o : Option Kept) → l < 2 ^ 32 → IfSome o (IsKeptAt q) → IfSome (option_map (living l) o) (IsKeptAt q)
living_kept q l None number h = tt
living_kept q l (Some kept) number h = record { fits = h.fits; numbered = number; keyed = h.keyed; hashed = h.hashed }

-- a life more
pub adds_life : (now : Having) (life : Life) (look look' : Bytes → Option Changed) (old side : Changed)
    → ((q : Bytes) → look' q ≡ cond (bytes_eq (key_bytes life.key) q) (Some side) (look q))
    → ((before after : Having) → AreSides before after now look → IsSide (before (key_bytes life.key)) (after (key_bytes life.key)) old)
    → side.after ≡ old.after → option_map kept_of side.before ≡ option_map (living life.live_until) (option_map kept_of old.before)
    → life.live_until < 2 ^ 32 → AddsLife now life look look'
adds_life now life look look' old side is found after_is before_is number before after are =
    let k = key_bytes life.key in
    let here : IsSide (before k) (after k) old = found before after are in
    let later : option_map kept_of side.before ≡ relived life k (before k) =
    before_is ∙ ap (option_map (living life.live_until)) here.before
    ∙ sym (ap (λ (b : Bool). cond b (option_map (living life.live_until) (before k)) (before k)) (itself k)) in
    sides_more before after (λ q. relived life q (before q)) after now look look' k side is
    (λ q e. sym (ap (λ (b : Bool). cond b (option_map (living life.live_until) (before q)) (before q)) (symmetric q k ∙ e))) (λ q e. refl)
    (record { before = later; after = ap (option_map kept_of) after_is ∙ here.after })
    (subst (λ (b : Bool). IfSome (cond b (option_map (living life.live_until) (before k)) (before k)) (IsKeptAt k)) (sym (itself k))
    (living_kept k life.live_until (before k) number (are.before_kept k)))
    (are.after_kept k) are

-- ---- lives, the last one first

pub lives_begin : (now : Having) (lives : List Life) (i : ℕ) (look : Bytes → Option Changed) → length lives ≤ i → AddsLives now (drop i lives) look look
lives_begin now lives i look le before after are =
    subst (λ (ls : List Life). AreSides (λ q. before_lives ls q (before q)) after now look) (sym (drop_all i lives le)) are

pub lives_more : (now : Having) (lives : List Life) (i j k : ℕ) (life : Life) (a b c : Bytes → Option Changed) → k < length lives → i ≡ k → j ≡ k + 1
    → life ≡ get_or lives k life → AddsLives now (drop j lives) a b → AddsLife now life b c → AddsLives now (drop i lives) a c
lives_more now lives i j k life a b c lt here next is first later before after are =
    let whole : drop i lives ≡ life ∷ drop j lives =
    ap (λ (n : ℕ). drop n lives) here ∙ drop_more lives k life lt ∙ ap₂ (λ (x : Life) (n : ℕ). x ∷ drop n lives) (sym is) (sym next) in
    subst (λ (xs : List Life). AreSides (λ q. before_lives xs q (before q)) after now c) (sym whole)
    (later (λ q. before_lives (drop j lives) q (before q)) after (first before after are))

pub lives_end : (now : Having) (lives : List Life) (i : ℕ) (a b : Bytes → Option Changed) → i ≡ 0 → AddsLives now (drop i lives) a b → AddsLives now lives a b
lives_end now lives i a b e all = subst (λ (n : ℕ). AddsLives now (drop n lives) a b) e all

-- ---- changes

module _ (shown : LedgerMap → LedgerMap) (sees : (own : LedgerMap) (q : Bytes) → get (shown own) q ≡ option_or (get own q) (get (shown empty) q)) where
  -- what is seen after a change
  pub seen_changed : (own : LedgerMap) (c : Change) (q : Bytes)
      → get (shown (change own c)) q ≡ option_or (cond (bytes_eq q (key_bytes c.key)) c.after (get own q)) (get (shown empty) q)
  seen_changed own c q =
      sees (change own c) q ∙ ap (λ (o : Option Kept). option_or o (get (shown empty) q)) (found_set own c.key c.after q)

  pub seen_at_change : (own : LedgerMap) (c : Change) → get (shown (change own c)) (key_bytes c.key) ≡ option_or c.after (get (shown empty) (key_bytes c.key))
  seen_at_change own c =
      let k = key_bytes c.key in
      seen_changed own c k ∙ ap (λ (b : Bool). option_or (cond b c.after (get own k)) (get (shown empty) k)) (itself k)

  seen_elsewhere : (own : LedgerMap) (c : Change) (q : Bytes) → bytes_eq (key_bytes c.key) q ≡ false → get (shown own) q ≡ get (shown (change own c)) q
  seen_elsewhere own c q e =
      sees own q
      ∙ sym (seen_changed own c q
      ∙ ap (λ (b : Bool). option_or (cond b c.after (get own q)) (get (shown empty) q)) (symmetric q (key_bytes c.key) ∙ e))

  -- a change more
  pub adds_change : (now : Having) (c : Change) (look look' : Bytes → Option Changed) (old side : Changed)
      → ((q : Bytes) → look' q ≡ cond (bytes_eq (key_bytes c.key) q) (Some side) (look q))
      → ((before after : Having) → AreSides before after now look → IsSide (before (key_bytes c.key)) (after (key_bytes c.key)) old)
      → side.before ≡ old.before → ((own : LedgerMap) → option_map kept_of side.after ≡ get (shown (change own c)) (key_bytes c.key))
      → IfSome (option_map kept_of side.after) (IsKeptAt (key_bytes c.key)) → AddsChange shown now c look look'
  adds_change now c look look' old side is found before_is after_is kept before own are =
      let k = key_bytes c.key in
      let here : IsSide (before k) (get (shown own) k) old = found before (get (shown own)) are in
      sides_more before (get (shown own)) before (get (shown (change own c))) now look look' k side is (λ q e. refl) (seen_elsewhere own c)
      (record { before = ap (option_map kept_of) before_is ∙ here.before; after = after_is own })
      (are.before_kept k) (subst (λ (o : Option Kept). IfSome o (IsKeptAt k)) (after_is own) kept) are

  pub changes_more : (now : Having) (changes : List Change) (i : ℕ) (c : Change) (x y z : Bytes → Option Changed) → i < length changes
      → c ≡ get_or changes i c → AddsChanges shown now (take i changes) x y → AddsChange shown now c y z → AddsChanges shown now (take (i + 1) changes) x z
  changes_more now changes i c x y z lt is first later before own are =
      subst (λ (m : LedgerMap). AreSides before (get (shown m)) now z) (sym (fold_more change own changes i c lt is))
      (later before (change_all own (take i changes)) (first before own are))

-- what is found at a key is kept there
pub kept_if : (q : Bytes) (o : Option Found) → IfSome o (λ found. IsKeptAt q (kept_of found)) → IfSome (option_map kept_of o) (IsKeptAt q)
kept_if q None h = tt
kept_if q (Some found) h = h

-- ---- all of them

none_told : {Z : Type 0} (sides : BTreeMap (Vec ℕ Z) Changed) (q : Bytes) → sides.entries ≡ [] → sides_in sides q ≡ None
none_told sides q e = ap (lookup (is_at (λ k. slice_cmp nat_cmp q k.items))) e

pub lives_told : {Z : Type 0} (m : LedgerMap) (lives : List Life) (none sides : BTreeMap (Vec ℕ Z) Changed) → IsLedgerMap m → none.entries ≡ []
    → AddsLives (get m) lives (sides_in none) (sides_in sides) → AreSides (λ q. before_lives lives q (get m q)) (get m) (get m) (sides_in sides)
lives_told m lives none sides is e adds = adds (get m) (get m) (sides_none m (sides_in none) is (λ q. none_told none q e))

pub all_told : {Z : Type 0} (shown : LedgerMap → LedgerMap) (own m : LedgerMap) (lives : List Life) (changes : List Change)
    (none some all : BTreeMap (Vec ℕ Z) Changed) → IsLedgerMap m → m ≡ shown own → none.entries ≡ []
    → AddsLives (get m) lives (sides_in none) (sides_in some) → AddsChanges shown (get m) changes (sides_in some) (sides_in all)
    → AreSides (λ q. before_lives lives q (get m q)) (get (shown (change_all own changes))) (get m) (sides_in all)
all_told shown own m lives changes none some all is seen e adds more =
    more (λ q. before_lives lives q (get m q)) own
    (subst (λ (x : LedgerMap). AreSides (λ q. before_lives lives q (get m q)) (get x) (get m) (sides_in some)) seen
    (lives_told m lives none some is e adds))
