-- What a map had before lives were raised, by the lives that were kept.
use Rattle.std.specs.FinMap.{get, empty}
use Rattle.std.specs.List.{AllByRecursion, list_any}
use Rattle.std.specs.Option.{option_map, option_or}
use Rattle.std.specs.Str.{bytes_eq}
use Rattle.std.proofs.Common.{◌≡◌, ℕ, ◌+◌, ◌<◌, Bool, true, false, ◌||◌, cond, List, [], ◌∷◌, ◌++◌, length, get_or, take, All, Option, Some, None, refl, sym, ap, subst, ◌∙◌}
use Rattle.std.proofs.lemmas.List.{append-nil}
use Rattle.std.proofs.lemmas.List.Elements.{All-nil, All-push}
use Rattle.std.proofs.lemmas.Slice.Eq.{bytes_eq-Decides}
use Rattle.ledger_types.specs.Key.{key_format}
use Rattle.ledger_types.specs.declared.entry.LedgerEntry.{LedgerEntry}
use Rattle.stage_runs.specs.Maps.{Bytes, Kept, LedgerKey, LedgerMap, key_bytes, raise}
use Rattle.stage_runs.specs.Runs.{put_all_in}
use Rattle.stage_runs.specs.declared.Extension.{Extension}
use Rattle.stage_runs.proofs.Lemmas.{found, left_true, longer_at, put_untouched, right_true}
use Rattle.set_steps.specs.Lives.{before_lives, has_extension, life_of, living, relived, AreKeyed, AreLives, Covers, KeepsLives, SameEntry}
use Rattle.set_steps.specs.declared.lives.Life.{Life}
use Rattle.set_steps.proofs.Lists.{take_one_more}
use Rattle.set_steps.proofs.Written.{or_false, or_join}

-- ---- one key

lives_append : (xs ys : List Life) (q : Bytes) (o : Option Kept) → before_lives (xs ++ ys) q o ≡ before_lives xs q (before_lives ys q o)
lives_append [] ys q o = refl
lives_append (x ∷ xs) ys q o = ap (relived x q) (lives_append xs ys q o)

some_is : (a b : LedgerEntry) → Some a ≡ Some b → a ≡ b
some_is a b e = cc

none_some : (b : LedgerEntry) → ◌≡◌ {A = Option LedgerEntry} None (Some b) → ⊥
none_some b e = cc

some_none : (b : LedgerEntry) → ◌≡◌ {A = Option LedgerEntry} (Some b) None → ⊥
some_none b e = cc

-- an entry with the life of another copy of it is that
same_life : (kept : Kept) (o : Option Kept) → SameEntry o (Some kept) → option_map (living kept.live_until) o ≡ Some kept
same_life kept None e = absurd (none_some kept.entry e)
same_life kept (Some other) e =
    ap (λ (entry : LedgerEntry). Some (let k : Kept = record { entry = entry; live_until = kept.live_until } in k))
    (some_is other.entry kept.entry e)

nothing : (o : Option Kept) → SameEntry o None → o ≡ None
nothing None e = refl
nothing (Some kept) e = absurd (some_none kept.entry e)

-- what the life that was kept of a key makes of an entry there that differs at most in its life
kept_life : (key : LedgerKey) (p : Option Kept) (q : Bytes) (o : Option Kept) → (bytes_eq q (key_bytes key) ≡ true → SameEntry o p)
    → before_lives (life_of key p) q o ≡ cond (bytes_eq q (key_bytes key)) p o
kept_life key None q o same = at (bytes_eq q (key_bytes key)) same
  where
    at : (b : Bool) → (b ≡ true → SameEntry o None) → o ≡ cond b None o
    at true f = nothing o (f refl)
    at false f = refl
kept_life key (Some kept) q o same = at (bytes_eq q (key_bytes key)) same
  where
    at : (b : Bool) → (b ≡ true → SameEntry o (Some kept)) → cond b (option_map (living kept.live_until) o) o ≡ cond b (Some kept) o
    at true f = same_life kept o (f refl)
    at false f = refl

pub keyed_more : (key : LedgerKey) (p : Option Kept) (old : List Life) → key_format.fits key → AreKeyed old → AreKeyed (old ++ life_of key p)
keyed_more key None old fits all = subst AreKeyed (sym (append-nil old)) all
keyed_more key (Some kept) old fits all =
    All-push (λ (life : Life). key_format.fits life.key) old (record { key = key; live_until = kept.live_until }) all fits

-- ---- lives that are raised one after the other

pub keeps_none : (m : LedgerMap) (lives : List Life) → KeepsLives m m lives lives
keeps_none m lives = record { keyed = λ all. all; before = λ q. refl }

pub keeps_join : (m n o : LedgerMap) (a b c : List Life) → KeepsLives m n a b → KeepsLives n o b c → KeepsLives m o a c
keeps_join m n o a b c first later = record { keyed = λ all. later.keyed (first.keyed all); before = λ q. later.before q ∙ first.before q }

pub are_lives : (m n : LedgerMap) (none lives : List Life) → none ≡ [] → KeepsLives m n none lives → AreLives m n lives
are_lives m n none lives e keeps = record {
  keyed = keeps.keyed (subst AreKeyed (sym e) (All-nil (λ (life : Life). key_format.fits life.key)));
  before = λ q. keeps.before q ∙ ap (λ (ls : List Life). before_lives ls q (get m q)) e;
}

same_or : (b : Bool) (l : ℕ) (o r : Option Kept) → SameEntry (option_or (longer_at b l o) r) (option_or o r)
same_or true l None r = refl
same_or true l (Some kept) r = refl
same_or false l o r = refl

module _ (shown : LedgerMap → LedgerMap) (sees : (own : LedgerMap) (q : Bytes) → get (shown own) q ≡ option_or (get own q) (get (shown empty) q)) where
  seen_raised : (own : LedgerMap) (key : LedgerKey) (l : ℕ) (q : Bytes)
      → get (shown (raise own key l)) q ≡ option_or (longer_at (bytes_eq q (key_bytes key)) l (get own q)) (get (shown empty) q)
  seen_raised own key l q = sees (raise own key l) q ∙ ap (λ (o : Option Kept). option_or o (get (shown empty) q)) (found own key l q)

  same_raised : (own : LedgerMap) (key : LedgerKey) (l : ℕ) (q : Bytes) → SameEntry (get (shown (raise own key l)) q) (get (shown own) q)
  same_raised own key l q =
      ap (option_map (λ (kept : Kept). kept.entry)) (seen_raised own key l q)
      ∙ same_or (bytes_eq q (key_bytes key)) l (get own q) (get (shown empty) q)
      ∙ sym (ap (option_map (λ (kept : Kept). kept.entry)) (sees own q))

  -- what is kept before a life is raised tells what was there
  before_raised : (own : LedgerMap) (key : LedgerKey) (l : ℕ) (q : Bytes)
      → before_lives (life_of key (get (shown own) (key_bytes key))) q (get (shown (raise own key l)) q) ≡ get (shown own) q
  before_raised own key l q =
      kept_life key (get (shown own) (key_bytes key)) q (get (shown (raise own key l)) q)
      (λ is. subst (λ (p : Bytes). SameEntry (get (shown (raise own key l)) q) (get (shown own) p)) ((bytes_eq-Decides q (key_bytes key)).0 is)
      (same_raised own key l q))
      ∙ at (bytes_eq q (key_bytes key)) refl
    where
      at : (b : Bool) → bytes_eq q (key_bytes key) ≡ b
          → cond b (get (shown own) (key_bytes key)) (get (shown (raise own key l)) q) ≡ get (shown own) q
      at true is = ap (get (shown own)) (sym ((bytes_eq-Decides q (key_bytes key)).0 is))
      at false is =
          seen_raised own key l q
          ∙ ap (λ (b : Bool). option_or (longer_at b l (get own q)) (get (shown empty) q)) is
          ∙ sym (sees own q)

  pub raised_lives : (own : LedgerMap) (key : LedgerKey) (l : ℕ) (m n : LedgerMap) (old new : List Life) → m ≡ shown own
      → n ≡ shown (raise own key l) → key_format.fits key → new ≡ old ++ life_of key (get m (key_bytes key)) → KeepsLives m n old new
  raised_lives own key l m n old new is is' fits e =
      let here : new ≡ old ++ life_of key (get (shown own) (key_bytes key)) =
      e ∙ ap (λ (x : LedgerMap). old ++ life_of key (get x (key_bytes key))) is in
      record {
        keyed = λ all. subst AreKeyed (sym here) (keyed_more key (get (shown own) (key_bytes key)) old fits all);
        before = λ q.
            ap (λ (ls : List Life). before_lives ls q (get n q)) here
            ∙ lives_append old (life_of key (get (shown own) (key_bytes key))) q (get n q)
            ∙ ap (before_lives old q)
            (ap (λ (x : LedgerMap). before_lives (life_of key (get (shown own) (key_bytes key))) q (get x q)) is'
            ∙ before_raised own key l q
            ∙ sym (ap (λ (x : LedgerMap). get x q) is));
      }

-- ---- extensions that are put in at the end of a stage

has_both : (xs ys : List Extension) (q : Bytes) → has_extension (xs ++ ys) q ≡ (has_extension xs q || has_extension ys q)
has_both [] ys q = refl
has_both (x ∷ xs) ys q =
    ap (λ (b : Bool). bytes_eq q (key_bytes x.key) || b) (has_both xs ys q)
    ∙ or_join (bytes_eq q (key_bytes x.key)) (has_extension xs q) (has_extension ys q)

same_cond : (b : Bool) (o p : Option Kept) → SameEntry o p → SameEntry (cond b p o) p
same_cond true o p e = refl
same_cond false o p e = e

pub covers_none : (m : LedgerMap) (lives : List Life) → Covers m [] lives lives
covers_none m lives = record { keyed = λ all. all; before = λ q kept same. refl }

pub covers_join : (m : LedgerMap) (xs ys all : List Extension) (a b c : List Life) → all ≡ xs ++ ys → Covers m xs a b → Covers m ys b c → Covers m all a c
covers_join m xs ys all a b c e first later = record {
  keyed = λ keyed. later.keyed (first.keyed keyed);
  before = λ q kept same.
      later.before q kept same
      ∙ first.before q (cond (has_extension ys q) (get m q) kept) (same_cond (has_extension ys q) kept (get m q) same)
      ∙ ap (before_lives a q) (both (has_extension xs q) (has_extension ys q) (get m q) kept)
      ∙ ap (λ (h : Bool). before_lives a q (cond h (get m q) kept)) (sym (ap (λ (zs : List Extension). has_extension zs q) e ∙ has_both xs ys q));
}
  where
    both : (x y : Bool) (o p : Option Kept) → cond x o (cond y o p) ≡ cond (x || y) o p
    both true y o p = refl
    both false y o p = refl

-- the life of one key more
pub covers_one : (m : LedgerMap) (x : Extension) (old new : List Life) → key_format.fits x.key → new ≡ old ++ life_of x.key (get m (key_bytes x.key))
    → Covers m (x ∷ []) old new
covers_one m x old new fits e = record {
  keyed = λ all. subst AreKeyed (sym e) (keyed_more x.key (get m (key_bytes x.key)) old fits all);
  before = λ q kept same.
      ap (λ (ls : List Life). before_lives ls q kept) e
      ∙ lives_append old (life_of x.key (get m (key_bytes x.key))) q kept
      ∙ ap (before_lives old q)
      (kept_life x.key (get m (key_bytes x.key)) q kept
      (λ is. subst (λ (p : Bytes). SameEntry kept (get m p)) ((bytes_eq-Decides q (key_bytes x.key)).0 is) same)
      ∙ at q kept (bytes_eq q (key_bytes x.key)) refl
      ∙ ap (λ (b : Bool). cond b (get m q) kept) (sym (or_false (bytes_eq q (key_bytes x.key)))));
}
  where
    at : (q : Bytes) (kept : Option Kept) (b : Bool) → bytes_eq q (key_bytes x.key) ≡ b
        → cond b (get m (key_bytes x.key)) kept ≡ cond b (get m q) kept
    at q kept true is = ap (get m) (sym ((bytes_eq-Decides q (key_bytes x.key)).0 is))
    at q kept false is = refl

pub covers_more : (m : LedgerMap) (xs : List Extension) (i : ℕ) (x : Extension) (a b c : List Life) → i < length xs → x ≡ get_or xs i x
    → key_format.fits x.key → Covers m (take i xs) a b → c ≡ b ++ life_of x.key (get m (key_bytes x.key)) → Covers m (take (i + 1) xs) a c
covers_more m xs i x a b c lt is fits first e =
    covers_join m (take i xs) (x ∷ []) (take (i + 1) xs) a b c (take_one_more xs i x lt is) first (covers_one m x b c fits e)

same_longer : (b : Bool) (l : ℕ) (o : Option Kept) → SameEntry (longer_at b l o) o
same_longer true l None = refl
same_longer true l (Some kept) = refl
same_longer false l o = refl

-- extensions change lives alone
same_put : (xs : List Extension) (m : LedgerMap) (q : Bytes) → SameEntry (get (put_all_in m xs) q) (get m q)
same_put [] m q = refl
same_put (x ∷ xs) m q =
    same_put xs (raise m x.key x.live_until) q
    ∙ ap (option_map (λ (kept : Kept). kept.entry)) (found m x.key x.live_until q)
    ∙ same_longer (bytes_eq q (key_bytes x.key)) x.live_until (get m q)

each_listed : (ys xs : List Extension) → ((q : Bytes) → has_extension ys q ≡ true → has_extension xs q ≡ true)
    → AllByRecursion (λ (x : Extension). has_extension xs (key_bytes x.key) ≡ true) ys
each_listed [] xs within = tt
each_listed (y ∷ ys) xs within = (
  within (key_bytes y.key)
      (left_true (bytes_eq (key_bytes y.key) (key_bytes y.key)) (has_extension ys (key_bytes y.key))
      ((bytes_eq-Decides (key_bytes y.key) (key_bytes y.key)).1 refl)),
  each_listed ys xs (λ q e. within q (right_true (bytes_eq q (key_bytes y.key)) (has_extension ys q) e)),
)

-- the lives at the keys of all extensions tell what was there before they are put in
pub lives_put : (m n : LedgerMap) (xs : List Extension) (none lives : List Life) → none ≡ [] → n ≡ put_all_in m xs → Covers m xs none lives → AreLives m n lives
lives_put m n xs none lives e put covers = record {
  keyed = covers.keyed (subst AreKeyed (sym e) (All-nil (λ (life : Life). key_format.fits life.key)));
  before = λ q.
      covers.before q (get n q) (ap (λ (x : LedgerMap). option_map (λ (kept : Kept). kept.entry) (get x q)) put ∙ same_put xs m q)
      ∙ ap (λ (ls : List Life). before_lives ls q (cond (has_extension xs q) (get m q) (get n q))) e
      ∙ at q (has_extension xs q) refl;
}
  where
    at : (q : Bytes) (b : Bool) → has_extension xs q ≡ b → cond b (get m q) (get n q) ≡ get m q
    at q true is = refl
    at q false is =
        ap (λ (x : LedgerMap). get x q) put ∙ put_untouched (has_extension xs) xs m q (each_listed xs xs (λ p h. h)) is
