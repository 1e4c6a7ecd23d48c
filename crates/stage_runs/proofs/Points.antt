-- What maps have at a key after a change.
use Rattle.std.specs.Ordering.{nat_cmp, eq_by_cmp}
use Rattle.std.specs.Cmp.Lexicographic.{slice_cmp, nat_list_cmp_total}
use Rattle.std.specs.FinMap.{get, insert, find, entries, retain_keys, get-entries, get-from_entries, get-retain_keys, get-insert, get-remove, same_map, slice_cmp-IsAntisymmetric, nat_cmp-IsAntisymmetric}
use Rattle.std.specs.List.{fold, AllByRecursion}
use Rattle.std.specs.Option.{option_map}
use Rattle.std.specs.Str.{bytes_eq}
use Rattle.std.proofs.Common.{◌≡◌, ℕ, max, Bool, true, false, ◌||◌, ◌&&◌, cond, List, [], ◌∷◌, ◌++◌, Option, Some, None, refl, sym, ap, ap₂, ◌∙◌}
use Rattle.std.proofs.lemmas.Map.Text.{is_eq-slice_cmp}
use Rattle.std.proofs.lemmas.Slice.Eq.{bytes_eq-Decides}
use Rattle.stage_runs.specs.Maps.{Bytes, LedgerKey, key_bytes, Kept, LedgerMap, set_at, raised, raise, has_bytes, put_back, laid_over}

-- ---- tests

pub cases : {A : Type 0} (b : Bool) → (b ≡ true → A) → (b ≡ false → A) → A
cases true f g = f refl
cases false f g = g refl

pub left_false : (a b : Bool) → (a || b) ≡ false → a ≡ false
left_false true b e = e
left_false false b e = refl

pub right_false : (a b : Bool) → (a || b) ≡ false → b ≡ false
right_false true b e = cc
right_false false b e = e

pub left_true : (a b : Bool) → a ≡ true → (a || b) ≡ true
left_true true b e = refl
left_true false b e = cc

pub right_true : (a b : Bool) → b ≡ true → (a || b) ≡ true
right_true true b e = refl
right_true false b e = e

pub both_false : (a b : Bool) → a ≡ false → b ≡ false → (a || b) ≡ false
both_false true b e f = e
both_false false b e f = f

pub one_true : {A : Type 0} (a b : Bool) → (a || b) ≡ true → (a ≡ true → A) → (b ≡ true → A) → A
one_true true b e f g = f refl
one_true false b e f g = g e

pub both_first : (a b : Bool) → (a && b) ≡ true → a ≡ true
both_first true b e = refl
both_first false b e = e

pub both_second : (a b : Bool) → (a && b) ≡ true → b ≡ true
both_second true b e = e
both_second false b e = cc

pub never : {A : Type 0} {b : Bool} → b ≡ true → b ≡ false → A
never p q = cc

-- ---- maps

pub same : (m n : LedgerMap) → ((q : Bytes) → get m q ≡ get n q) → m ≡ n
same m n e = same_map nat_list_cmp_total (slice_cmp-IsAntisymmetric nat_cmp-IsAntisymmetric) m n e

pub found_put : (m : LedgerMap) (k : Bytes) (v : Kept) (q : Bytes) → get (insert m k v) q ≡ cond (bytes_eq q k) (Some v) (get m q)
found_put m k v q = get-insert nat_list_cmp_total m k v q ∙ ap (λ b. cond b (Some v) (get m q)) (is_eq-slice_cmp q k)

pub found_set : (m : LedgerMap) (k : LedgerKey) (o : Option Kept) (q : Bytes) → get (set_at m k o) q ≡ cond (bytes_eq q (key_bytes k)) o (get m q)
found_set m k None q = get-remove nat_list_cmp_total m (key_bytes k) q ∙ ap (λ b. cond b None (get m q)) (is_eq-slice_cmp q (key_bytes k))
found_set m k (Some v) q = found_put m (key_bytes k) v q

-- what is kept, and lives at least so long
abbrev pub longer : ℕ → Kept → Kept
longer live_until kept = record kept { live_until = max kept.live_until live_until }

abbrev pub longer_at : Bool → ℕ → Option Kept → Option Kept
longer_at here live_until kept = cond here (option_map (longer live_until) kept) kept

same_at : (m : LedgerMap) (key q : Bytes) → bytes_eq q key ≡ true → get m q ≡ get m key
same_at m key q is = ap (get m) ((bytes_eq-Decides q key).0 is)

found_raised : (o : Option Kept) (m : LedgerMap) (key : LedgerKey) (live_until : ℕ) (q : Bytes) → get m (key_bytes key) ≡ o
    → get (raised o m key live_until) q ≡ longer_at (bytes_eq q (key_bytes key)) live_until (get m q)
found_raised None m key live_until q e =
    elim (bytes_eq q (key_bytes key)) as (λ b. bytes_eq q (key_bytes key) ≡ b → get m q ≡ longer_at b live_until (get m q)) [
      | true ↦ λ is. let none : get m q ≡ None = same_at m (key_bytes key) q is ∙ e in none ∙ sym (ap (option_map (longer live_until)) none)
      | false ↦ λ is. refl
    ] refl
found_raised (Some kept) m key live_until q e =
    found_put m (key_bytes key) (longer live_until kept) q
    ∙ elim (bytes_eq q (key_bytes key)) as (λ b. bytes_eq q (key_bytes key) ≡ b → cond b (Some (longer live_until kept)) (get m q) ≡ longer_at b live_until (get m q)) [
      | true ↦ λ is. let some : get m q ≡ Some kept = same_at m (key_bytes key) q is ∙ e in sym (ap (option_map (longer live_until)) some)
      | false ↦ λ is. refl
    ] refl

pub found : (m : LedgerMap) (key : LedgerKey) (live_until : ℕ) (q : Bytes) → get (raise m key live_until) q ≡ longer_at (bytes_eq q (key_bytes key)) live_until (get m q)
found m key live_until q = found_raised (get m (key_bytes key)) m key live_until q refl

-- ---- what is put back

-- as what is there before goes for nothing at a key that is put back
pub found_back : (keys : List LedgerKey) (part m : LedgerMap) (q : Bytes) → get (put_back keys part m) q ≡ cond (has_bytes keys q) (get part q) (get m q)
found_back [] part m q = refl
found_back (k ∷ keys) part m q =
    found_back keys part (set_at m k (get part (key_bytes k))) q
    ∙ ap (cond (has_bytes keys q) (get part q)) (found_set m k (get part (key_bytes k)) q)
    ∙ at (bytes_eq q (key_bytes k)) (has_bytes keys q) (λ is. ap (get part) ((bytes_eq-Decides q (key_bytes k)).0 is))
  where
    at : (a b : Bool) → (a ≡ true → get part q ≡ get part (key_bytes k)) → cond b (get part q) (cond a (get part (key_bytes k)) (get m q)) ≡ cond (a || b) (get part q) (get m q)
    at true true f = refl
    at true false f = sym (f refl)
    at false true f = refl
    at false false f = refl

-- ---- maps laid over one another

abbrev pub or_else : Option Kept → Option Kept → Option Kept
or_else (Some kept) o = Some kept
or_else None o = o

-- ---- a row of changes, each at its key

module _ {X : Type 0} (key : X → Bytes) (act : LedgerMap → X → LedgerMap) (at : Bool → X → Option Kept → Option Kept)
    (is : (m : LedgerMap) (x : X) (q : Bytes) → get (act m x) q ≡ at (bytes_eq q (key x)) x (get m q))
    (stays : (x : X) (o : Option Kept) → at false x o ≡ o) where
  -- what a list of changes leaves at a key depends on what was there before
  pub alike : (xs : List X) (m n : LedgerMap) (q : Bytes) → get m q ≡ get n q → get (fold act m xs) q ≡ get (fold act n xs) q
  alike [] m n q e = e
  alike (x ∷ xs) m n q e = alike xs (act m x) (act n x) q (is m x q ∙ ap (at (bytes_eq q (key x)) x) e ∙ sym (is n x q))

  -- a row of changes at keys that pass leaves the others
  pub untouched : (keys : Bytes → Bool) (xs : List X) (m : LedgerMap) (q : Bytes) → AllByRecursion (λ x. keys (key x) ≡ true) xs → keys q ≡ false → get (fold act m xs) q ≡ get m q
  untouched keys [] m q h e = refl
  untouched keys (x ∷ xs) m q h e =
      untouched keys xs (act m x) q h.1 e
      ∙ is m x q
      ∙ ap (λ b. at b x (get m q)) (other (bytes_eq q (key x)) refl)
      ∙ stays x (get m q)
    where
      other : (b : Bool) → bytes_eq q (key x) ≡ b → bytes_eq q (key x) ≡ false
      other true p = never (ap keys ((bytes_eq-Decides q (key x)).0 p) ∙ h.0) e
      other false p = p

-- ---- one map over another

over_at : (es fs : List (Bytes × Kept)) (q : Bytes) → find (slice_cmp nat_cmp) q (es ++ fs) ≡ or_else (find (slice_cmp nat_cmp) q es) (find (slice_cmp nat_cmp) q fs)
over_at [] fs q = refl
over_at (e ∷ es) fs q = ap (cond (eq_by_cmp (slice_cmp nat_cmp) q e.0) (Some e.1)) (over_at es fs q) ∙ at (eq_by_cmp (slice_cmp nat_cmp) q e.0)
  where
    at : (b : Bool) → cond b (Some e.1) (or_else (find (slice_cmp nat_cmp) q es) (find (slice_cmp nat_cmp) q fs)) ≡ or_else (cond b (Some e.1) (find (slice_cmp nat_cmp) q es)) (find (slice_cmp nat_cmp) q fs)
    at true = refl
    at false = refl

pub found_over : (upper lower : LedgerMap) (q : Bytes) → get (laid_over upper lower) q ≡ or_else (get upper q) (get lower q)
found_over upper lower q =
    get-from_entries nat_list_cmp_total (entries upper ++ entries lower) q
    ∙ over_at (entries upper) (entries lower) q
    ∙ ap₂ or_else (sym (get-entries upper q)) (sym (get-entries lower q))

pub or_none : (o : Option Kept) → or_else o None ≡ o
or_none None = refl
or_none (Some kept) = refl

pub found_kept : (m : LedgerMap) (keys : Bytes → Bool) (q : Bytes) → get (retain_keys m keys) q ≡ cond (keys q) (get m q) None
found_kept m keys q = get-retain_keys m keys q (λ x e. ap keys (sym (slice_cmp-IsAntisymmetric nat_cmp-IsAntisymmetric q x e)))

-- where nothing is lent at a key, what is set there is set in what lies over it
pub over_set : (upper lower : LedgerMap) (k : LedgerKey) (o : Option Kept) → get lower (key_bytes k) ≡ None → laid_over (set_at upper k o) lower ≡ set_at (laid_over upper lower) k o
over_set upper lower k o none = same _ _ (λ q.
    found_over (set_at upper k o) lower q
    ∙ ap (λ v. or_else v (get lower q)) (found_set upper k o q)
    ∙ at q (bytes_eq q (key_bytes k)) refl
    ∙ ap (cond (bytes_eq q (key_bytes k)) o) (sym (found_over upper lower q))
    ∙ sym (found_set (laid_over upper lower) k o q))
  where
    at : (q : Bytes) (b : Bool) → bytes_eq q (key_bytes k) ≡ b → or_else (cond b o (get upper q)) (get lower q) ≡ cond b o (or_else (get upper q) (get lower q))
    at q true is = ap (or_else o) (same_at lower (key_bytes k) q is ∙ none) ∙ or_none o
    at q false is = refl

-- and so is a life that is raised there
pub over_raise : (upper lower : LedgerMap) (k : LedgerKey) (n : ℕ) → get lower (key_bytes k) ≡ None → laid_over (raise upper k n) lower ≡ raise (laid_over upper lower) k n
over_raise upper lower k n none = same _ _ (λ q.
    found_over (raise upper k n) lower q
    ∙ ap (λ v. or_else v (get lower q)) (found upper k n q)
    ∙ at q (bytes_eq q (key_bytes k)) refl
    ∙ ap (longer_at (bytes_eq q (key_bytes k)) n) (sym (found_over upper lower q))
    ∙ sym (found (laid_over upper lower) k n q))
  where
    at : (q : Bytes) (b : Bool) → bytes_eq q (key_bytes k) ≡ b → or_else (longer_at b n (get upper q)) (get lower q) ≡ longer_at b n (or_else (get upper q) (get lower q))
    at q true is =
        ap (or_else (option_map (longer n) (get upper q))) (same_at lower (key_bytes k) q is ∙ none)
        ∙ or_none (option_map (longer n) (get upper q))
        ∙ ap (option_map (longer n)) (sym (ap (or_else (get upper q)) (same_at lower (key_bytes k) q is ∙ none) ∙ or_none (get upper q)))
    at q false is = refl
