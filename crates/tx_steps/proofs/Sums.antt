-- The bytes that are written, by the changes alone.
use Rattle.std.specs.Prelude.{cond, ◌||◌, ◌&&◌, T, map}
use Rattle.std.specs.List.{AllByRecursion, list_any, sum_by}
use Rattle.std.specs.List.Sorted.{IsStrictlySortedBy}
use Rattle.std.specs.declared.cmp.Ordering.{Ordering}
use Rattle.std.specs.declared.cmp.Ordering.TheVariants.{Less, Equal, Greater}
use Rattle.std.specs.Ordering.{is_lt, is_eq, eq_by_cmp}
use Rattle.std.specs.Cmp.Lexicographic.{nat_list_cmp_total}
use Rattle.std.specs.FinMap.{get, entries, entries_sorted, is_sorted, keys, contains_key-keys}
use Rattle.std.specs.FinMap.Entries.{below_all}
use Rattle.std.proofs.Common.{◌≡◌, ℕ, ◌+◌, Bool, true, false, is_some, List, [], ◌∷◌, Option, Some, None, refl, sym, ap, ap₂, ◌∙◌, zero-add, arith}
use Rattle.std.proofs.lemmas.Cmp.{tied_itself}
use Rattle.std.proofs.lemmas.List.Sums.{sum_by-cons}
use Rattle.std.proofs.lemmas.List.Elements.{recursion_from_All}
use Rattle.value_types.specs.Equality.{is_same_decides}
use Rattle.ledger_types.specs.Equality.{coded_entry}
use Rattle.ledger_spec.specs.declared.Kept.{Kept}
use Rattle.ledger_spec.specs.LedgerMap.{LedgerMap, key_bytes}
use Rattle.ledger_spec.specs.Seen.{Seen, live, absent, archived, seen_of}
use Rattle.contract_storage.specs.Layered.{set_at}
use Rattle.contract_storage.specs.Differences.{change_all, IsDifference, AreDifferences}
use Rattle.contract_storage.specs.declared.changes.Change.{Change}
use Rattle.contract_storage.proofs.Lemmas.{antisymmetric, equal_from, order, set_gets}
use Rattle.call_spec.specs.Accesses.{entry_size}
use Rattle.call_spec.specs.Invoked.{altered_bytes, written_at, written_bytes}
use Rattle.tx_steps.specs.Changed.{changed_bytes}

abbrev Bytes : Type 0
Bytes = List ℕ

-- ---- sums over lists without doubles

abbrev among : Bytes → List Bytes → Bool
among q ks = list_any (eq_by_cmp order q) ks

abbrev Distinct : List Bytes → Type 0
Distinct [] = Unit {0}
Distinct (k ∷ ks) = (among k ks ≡ false) × Distinct ks

left_of : (a b : Bool) → (a || b) ≡ false → a ≡ false
left_of true b e = cc
left_of false b e = refl

right_of : (a b : Bool) → (a || b) ≡ false → b ≡ false
right_of true b e = cc
right_of false b e = e

-- the same where another key counts nothing
abbrev but : Bytes → (Bytes → ℕ) → Bytes → ℕ
but b f k = cond (eq_by_cmp order k b) 0 (f k)

itself : (b : Bytes) → eq_by_cmp order b b ≡ true
itself b = ap is_eq (tied_itself nat_list_cmp_total b)

same_key : (k b : Bytes) → eq_by_cmp order k b ≡ true → k ≡ b
same_key k b e = antisymmetric k b (equal_from (order k b) e)

apart : (b k : Bytes) → eq_by_cmp order b k ≡ false → eq_by_cmp order k b ≡ false
apart b k e = at (eq_by_cmp order k b) refl
  where
    at : (x : Bool) → eq_by_cmp order k b ≡ x → x ≡ false
    at false q = refl
    at true q = let t : eq_by_cmp order b k ≡ true = ap (λ (y : Bytes). eq_by_cmp order b y) (same_key k b q) ∙ itself b in cc

sum_but : (f : Bytes → ℕ) (b : Bytes) (ks : List Bytes) → among b ks ≡ false → sum_by (but b f) ks ≡ sum_by f ks
sum_but f b [] e = refl
sum_but f b (k ∷ ks) e =
    let off : eq_by_cmp order k b ≡ false = apart b k (left_of (eq_by_cmp order b k) (among b ks) e) in
    sum_by-cons (but b f) k ks
    ∙ ap₂ (λ x y. x + y) (ap (λ (x : Bool). cond x 0 (f k)) off) (sum_but f b ks (right_of (eq_by_cmp order b k) (among b ks) e))
    ∙ sym (sum_by-cons f k ks)

moved : (x y z : ℕ) → x + (y + z) ≡ y + (x + z)
moved x y z = omega arith

-- a key that is among the others or not, by a test
taken_by : (f : Bytes → ℕ) (b k : Bytes) (ks : List Bytes) (x : Bool) → eq_by_cmp order k b ≡ x → Distinct (k ∷ ks) → (among b (k ∷ ks) ≡ false → f b ≡ 0)
    → ((among b ks ≡ false → f b ≡ 0) → sum_by f ks ≡ f b + sum_by (but b f) ks) → sum_by f (k ∷ ks) ≡ f b + sum_by (but b f) (k ∷ ks)
taken_by f b k ks true e d h rest =
    let is : k ≡ b = same_key k b e in
    let off : among b ks ≡ false = ap (λ (y : Bytes). among y ks) (sym is) ∙ d.0 in
    sum_by-cons f k ks
    ∙ ap₂ (λ x y. x + y) (ap f is) (sym (sum_but f b ks off))
    ∙ ap (λ x. f b + x) (sym (zero-add (sum_by (but b f) ks)) ∙ ap (λ (y : Bool). cond y 0 (f k) + sum_by (but b f) ks) (sym e) ∙ sym (sum_by-cons (but b f) k ks))
taken_by f b k ks false e d h rest =
    let off : eq_by_cmp order b k ≡ false = apart k b e in
    sum_by-cons f k ks
    ∙ ap (λ x. f k + x) (rest (λ none. h (ap₂ (λ (x y : Bool). x || y) off none)))
    ∙ moved (f k) (f b) (sum_by (but b f) ks)
    ∙ ap (λ x. f b + x) (ap (λ (y : Bool). cond y 0 (f k) + sum_by (but b f) ks) (sym e) ∙ sym (sum_by-cons (but b f) k ks))

taken_out : (f : Bytes → ℕ) (b : Bytes) (ks : List Bytes) → Distinct ks → (among b ks ≡ false → f b ≡ 0) → sum_by f ks ≡ f b + sum_by (but b f) ks
taken_out f b [] d h = sym (ap (λ x. x + 0) (h refl))
taken_out f b (k ∷ ks) d h = taken_by f b k ks (eq_by_cmp order k b) refl d h (λ g. taken_out f b ks d.1 g)

all_zero : (f : Bytes → ℕ) (ks : List Bytes) → ((k : Bytes) → f k ≡ 0) → sum_by f ks ≡ 0
all_zero f [] h = refl
all_zero f (k ∷ ks) h = sum_by-cons f k ks ∙ ap₂ (λ x y. x + y) (h k) (all_zero f ks h)

-- two lists that each have all keys that count
same_sums : (f : Bytes → ℕ) (ks qs : List Bytes) → Distinct ks → Distinct qs → ((k : Bytes) → among k ks ≡ false → f k ≡ 0) → ((k : Bytes) → among k qs ≡ false → f k ≡ 0) → sum_by f ks ≡ sum_by f qs
same_sums f ks [] d e h g = all_zero f ks (λ k. g k refl)
same_sums f ks (q ∷ qs) d e h g =
    taken_out f q ks d (h q)
    ∙ ap (λ x. f q + x) (same_sums (but q f) ks qs d e.1 (λ k off. zero_at k (eq_by_cmp order k q) (λ _. h k off)) (λ k off. zero_at k (eq_by_cmp order k q) (λ here. g k (ap₂ (λ (x y : Bool). x || y) here off)))
    ∙ sum_but f q qs e.0)
    ∙ sym (sum_by-cons f q qs)
  where
    zero_at : (k : Bytes) (b : Bool) → (b ≡ false → f k ≡ 0) → cond b 0 (f k) ≡ 0
    zero_at k true z = refl
    zero_at k false z = z refl

-- ---- keys without doubles

less_apart : (o : Ordering) → o ≡ Less → is_eq o ≡ false
less_apart o e = ap is_eq e

rising_distinct : (ks : List Bytes) → IsStrictlySortedBy order ks → Distinct ks
unfolding IsStrictlySortedBy
rising_distinct [] h = tt
rising_distinct (k ∷ ks) h = (off ks h.0, rising_distinct ks h.1)
  where
    off : (qs : List Bytes) → AllByRecursion (λ y. order k y ≡ Less) qs → among k qs ≡ false
    off [] g = refl
    off (q ∷ qs) g = ap₂ (λ (x y : Bool). x || y) (less_apart (order k q) g.0) (off qs g.1)

is_true : (b : Bool) → T b → b ≡ true
is_true true h = refl
is_true false h = absurd h

both_of : (a b : Bool) → (a && b) ≡ true → (a ≡ true) × (b ≡ true)
both_of true b e = (refl, e)
both_of false b e = cc

lt_apart : (o : Ordering) → is_lt o ≡ true → is_eq o ≡ false
lt_apart Less e = refl
lt_apart Equal e = cc
lt_apart Greater e = refl

entries_distinct : (es : List (Bytes × Kept)) → is_sorted order es ≡ true → Distinct (map (λ e. e.0) es)
entries_distinct [] h = tt
entries_distinct (e ∷ es) h =
    let parts = both_of (below_all order e.0 es) (is_sorted order es) h in
    (off es parts.0, entries_distinct es parts.1)
  where
    off : (xs : List (Bytes × Kept)) → below_all order e.0 xs ≡ true → among e.0 (map (λ x. x.0) xs) ≡ false
    off [] g = refl
    off (x ∷ xs) g =
        let parts = both_of (is_lt (order e.0 x.0)) (below_all order e.0 xs) g in
        ap₂ (λ (a b : Bool). a || b) (lt_apart (order e.0 x.0) parts.0) (off xs parts.1)

keys_distinct : (m : LedgerMap) → Distinct (keys m)
keys_distinct m = entries_distinct (entries m) (is_true (is_sorted order (entries m)) (entries_sorted m))

-- ---- where nothing is written

unaltered : (s : Seen) → altered_bytes s s ≡ 0
unaltered (live kept) = ap (λ (b : Bool). cond b 0 (entry_size kept.entry)) ((is_same_decides coded_entry kept.entry kept.entry).1 refl)
unaltered absent = refl
unaltered archived = refl

abbrev bytes_of : List Change → List Bytes
bytes_of changes = map (λ c. key_bytes c.key) changes

-- a key without a change
still_there : (changes : List Change) (old : LedgerMap) (q : Bytes) → among q (bytes_of changes) ≡ false → get (change_all old changes) q ≡ get old q
still_there [] old q e = refl
still_there (c ∷ changes) old q e =
    still_there changes (set_at old (key_bytes c.key) c.now) q (right_of (eq_by_cmp order q (key_bytes c.key)) (among q (bytes_of changes)) e)
    ∙ set_gets old (key_bytes c.key) c.now q
    ∙ ap (λ (b : Bool). cond b c.now (get old q)) (left_of (eq_by_cmp order q (key_bytes c.key)) (among q (bytes_of changes)) e)

none_of : {X : Type 0} (o : Option X) → is_some o ≡ false → o ≡ None
none_of None e = refl
none_of (Some x) e = cc

-- ---- the sum over the changes

module _ (n : ℕ) (old new : LedgerMap) where
  by_change : (changes : List Change) → AllByRecursion (IsDifference old new) changes → sum_by (changed_bytes n old) changes ≡ sum_by (written_at n old new) (bytes_of changes)
  by_change [] h = refl
  by_change (c ∷ changes) h =
      sum_by-cons (changed_bytes n old) c changes
      ∙ ap₂ (λ x y. x + y) (ap (λ (o : Option Kept). altered_bytes (seen_of n (get old (key_bytes c.key))) (seen_of n o)) h.0.now-is) (by_change changes h.1)
      ∙ sym (sum_by-cons (written_at n old new) (key_bytes c.key) (bytes_of changes))

  pub written_by_changes : (changes : List Change) → AreDifferences old new changes → sum_by (changed_bytes n old) changes ≡ written_bytes n old new
  written_by_changes changes h =
      by_change changes (recursion_from_All (IsDifference old new) changes h.each)
      ∙ same_sums (written_at n old new) (bytes_of changes) (keys new) (rising_distinct (bytes_of changes) h.sorted) (keys_distinct new)
      (λ k off. ap (λ (m : LedgerMap). altered_bytes (seen_of n (get old k)) (seen_of n (get m k))) (sym h.all)
      ∙ ap (λ (o : Option Kept). altered_bytes (seen_of n (get old k)) (seen_of n o)) (still_there changes old k off)
      ∙ unaltered (seen_of n (get old k)))
      (λ k off. ap (λ (o : Option Kept). altered_bytes (seen_of n (get old k)) (seen_of n o)) (none_of (get new k) (contains_key-keys new k ∙ off)))
