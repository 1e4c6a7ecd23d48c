-- What parts have at a key.
use Rattle.std.specs.Ordering.{nat_cmp}
use Rattle.std.specs.Cmp.Lexicographic.{slice_cmp, nat_list_cmp_total}
use Rattle.std.specs.FinMap.{get, insert, remove, retain_keys, len-remove, get-remove, entries, len, empty, from_entries, get-insert, len-insert, len-entries, len-empty, contains_key}
use Rattle.std.specs.List.{All, AllByRecursion}
use Rattle.std.proofs.lemmas.List.Elements.{All-from_recursion, recursion_from_All}
use Rattle.std.proofs.Common.{◌≡◌, ℕ, ◌+◌, ◌-◌, max, ◌<◌, ◌≤◌, ◌^◌, Bool, true, false, not, ◌||◌, cond, List, [], ◌∷◌, ◌++◌, filter, length, Option, Some, None, Result, Ok, Err, OnOk, OnErr, refl, sym, ap, ap₂, subst, ◌∙◌, arith}
use Rattle.std.proofs.lemmas.List.{length-append}
use Rattle.std.specs.Prelude.{is_some}
use Rattle.std.specs.Str.{bytes_eq}
use Rattle.std.proofs.lemmas.Map.Text.{is_eq-slice_cmp}
use Rattle.std.proofs.lemmas.Slice.Eq.{bytes_eq-Decides}
use Rattle.ledger_types.specs.declared.key.LedgerKey.{LedgerKey}
use Rattle.ledger_spec.specs.declared.Kept.{Kept}
use Rattle.ledger_spec.specs.LedgerMap.{LedgerMap, IsLedgerMap, IsKeptAt, key_bytes}
use Rattle.ledger_spec.specs.Changes.{raise, raised}
use Rattle.ledger_spec.proofs.Lemmas.{inserted}
use Rattle.stage_runs.specs.Maps.{has_bytes, laid_over}
use Rattle.stage_runs.proofs.Lemmas.{found_kept, found_over, or_else, same}
use Rattle.ledger_parts.specs.Shown.{is_read, shown, with_found}

-- ---- a part shows a ledger's map

abbrev IsAt : List ℕ × Kept → Type 0
IsAt e = IsKeptAt e.0 e.1

at_most_one : (b : Bool) (n : ℕ) → cond b n (n + 1) ≤ n + 1
at_most_one true n = omega arith
at_most_one false n = omega arith

few_of : (es : List (List ℕ × Kept)) → len {R = slice_cmp nat_cmp} (from_entries es) ≤ length es
few_of [] = omega (arith, len-empty (slice_cmp nat_cmp) Kept)
few_of (e ∷ es) = omega (arith, len-insert nat_list_cmp_total (from_entries es) e.0 e.1, at_most_one (contains_key {R = slice_cmp nat_cmp} (from_entries es) e.0) (len {R = slice_cmp nat_cmp} (from_entries es)), few_of es)

no_entries_in : (es : List (List ℕ × Kept)) → length es ≡ 0 → es ≡ []
no_entries_in [] e = refl
no_entries_in (x ∷ es) e = absurd (omega arith)

empty_map : IsLedgerMap empty
empty_map = record {
  each = subst (λ (es : List (List ℕ × Kept)). All IsAt es)
      (sym (no_entries_in (entries empty) (sym (len-entries empty) ∙ len-empty (slice_cmp nat_cmp) Kept)))
      (All-from_recursion IsAt [] tt);
  few = omega (arith, len-empty (slice_cmp nat_cmp) Kept);
}

map_of_entries : (es : List (List ℕ × Kept)) → AllByRecursion IsAt es → length es < 2 ^ 32 → IsLedgerMap (from_entries es)
map_of_entries [] h few = empty_map
map_of_entries (e ∷ es) h few =
    inserted (from_entries es) e.0 e.1 (map_of_entries es h.1 (omega arith)) h.0 (omega (arith, few_of es))

each_both : (es fs : List (List ℕ × Kept)) → AllByRecursion IsAt es → AllByRecursion IsAt fs → AllByRecursion IsAt (es ++ fs)
each_both [] fs g h = h
each_both (e ∷ es) fs g h = (g.0, each_both es fs g.1 h)

each_passed : (test : List ℕ × Kept → Bool) (es : List (List ℕ × Kept)) → AllByRecursion IsAt es → AllByRecursion IsAt (filter test es)
each_passed test [] h = tt
each_passed test (e ∷ es) h =
    elim (test e) as (λ b. AllByRecursion IsAt (cond b (e ∷ filter test es) (filter test es))) [
      | true ↦ (h.0, each_passed test es h.1)
      | false ↦ each_passed test es h.1
    ]

fewer : (test : List ℕ × Kept → Bool) (es : List (List ℕ × Kept)) → length (filter test es) ≤ length es
fewer test [] = omega arith
fewer test (e ∷ es) =
    elim (test e) as (λ b. length (cond b (e ∷ filter test es) (filter test es)) ≤ length (e ∷ es)) [
      | true ↦ omega (arith, fewer test es)
      | false ↦ omega (arith, fewer test es)
    ]

-- the map that a part shows is that of a ledger
pub shown_map : (reads : List LedgerKey) (lent own : LedgerMap) → IsLedgerMap lent → IsLedgerMap own → len own + len lent < 2 ^ 32
    → IsLedgerMap (shown reads lent own)
shown_map reads lent own is is' few =
    map_of_entries (entries own ++ filter (λ e. is_read reads e.0) (entries lent))
    (each_both (entries own) (filter (λ e. is_read reads e.0) (entries lent)) (recursion_from_All IsAt (entries own) is'.each)
    (each_passed (λ e. is_read reads e.0) (entries lent) (recursion_from_All IsAt (entries lent) is.each)))
    (omega (arith, length-append (entries own) (filter (λ e. is_read reads e.0) (entries lent)), fewer (λ e. is_read reads e.0) (entries lent), len-entries own, len-entries lent, few))

-- ---- entries that are moved

found_with : (m : LedgerMap) (k : LedgerKey) (o : Option Kept) (q : List ℕ)
    → get (with_found m k o) q ≡ or_else (cond (bytes_eq q (key_bytes k)) o None) (get m q)
found_with m k None q = elim (bytes_eq q (key_bytes k)) as (λ b. get m q ≡ or_else (cond b None None) (get m q)) [ true ↦ refl | false ↦ refl ]
found_with m k (Some v) q =
    get-insert nat_list_cmp_total m (key_bytes k) v q ∙ ap (λ b. cond b (Some v) (get m q)) (is_eq-slice_cmp q (key_bytes k))
    ∙ elim (bytes_eq q (key_bytes k)) as (λ b. cond b (Some v) (get m q) ≡ or_else (cond b (Some v) None) (get m q)) [ true ↦ refl | false ↦ refl ]

has_more : (keys : List LedgerKey) (k : LedgerKey) (q : List ℕ) → has_bytes (keys ++ k ∷ []) q ≡ has_bytes keys q || bytes_eq q (key_bytes k)
has_more [] k q = elim (bytes_eq q (key_bytes k)) as (λ b. (b || false) ≡ b) [ true ↦ refl | false ↦ refl ]
has_more (l ∷ keys) k q =
    ap (λ b. bytes_eq q (key_bytes l) || b) (has_more keys k q)
    ∙ elim (bytes_eq q (key_bytes l)) as (λ a. (a || (has_bytes keys q || bytes_eq q (key_bytes k))) ≡ ((a || has_bytes keys q) || bytes_eq q (key_bytes k))) [ true ↦ refl | false ↦ refl ]

abbrev pub rest_of : LedgerMap → List LedgerKey → LedgerMap
rest_of m keys = retain_keys m (λ q. not (has_bytes keys q))

abbrev pub put_over : LedgerMap → LedgerMap → List LedgerKey → LedgerMap
put_over m lower keys = laid_over (retain_keys m (has_bytes keys)) lower

pub rest_more : (m : LedgerMap) (keys : List LedgerKey) (k : LedgerKey) → remove (rest_of m keys) (key_bytes k) ≡ rest_of m (keys ++ k ∷ [])
rest_more m keys k = same _ _ (λ q.
    get-remove nat_list_cmp_total (rest_of m keys) (key_bytes k) q
    ∙ ap (λ b. cond b None (get (rest_of m keys) q)) (is_eq-slice_cmp q (key_bytes k))
    ∙ ap (cond (bytes_eq q (key_bytes k)) None) (found_kept m (λ p. not (has_bytes keys p)) q)
    ∙ at (bytes_eq q (key_bytes k)) (has_bytes keys q) (get m q)
    ∙ sym (found_kept m (λ p. not (has_bytes (keys ++ k ∷ []) p)) q ∙ ap (λ b. cond (not b) (get m q) None) (has_more keys k q)))
  where
    at : (b h : Bool) (o : Option Kept) → cond b None (cond (not h) o None) ≡ cond (not (h || b)) o None
    at true true o = refl
    at true false o = refl
    at false true o = refl
    at false false o = refl

pub over_more : (m lower : LedgerMap) (keys : List LedgerKey) (k : LedgerKey)
    → with_found (put_over m lower keys) k (get (rest_of m keys) (key_bytes k)) ≡ put_over m lower (keys ++ k ∷ [])
over_more m lower keys k = same _ _ (λ q.
    found_with (put_over m lower keys) k (get (rest_of m keys) (key_bytes k)) q
    ∙ ap₂ (λ (o p : Option Kept). or_else (cond (bytes_eq q (key_bytes k)) o None) p)
    (found_kept m (λ p. not (has_bytes keys p)) (key_bytes k))
    (found_over (retain_keys m (has_bytes keys)) lower q ∙ ap (λ (o : Option Kept). or_else o (get lower q)) (found_kept m (has_bytes keys) q))
    ∙ by_bytes q (bytes_eq q (key_bytes k)) refl
    ∙ sym (found_over (retain_keys m (has_bytes (keys ++ k ∷ []))) lower q
    ∙ ap (λ (o : Option Kept). or_else o (get lower q)) (found_kept m (has_bytes (keys ++ k ∷ [])) q ∙ ap (λ b. cond b (get m q) None) (has_more keys k q))))
  where
    at : (h : Bool) (o p : Option Kept) → or_else (cond (not h) o None) (or_else (cond h o None) p) ≡ or_else (cond (h || true) o None) p
    at true o p = refl
    at false None p = refl
    at false (Some v) p = refl

    no_more : (h : Bool) → (h || false) ≡ h
    no_more true = refl
    no_more false = refl

    by_bytes : (q : List ℕ) (b : Bool) → bytes_eq q (key_bytes k) ≡ b
        → or_else (cond b (cond (not (has_bytes keys (key_bytes k))) (get m (key_bytes k)) None) None) (or_else (cond (has_bytes keys q) (get m q) None) (get lower q))
        ≡ or_else (cond (has_bytes keys q || b) (get m q) None) (get lower q)
    by_bytes q true is =
        let e : key_bytes k ≡ q = sym ((bytes_eq-Decides q (key_bytes k)).0 is) in
        ap (λ (p : List ℕ). or_else (cond (not (has_bytes keys p)) (get m p) None) (or_else (cond (has_bytes keys q) (get m q) None) (get lower q))) e
        ∙ at (has_bytes keys q) (get m q) (get lower q)
    by_bytes q false is = ap (λ b. or_else (cond b (get m q) None) (get lower q)) (sym (no_more (has_bytes keys q)))

-- nothing is moved at no key
pub rest_none : (m : LedgerMap) → rest_of m [] ≡ m
rest_none m = same _ _ (λ q. found_kept m (λ p. not (has_bytes [] p)) q)

pub over_none : (m lower : LedgerMap) → put_over m lower [] ≡ lower
over_none m lower = same _ _ (λ q. found_over (retain_keys m (has_bytes [])) lower q ∙ ap (λ (o : Option Kept). or_else o (get lower q)) (found_kept m (has_bytes []) q))

-- ---- how many entries there are after a change

pub one_more : (m : LedgerMap) (k : List ℕ) (v : Kept) → len (insert m k v) ≤ len m + 1
one_more m k v = omega (arith, len-insert nat_list_cmp_total m k v, at_most_one (contains_key m k) (len m))

-- there is room for one more entry, and it was stored or not
pub few_after : {A E : Type 0} (r : Result A E) (m n : LedgerMap) (k : List ℕ) (v : Kept) (others : ℕ) → OnOk r (n ≡ insert m k v) → OnErr r (n ≡ m)
    → len m + 1 + others < 2 ^ 32 → len n + others < 2 ^ 32
few_after (Ok x) m n k v others ok err few = omega (arith, ap (λ (l : LedgerMap). len l) ok, one_more m k v, few)
few_after (Err e) m n k v others ok err few = omega (arith, ap (λ (l : LedgerMap). len l) err, few)

less_or_same : (b : Bool) (n : ℕ) → cond b (n - 1) n ≤ n
less_or_same true n = omega arith
less_or_same false n = omega arith

pub no_more_removed : (m : LedgerMap) (k : List ℕ) → len (remove m k) ≤ len m
no_more_removed m k = omega (arith, len-remove nat_list_cmp_total m k, less_or_same (contains_key m k) (len m))

raised_by : (o : Option Kept) (m : LedgerMap) (k : LedgerKey) (n : ℕ) → get m (key_bytes k) ≡ o → len (raised o m k n) ≤ len m
raised_by None m k n e = omega arith
raised_by (Some kept) m k n e =
    omega (arith, len-insert nat_list_cmp_total m (key_bytes k) (record kept { live_until = max kept.live_until n }) ∙ ap (λ (o : Option Kept). cond (is_some o) (len m) (len m + 1)) e)

pub no_more_raised : (m : LedgerMap) (k : LedgerKey) (n : ℕ) → len (raise m k n) ≤ len m
no_more_raised m k n = raised_by (get m (key_bytes k)) m k n refl
