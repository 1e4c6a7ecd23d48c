-- Lives that are raised: in which order, and how often, makes no difference.
use Rattle.std.specs.Option.{option_map}
use Rattle.std.specs.Str.{bytes_eq}
use Rattle.std.specs.Cmp.Lexicographic.{nat_list_cmp_total}
use Rattle.std.specs.FinMap.{get, get-insert, same_map, slice_cmp-IsAntisymmetric, nat_cmp-IsAntisymmetric}
use Rattle.std.proofs.Common.{◌≡◌, ℕ, max, Bool, true, false, not, ◌||◌, cond, List, [], ◌∷◌, filter, Option, Some, None, refl, sym, ap, ◌∙◌, arith}
use Rattle.std.proofs.lemmas.Map.Text.{is_eq-slice_cmp}
use Rattle.std.proofs.lemmas.Slice.Eq.{bytes_eq-Decides}
use Rattle.ledger_types.specs.declared.key.LedgerKey.{LedgerKey}
use Rattle.ledger_spec.specs.declared.Kept.{Kept}
use Rattle.ledger_spec.specs.LedgerMap.{LedgerMap, key_bytes, find}
use Rattle.ledger_spec.specs.Changes.{raise, raised}
use Rattle.stage_runs.specs.declared.Extension.{Extension}
use Rattle.stage_runs.specs.Runs.{put_in, put_all_in}
use Rattle.set_steps.specs.Pending.{has_bytes, longest}

-- what is kept, and lives at least so long
abbrev longer : ℕ → Kept → Kept
longer live_until kept = record kept { live_until = max kept.live_until live_until }

abbrev longer_at : Bool → ℕ → Option Kept → Option Kept
longer_at here live_until kept = cond here (option_map (longer live_until) kept) kept

-- ---- what is found after a life was raised

same_at : (map : LedgerMap) (key : LedgerKey) (q : List ℕ) → bytes_eq q (key_bytes key) ≡ true → get map q ≡ find map key
same_at map key q is = ap (get map) ((bytes_eq-Decides q (key_bytes key)).0 is)

found_raised : (o : Option Kept) (map : LedgerMap) (key : LedgerKey) (live_until : ℕ) (q : List ℕ) → find map key ≡ o
    → get (raised o map key live_until) q ≡ longer_at (bytes_eq q (key_bytes key)) live_until (get map q)
found_raised None map key live_until q e =
    elim (bytes_eq q (key_bytes key)) as (λ b. bytes_eq q (key_bytes key) ≡ b → get map q ≡ longer_at b live_until (get map q)) [
      | true ↦ λ is. let none : get map q ≡ None = same_at map key q is ∙ e in none ∙ sym (ap (option_map (longer live_until)) none)
      | false ↦ λ is. refl
    ] refl
found_raised (Some kept) map key live_until q e =
    get-insert nat_list_cmp_total map (key_bytes key) (longer live_until kept) q
    ∙ ap (λ b. cond b (Some (longer live_until kept)) (get map q)) (is_eq-slice_cmp q (key_bytes key))
    ∙ elim (bytes_eq q (key_bytes key)) as (λ b. bytes_eq q (key_bytes key) ≡ b → cond b (Some (longer live_until kept)) (get map q) ≡ longer_at b live_until (get map q)) [
      | true ↦ λ is. let some : get map q ≡ Some kept = same_at map key q is ∙ e in sym (ap (option_map (longer live_until)) some)
      | false ↦ λ is. refl
    ] refl

found : (map : LedgerMap) (key : LedgerKey) (live_until : ℕ) (q : List ℕ) → get (raise map key live_until) q ≡ longer_at (bytes_eq q (key_bytes key)) live_until (get map q)
found map key live_until q = found_raised (find map key) map key live_until q refl

same : (m n : LedgerMap) → ((q : List ℕ) → get m q ≡ get n q) → m ≡ n
same m n e = same_map nat_list_cmp_total (slice_cmp-IsAntisymmetric nat_cmp-IsAntisymmetric) m n e

-- ---- the order

max_swap : (a b c : ℕ) → max (max a b) c ≡ max (max a c) b
max_swap a b c = omega arith

swap_at : (a b : Bool) (l m : ℕ) (kept : Option Kept) → longer_at b m (longer_at a l kept) ≡ longer_at a l (longer_at b m kept)
swap_at true true l m None = refl
swap_at true true l m (Some kept) = ap (λ (n : ℕ). Some (let k : Kept = record kept { live_until = n } in k)) (max_swap kept.live_until l m)
swap_at true false l m kept = refl
swap_at false true l m kept = refl
swap_at false false l m kept = refl

pub raise_swap : (map : LedgerMap) (a b : LedgerKey) (l m : ℕ) → raise (raise map a l) b m ≡ raise (raise map b m) a l
raise_swap map a b l m = same _ _ (λ q.
    found (raise map a l) b m q ∙ ap (longer_at (bytes_eq q (key_bytes b)) m) (found map a l q)
    ∙ swap_at (bytes_eq q (key_bytes a)) (bytes_eq q (key_bytes b)) l m (get map q)
    ∙ sym (found (raise map b m) a l q ∙ ap (longer_at (bytes_eq q (key_bytes a)) l) (found map b m q)))

-- ---- one key

max_join : (a b c : ℕ) → max (max a b) c ≡ max a (max b c)
max_join a b c = omega arith

join_at : (a : Bool) (l m : ℕ) (kept : Option Kept) → longer_at a m (longer_at a l kept) ≡ longer_at a (max l m) kept
join_at true l m None = refl
join_at true l m (Some kept) = ap (λ (n : ℕ). Some (let k : Kept = record kept { live_until = n } in k)) (max_join kept.live_until l m)
join_at false l m kept = refl

raise_join : (map : LedgerMap) (key : LedgerKey) (l m : ℕ) → raise (raise map key l) key m ≡ raise map key (max l m)
raise_join map key l m = same _ _ (λ q.
    found (raise map key l) key m q ∙ ap (longer_at (bytes_eq q (key_bytes key)) m) (found map key l q)
    ∙ join_at (bytes_eq q (key_bytes key)) l m (get map q) ∙ sym (found map key (max l m) q))

max_zero : (a : ℕ) → max a 0 ≡ a
max_zero a = omega arith

zero_at : (a : Bool) (kept : Option Kept) → longer_at a 0 kept ≡ kept
zero_at true None = refl
zero_at true (Some kept) = ap (λ (n : ℕ). Some (let k : Kept = record kept { live_until = n } in k)) (max_zero kept.live_until)
zero_at false kept = refl

raise_zero : (map : LedgerMap) (key : LedgerKey) → raise map key 0 ≡ map
raise_zero map key = same _ _ (λ q. found map key 0 q ∙ zero_at (bytes_eq q (key_bytes key)) (get map q))

raise_by_bytes : (map : LedgerMap) (a b : LedgerKey) (l : ℕ) → key_bytes a ≡ key_bytes b → raise map a l ≡ raise map b l
raise_by_bytes map a b l e = same _ _ (λ q. found map a l q ∙ ap (λ (k : List ℕ). longer_at (bytes_eq q k) l (get map q)) e ∙ sym (found map b l q))

-- ---- all that is put in

pub put_in_later : (entries : LedgerMap) (x : Extension) (xs : List Extension) → put_in (put_all_in entries xs) x ≡ put_all_in (put_in entries x) xs
put_in_later entries x [] = refl
put_in_later entries x (y ∷ xs) =
    put_in_later (put_in entries y) x xs
    ∙ ap (λ (m : LedgerMap). put_all_in m xs) (raise_swap entries y.key x.key y.live_until x.live_until)

-- those of one key are put in by the longest life among them
pub put_in_of_key : (entries : LedgerMap) (key : LedgerKey) (xs : List Extension)
    → put_all_in entries (filter (has_bytes (key_bytes key)) xs) ≡ raise entries key (longest (filter (has_bytes (key_bytes key)) xs))
put_in_of_key entries key [] = sym (raise_zero entries key)
put_in_of_key entries key (x ∷ xs) =
    let of_key = has_bytes (key_bytes key) in
    elim (of_key x) as (λ b. of_key x ≡ b → put_all_in entries (cond b (x ∷ filter of_key xs) (filter of_key xs)) ≡ raise entries key (longest (cond b (x ∷ filter of_key xs) (filter of_key xs)))) [
      | true ↦ λ is.
          ap (λ (m : LedgerMap). put_all_in m (filter of_key xs)) (raise_by_bytes entries x.key key x.live_until ((bytes_eq-Decides (key_bytes x.key) (key_bytes key)).0 is))
          ∙ put_in_of_key (raise entries key x.live_until) key xs
          ∙ raise_join entries key x.live_until (longest (filter of_key xs))
      | false ↦ λ is. put_in_of_key entries key xs
    ] refl

-- Those that pass one test, and then of the others those that pass another, are those that pass one or the other.
abbrev pub either : (Extension → Bool) → (Extension → Bool) → Extension → Bool
either p q e = p e || q e

abbrev pub neither : (Extension → Bool) → Extension → Bool
neither p e = not (p e)

pub put_in_either : (entries : LedgerMap) (p q : Extension → Bool) (xs : List Extension)
    → put_all_in (put_all_in entries (filter p xs)) (filter q (filter (neither p) xs)) ≡ put_all_in entries (filter (either p q) xs)
put_in_either entries p q [] = refl
put_in_either entries p q (x ∷ xs) =
    elim (p x) as (λ a. put_all_in (put_all_in entries (cond a (x ∷ filter p xs) (filter p xs))) (filter q (cond (not a) (x ∷ filter (neither p) xs) (filter (neither p) xs)))
    ≡ put_all_in entries (cond (a || q x) (x ∷ filter (either p q) xs) (filter (either p q) xs))) [
      | true ↦ put_in_either (put_in entries x) p q xs
      | false ↦ elim (q x) as (λ b. put_all_in (put_all_in entries (filter p xs)) (cond b (x ∷ filter q (filter (neither p) xs)) (filter q (filter (neither p) xs)))
          ≡ put_all_in entries (cond b (x ∷ filter (either p q) xs) (filter (either p q) xs))) [
            | true ↦ ap (λ (m : LedgerMap). put_all_in m (filter q (filter (neither p) xs))) (put_in_later entries x (filter p xs)) ∙ put_in_either (put_in entries x) p q xs
            | false ↦ put_in_either entries p q xs
          ]
    ]

pub left_by_neither : (p q : Extension → Bool) (xs : List Extension) → filter (neither q) (filter (neither p) xs) ≡ filter (neither (either p q)) xs
left_by_neither p q [] = refl
left_by_neither p q (x ∷ xs) =
    elim (p x) as (λ a. filter (neither q) (cond (not a) (x ∷ filter (neither p) xs) (filter (neither p) xs)) ≡ cond (not (a || q x)) (x ∷ filter (neither (either p q)) xs) (filter (neither (either p q)) xs)) [
      | true ↦ left_by_neither p q xs
      | false ↦ elim (q x) as (λ b. cond (not b) (x ∷ filter (neither q) (filter (neither p) xs)) (filter (neither q) (filter (neither p) xs)) ≡ cond (not b) (x ∷ filter (neither (either p q)) xs) (filter (neither (either p q)) xs)) [
        | true ↦ left_by_neither p q xs
        | false ↦ ap (λ (l : List Extension). x ∷ l) (left_by_neither p q xs)
      ]
    ]

pub put_in_known : (entries after : LedgerMap) (key : LedgerKey) (xs : List Extension) (l : ℕ) → l ≡ longest (filter (has_bytes (key_bytes key)) xs)
    → after ≡ raise entries key l → after ≡ put_all_in entries (filter (has_bytes (key_bytes key)) xs)
put_in_known entries after key xs l life is = is ∙ ap (raise entries key) life ∙ sym (put_in_of_key entries key xs)

pub put_in_none : (entries : LedgerMap) (ys : List Extension) → ys ≡ [] → entries ≡ put_all_in entries ys
put_in_none entries ys none = sym (ap (put_all_in entries) none)
