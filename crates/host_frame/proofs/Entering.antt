-- Laws of values that enter the host.
use Rattle.std.proofs.Common.{◌≡◌, ℕ, zero, suc, ◌+◌, ◌<◌, ◌≤◌, List, [], ◌∷◌, length, get_or, drop, Ok, Err, Bool, true, false, ◌&&◌, nat_le, refl, sym, ap, ◌∙◌, arith}
use Rattle.value_types.specs.Datum.{Datum, items_of, members_of}
use Rattle.value_types.specs.Views.{datum, datums, datum_pair, datum_pairs}
use Rattle.value_types.specs.declared.value.ScVal.{ScVal}
use Rattle.value_types.specs.declared.value.Entry.{Entry}
use Rattle.value_xdr.specs.Bytes.{IsBounded}
use Rattle.xdr_core.specs.Sizes.{capped}
use Rattle.host_spec.specs.Errors.{INVALID_VALUE, OTHER_TYPE, TOO_LARGE}
use Rattle.host_spec.specs.Hosted.{entry, size_of, has_host_types, items_have_host_types, members_have_host_types, is_below, is_well_formed, items_are_well_formed, members_are_well_formed, IsMade}
use Rattle.host_frame.proofs.AllGiven.{left_at, left_end}
use Rattle.host_frame.proofs.Acting.{capped_is}

-- ---- items

pub types_past : (vs : List ScVal) (i j : ℕ) (v : ScVal) → j ≡ i + 1 → i < length vs → v ≡ get_or vs i v → has_host_types (datum v) ≡ true
    → items_have_host_types (items_of (datums (drop i vs))) ≡ items_have_host_types (items_of (datums (drop j vs)))
types_past vs i j v next lt is h = rw (left_at vs i j v next lt is, h) refl

pub types_stop : (vs : List ScVal) (i : ℕ) (v : ScVal) → i < length vs → v ≡ get_or vs i v → has_host_types (datum v) ≡ false → items_have_host_types (items_of (datums (drop i vs))) ≡ false
types_stop vs i v lt is h = rw (left_at vs i (i + 1) v refl lt is, h) refl

pub types_end : (vs : List ScVal) (i : ℕ) → length vs ≤ i → items_have_host_types (items_of (datums (drop i vs))) ≡ true
types_end vs i h = rw (left_end vs i h) refl

pub form_past : (vs : List ScVal) (i j : ℕ) (v : ScVal) → j ≡ i + 1 → i < length vs → v ≡ get_or vs i v → is_well_formed (datum v) ≡ true
    → items_are_well_formed (items_of (datums (drop i vs))) ≡ items_are_well_formed (items_of (datums (drop j vs)))
form_past vs i j v next lt is h = rw (left_at vs i j v next lt is, h) refl

pub form_stop : (vs : List ScVal) (i : ℕ) (v : ScVal) → i < length vs → v ≡ get_or vs i v → is_well_formed (datum v) ≡ false → items_are_well_formed (items_of (datums (drop i vs))) ≡ false
form_stop vs i v lt is h = rw (left_at vs i (i + 1) v refl lt is, h) refl

pub form_end : (vs : List ScVal) (i : ℕ) → length vs ≤ i → items_are_well_formed (items_of (datums (drop i vs))) ≡ true
form_end vs i h = rw (left_end vs i h) refl

-- ---- entries

-- the entry at an index, and those after it
pub pair_left_at : (es : List Entry) (i j : ℕ) (e : Entry) → j ≡ i + 1 → i < length es → e ≡ get_or es i e → datum_pairs (drop i es) ≡ datum_pair e ∷ datum_pairs (drop j es)
pair_left_at [] i j e next lt is = absurd (omega arith)
pair_left_at (x ∷ es) zero j e next lt is = let one : j ≡ 1 = omega arith in rw (one, ← is) refl
pair_left_at (x ∷ es) (suc i) j e next lt is =
    let more : j ≡ suc (i + 1) = omega arith in
    pair_left_at es i (i + 1) e refl (omega arith) is ∙ ap (λ (n : ℕ). datum_pair e ∷ datum_pairs (drop n (x ∷ es))) (sym more)

pub pair_left_end : (es : List Entry) (i : ℕ) → length es ≤ i → datum_pairs (drop i es) ≡ []
pair_left_end [] zero h = refl
pair_left_end [] (suc i) h = refl
pair_left_end (x ∷ es) zero h = absurd (omega arith)
pair_left_end (x ∷ es) (suc i) h = pair_left_end es i (omega arith)

false_first : (a b c : Bool) → a && b ≡ false → a && (b && c) ≡ false
false_first true b c h = rw h refl
false_first false b c h = refl

pub pair_types_past : (es : List Entry) (i j : ℕ) (e : Entry) → j ≡ i + 1 → i < length es → e ≡ get_or es i e → has_host_types (datum e.key) ≡ true → has_host_types (datum e.val) ≡ true
    → members_have_host_types (members_of (datum_pairs (drop i es))) ≡ members_have_host_types (members_of (datum_pairs (drop j es)))
pair_types_past es i j e next lt is h k = rw (pair_left_at es i j e next lt is, h, k) refl

pub pair_types_stop : (es : List Entry) (i : ℕ) (e : Entry) → i < length es → e ≡ get_or es i e → has_host_types (datum e.key) && has_host_types (datum e.val) ≡ false
    → members_have_host_types (members_of (datum_pairs (drop i es))) ≡ false
pair_types_stop es i e lt is h =
    rw (pair_left_at es i (i + 1) e refl lt is) (false_first (has_host_types (datum e.key)) (has_host_types (datum e.val)) (members_have_host_types (members_of (datum_pairs (drop (i + 1) es)))) h)

pub pair_types_end : (es : List Entry) (i : ℕ) → length es ≤ i → members_have_host_types (members_of (datum_pairs (drop i es))) ≡ true
pair_types_end es i h = rw (pair_left_end es i h) refl

false_second : (a b c d : Bool) → (a && b) && c ≡ false → a && (b && (c && d)) ≡ false
false_second true true c d h = rw h refl
false_second true false c d h = refl
false_second false b c d h = refl

pub pair_form_past : (es : List Entry) (i j : ℕ) (e : Entry) → j ≡ i + 1 → i < length es → e ≡ get_or es i e
    → is_below (datum e.key) (members_of (datum_pairs (drop j es))) ≡ true → is_well_formed (datum e.key) ≡ true → is_well_formed (datum e.val) ≡ true
    → members_are_well_formed (members_of (datum_pairs (drop i es))) ≡ members_are_well_formed (members_of (datum_pairs (drop j es)))
pair_form_past es i j e next lt is b h k = rw (pair_left_at es i j e next lt is, b, h, k) refl

pub pair_form_stop : (es : List Entry) (i j : ℕ) (e : Entry) → j ≡ i + 1 → i < length es → e ≡ get_or es i e
    → (is_below (datum e.key) (members_of (datum_pairs (drop j es))) && is_well_formed (datum e.key)) && is_well_formed (datum e.val) ≡ false
    → members_are_well_formed (members_of (datum_pairs (drop i es))) ≡ false
pair_form_stop es i j e next lt is h =
    rw (pair_left_at es i j e next lt is)
    (false_second (is_below (datum e.key) (members_of (datum_pairs (drop j es)))) (is_well_formed (datum e.key)) (is_well_formed (datum e.val)) (members_are_well_formed (members_of (datum_pairs (drop j es)))) h)

pub pair_form_end : (es : List Entry) (i : ℕ) → length es ≤ i → members_are_well_formed (members_of (datum_pairs (drop i es))) ≡ true
pair_form_end es i h = rw (pair_left_end es i h) refl

-- ---- the three tests

le_true : (a b : ℕ) → a ≤ b → nat_le a b ≡ true
le_true a b h = grind arith

le_false : (a b : ℕ) → b < a → nat_le a b ≡ false
le_false a b h = grind arith

larger : (n size : ℕ) → size ≡ capped n → 16777216 < size → 16777216 < n
unfolding capped
larger n size e h = omega arith

pub entry_too_large : (d : Datum) (size : ℕ) → size ≡ capped (size_of d) → 16777216 < size → entry d ≡ Err TOO_LARGE
entry_too_large d size e h = rw (le_false (size_of d) 16777216 (larger (size_of d) size e h)) refl

is_small : (d : Datum) (size : ℕ) → size ≡ capped (size_of d) → size ≤ 16777216 → nat_le (size_of d) 16777216 ≡ true
is_small d size e h = let is = capped_is (size_of d) size e h in le_true (size_of d) 16777216 (omega (arith, is, h))

pub entry_other_type : (d : Datum) (size : ℕ) → size ≡ capped (size_of d) → size ≤ 16777216 → has_host_types d ≡ false → entry d ≡ Err OTHER_TYPE
entry_other_type d size e h t = rw (is_small d size e h, t) refl

pub entry_invalid : (d : Datum) (size : ℕ) → size ≡ capped (size_of d) → size ≤ 16777216 → has_host_types d ≡ true → is_well_formed d ≡ false → entry d ≡ Err INVALID_VALUE
entry_invalid d size e h t f = rw (is_small d size e h, t, f) refl

pub entry_good : (d : Datum) (size : ℕ) → size ≡ capped (size_of d) → size ≤ 16777216 → has_host_types d ≡ true → is_well_formed d ≡ true → entry d ≡ Ok d
entry_good d size e h t f = rw (is_small d size e h, t, f) refl

pub entered_made : (d : Datum) → IsBounded d → has_host_types d ≡ true → is_well_formed d ≡ true → IsMade d
entered_made d b t f = record { bounded = b; types = t; formed = f }
