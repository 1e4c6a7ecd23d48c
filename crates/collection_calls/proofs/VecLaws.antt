-- Laws of the parts of vecs.
use Rattle.std.proofs.Common.{◌≡◌, ℕ, zero, suc, ◌+◌, ◌-◌, ◌<◌, ◌≤◌, ◌^◌, List, [], ◌∷◌, ◌++◌, length, get_or, take, drop, Some, None, refl, sym, ap, subst, ◌∙◌, arith, length-append}
use Rattle.std.specs.Prelude.{Result, IfOk, slice_get, slice_set, slice_range}
use Rattle.std.specs.List.{insert, remove}
use Rattle.value_types.specs.Datum.{Datum, items_of, vec}
use Rattle.value_types.specs.Views.{datum, datums}
use Rattle.value_types.specs.declared.value.ScVal.{ScVal}
use Rattle.host_spec.specs.Hosted.{IsHosted, IsMade}
use Rattle.host_spec.specs.declared.error.ValueErr.{ValueErr}
use Rattle.host_spec.specs.VecRows.{vec_answer}
use Rattle.host_frame.specs.Answered.{answer_of}
use Rattle.host_frame.specs.declared.answer.Answer.{Answer}
use Rattle.host_frame.specs.Made.{AreMade}
use Rattle.collection_calls.specs.Parts.{IsPart}
use Rattle.host_frame.proofs.Lemmas.{datums_length, few_items, item_made, items_made, values_are_made}

pub item_here : (vs : List ScVal) (i : ℕ) (v : ScVal) → i < length vs → v ≡ get_or vs i v → slice_get (datums vs) i ≡ Some (datum v)
item_here [] i v lt is = absurd (omega arith)
item_here (x ∷ vs) zero v lt is = rw (← is) refl
item_here (x ∷ vs) (suc i) v lt is = item_here vs i v (omega arith) is

pub item_past : (vs : List ScVal) (i : ℕ) → length vs ≤ i → slice_get (datums vs) i ≡ None
item_past [] i h = refl
item_past (x ∷ vs) zero h = absurd (omega arith)
item_past (x ∷ vs) (suc i) h = item_past vs i (omega arith)

pub hosted_item : (vs : List ScVal) (i : ℕ) (v : ScVal) → IsHosted (vec (items_of (datums vs))) → i < length vs → v ≡ get_or vs i v → IsMade (datum v)
hosted_item vs i v h lt is = item_made vs i v (values_are_made vs h) lt is

-- ---- parts

made_take : (n : ℕ) (ds : List Datum) → AreMade ds → AreMade (take n ds)
made_take zero ds h = tt
made_take (suc n) [] h = tt
made_take (suc n) (d ∷ ds) h = (h.0, made_take n ds h.1)

made_drop : (n : ℕ) (ds : List Datum) → AreMade ds → AreMade (drop n ds)
made_drop zero ds h = h
made_drop (suc n) [] h = tt
made_drop (suc n) (d ∷ ds) h = made_drop n ds h.1

made_append : (ds es : List Datum) → AreMade ds → AreMade es → AreMade (ds ++ es)
made_append [] es h k = k
made_append (d ∷ ds) es h k = (h.0, made_append ds es h.1 k)

few_take : (n : ℕ) (ds : List Datum) → length (take n ds) ≤ length ds
few_take zero ds = omega arith
few_take (suc n) [] = omega arith
few_take (suc n) (d ∷ ds) = omega (arith, few_take n ds)

few_drop : (n : ℕ) (ds : List Datum) → length (drop n ds) ≤ length ds
few_drop zero ds = omega arith
few_drop (suc n) [] = omega arith
few_drop (suc n) (d ∷ ds) = omega (arith, few_drop n ds)

pub part_all : (ds : List Datum) → IsHosted (vec (items_of ds)) → IsPart ds
part_all ds h = record { made = items_made ds h.made; few = few_items ds h }

pub part_take : (n : ℕ) (ds : List Datum) → IsPart ds → IsPart (take n ds)
part_take n ds h = record { made = made_take n ds h.made; few = (let k = few_take n ds in let f = h.few in omega (arith, k, f)) }

pub part_drop : (n : ℕ) (ds : List Datum) → IsPart ds → IsPart (drop n ds)
part_drop n ds h = record { made = made_drop n ds h.made; few = (let k = few_drop n ds in let f = h.few in omega (arith, k, f)) }

pub joined_made : (vs : List ScVal) (ds es : List Datum) → IsPart ds → IsPart es → datums vs ≡ ds ++ es → AreMade (datums vs)
joined_made vs ds es h k e = subst AreMade (sym e) (made_append ds es h.made k.made)

pub joined_few : (vs : List ScVal) (ds es : List Datum) → IsPart ds → IsPart es → datums vs ≡ ds ++ es → length vs < 2 ^ 32
joined_few vs ds es h k e = let f = h.few in let g = k.few in omega (arith, f, g, sym (datums_length vs) ∙ ap length e ∙ length-append ds es)

pub joined_by_made : (vs : List ScVal) (ds : List Datum) (d : Datum) (es : List Datum) → IsPart ds → IsMade d → IsPart es → datums vs ≡ ds ++ (d ∷ es) → AreMade (datums vs)
joined_by_made vs ds d es h m k e = subst AreMade (sym e) (made_append ds (d ∷ es) h.made (m, k.made))

pub joined_by_few : (vs : List ScVal) (ds : List Datum) (d : Datum) (es : List Datum) → IsPart ds → IsPart es → datums vs ≡ ds ++ (d ∷ es) → length vs < 2 ^ 32
joined_by_few vs ds d es h k e = let f = h.few in let g = k.few in omega (arith, f, g, sym (datums_length vs) ∙ ap length e ∙ length-append ds (d ∷ es))

-- ---- views of parts

pub datums_take : (n : ℕ) (vs : List ScVal) → datums (take n vs) ≡ take n (datums vs)
datums_take zero vs = refl
datums_take (suc n) [] = refl
datums_take (suc n) (v ∷ vs) = ap (λ (x : List Datum). datum v ∷ x) (datums_take n vs)

pub datums_drop : (n : ℕ) (vs : List ScVal) → datums (drop n vs) ≡ drop n (datums vs)
datums_drop zero vs = refl
datums_drop (suc n) [] = refl
datums_drop (suc n) (v ∷ vs) = datums_drop n vs

-- ---- what helpers make

-- the vec of a call, by another name of its items
as_vec : (r : Result Answer ValueErr) (xs ys : List Datum) → xs ≡ ys → IfOk r (λ a. answer_of a ≡ vec_answer xs) → IfOk r (λ a. answer_of a ≡ vec_answer ys)
as_vec r xs ys e h = subst (λ (ds : List Datum). IfOk r (λ a. answer_of a ≡ vec_answer ds)) e h

append_none : (ds : List Datum) → ds ++ [] ≡ ds
append_none [] = refl
append_none (d ∷ ds) = ap (λ (x : List Datum). d ∷ x) (append_none ds)

removes : (ds xs ys : List Datum) (i : ℕ) → xs ≡ take i ds → ys ≡ drop (i + 1) ds → xs ++ ys ≡ remove ds i
removes ds xs ys i e f = let one : i + 1 ≡ suc i = omega arith in rw (e, f, one) refl

pub removed : (r : Result Answer ValueErr) (ds xs ys : List Datum) (i : ℕ) → xs ≡ take i ds → ys ≡ drop (i + 1) ds → IfOk r (λ a. answer_of a ≡ vec_answer (xs ++ ys)) → IfOk r (λ a. answer_of a ≡ vec_answer (remove ds i))
removed r ds xs ys i e f h = as_vec r (xs ++ ys) (remove ds i) (removes ds xs ys i e f) h

sets_at : (ds : List Datum) (d : Datum) (i : ℕ) → i < length ds → take i ds ++ (d ∷ drop (suc i) ds) ≡ slice_set ds i d
sets_at [] d i lt = absurd (omega arith)
sets_at (x ∷ ds) d zero lt = refl
sets_at (x ∷ ds) d (suc i) lt = ap (λ (y : List Datum). x ∷ y) (sets_at ds d i (omega arith))

sets : (ds xs ys : List Datum) (d : Datum) (i : ℕ) → i < length ds → xs ≡ take i ds → ys ≡ drop (i + 1) ds → xs ++ (d ∷ ys) ≡ slice_set ds i d
sets ds xs ys d i lt e f = let one : i + 1 ≡ suc i = omega arith in rw (e, f, one) (sets_at ds d i lt)

pub set_to : (r : Result Answer ValueErr) (vs : List ScVal) (xs ys : List Datum) (d : Datum) (i : ℕ) → i < length vs → xs ≡ take i (datums vs) → ys ≡ drop (i + 1) (datums vs)
    → IfOk r (λ a. answer_of a ≡ vec_answer (xs ++ (d ∷ ys))) → IfOk r (λ a. answer_of a ≡ vec_answer (slice_set (datums vs) i d))
set_to r vs xs ys d i lt e f h = as_vec r (xs ++ (d ∷ ys)) (slice_set (datums vs) i d) (sets (datums vs) xs ys d i (omega (arith, datums_length vs)) e f) h

inserts : (ds xs ys : List Datum) (d : Datum) (i : ℕ) → xs ≡ take i ds → ys ≡ drop i ds → xs ++ (d ∷ ys) ≡ insert ds i d
inserts ds xs ys d i e f = rw (e, f) refl

pub inserted : (r : Result Answer ValueErr) (ds xs ys : List Datum) (d : Datum) (i : ℕ) → xs ≡ take i ds → ys ≡ drop i ds
    → IfOk r (λ a. answer_of a ≡ vec_answer (xs ++ (d ∷ ys))) → IfOk r (λ a. answer_of a ≡ vec_answer (insert ds i d))
inserted r ds xs ys d i e f h = as_vec r (xs ++ (d ∷ ys)) (insert ds i d) (inserts ds xs ys d i e f) h

pub ranged : (r : Result Answer ValueErr) (ds xs ys : List Datum) (i j : ℕ) → ys ≡ drop i ds → xs ≡ take (j - i) ys → IfOk r (λ a. answer_of a ≡ vec_answer (xs ++ [])) → IfOk r (λ a. answer_of a ≡ vec_answer (slice_range ds i j))
ranged r ds xs ys i j e f h = as_vec r (xs ++ []) (slice_range ds i j) (append_none xs ∙ f ∙ ap (take (j - i)) e) h

pub shortened : (r : Result Answer ValueErr) (vs : List ScVal) (xs : List Datum) → xs ≡ take (length vs - 1) (datums vs)
    → IfOk r (λ a. answer_of a ≡ vec_answer (xs ++ [])) → IfOk r (λ a. answer_of a ≡ vec_answer (take (length (datums vs) - 1) (datums vs)))
shortened r vs xs e h =
    as_vec r (xs ++ []) (take (length (datums vs) - 1) (datums vs)) (append_none xs ∙ e ∙ ap (λ (n : ℕ). take (n - 1) (datums vs)) (sym (datums_length vs))) h

-- ---- clones

pub same_made : (vs ws : List ScVal) → IsHosted (vec (items_of (datums ws))) → datums vs ≡ datums ws → AreMade (datums vs)
same_made vs ws h e = subst AreMade (sym e) (values_are_made ws h)

pub same_length : (vs ws : List ScVal) → datums vs ≡ datums ws → length vs ≡ length ws
same_length vs ws e = sym (datums_length vs) ∙ ap length e ∙ datums_length ws

-- ---- one more value

pub push_datum : (vs : List ScVal) (v : ScVal) → datums (vs ++ v ∷ []) ≡ datums vs ++ datum v ∷ []
push_datum [] v = refl
push_datum (x ∷ vs) v = ap (λ (ds : List Datum). datum x ∷ ds) (push_datum vs v)

pub push_made : (vs : List ScVal) (v : ScVal) → AreMade (datums vs) → IsMade (datum v) → AreMade (datums (vs ++ v ∷ []))
push_made [] v h m = (m, tt)
push_made (x ∷ vs) v h m = (h.0, push_made vs v h.1 m)
