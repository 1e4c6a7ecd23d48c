-- Module v: vecs (own, after CAP-0046-03). Indices count from 0.
use Rattle.std.specs.Prelude.{ℕ, zero, suc, ◌+◌, ◌*◌, ◌-◌, ◌==◌, ◌&&◌, List, [], ◌∷◌, ◌++◌, length, take, drop, Option, Some}
use Rattle.std.specs.Prelude.{None, nat_le, nat_lt, slice_get, slice_set, slice_range, if◌then◌else◌}
use Rattle.std.specs.List.{flat_map, insert, remove}
use Rattle.std.specs.Option.{option_map, option_or}
use Rattle.std.specs.Ordering.{is_eq}
use Rattle.std.specs.Int.{w64, to_le_bytes, from_le_bytes}
use Rattle.budget_meter.specs.declared.kind.Kind.TheVariants.{MemCmp, MemCpy}
use Rattle.value_types.specs.Datum.{Datum, u32, void, vec, items_of}
use Rattle.value_types.specs.Order.{datum_cmp}
use Rattle.host_spec.specs.Errors.{INVALID_VALUE, OUTSIDE_OBJECT, OTHER_COUNT}
use Rattle.host_spec.specs.Hosted.{size_of}
use Rattle.host_spec.specs.Words.{meaning}
use Rattle.host_spec.specs.Acts.{Act, Good, then_do, gives, fails, only_where, paying}
use Rattle.host_spec.specs.Answers.{Answer, value, given}
use Rattle.host_spec.specs.LinearMemory.{in_memory, copied, writes}
use Rattle.host_spec.specs.MapRows.{found}

abbrev pub vec_answer : List Datum → Answer
vec_answer ds = value (vec (items_of ds))

-- an act on an item of the vec
abbrev pub at_item : ℕ → List Datum → Act Answer → Act Answer
at_item i ds = only_where (nat_lt i (length ds)) OUTSIDE_OBJECT

abbrev pub vec_new : Act Answer
vec_new = gives (vec_answer [])

abbrev pub vec_put : List Datum → ℕ → Datum → Act Answer
vec_put ds i d = at_item i ds (gives (vec_answer (slice_set ds i d)))

abbrev pub vec_get : List Datum → ℕ → Act Answer
vec_get ds i = found (slice_get ds i) OUTSIDE_OBJECT

abbrev pub vec_del : List Datum → ℕ → Act Answer
vec_del ds i = at_item i ds (gives (vec_answer (remove ds i)))

abbrev pub vec_len : List Datum → Act Answer
vec_len ds = gives (value (u32 (length ds)))

abbrev pub vec_push_front : List Datum → Datum → Act Answer
vec_push_front ds d = gives (vec_answer (d ∷ ds))

abbrev pub vec_pop_front : List Datum → Act Answer
vec_pop_front ds = at_item 0 ds (gives (vec_answer (drop 1 ds)))

abbrev pub vec_push_back : List Datum → Datum → Act Answer
vec_push_back ds d = gives (vec_answer (ds ++ d ∷ []))

abbrev pub vec_pop_back : List Datum → Act Answer
vec_pop_back ds = at_item 0 ds (gives (vec_answer (take (length ds - 1) ds)))

abbrev pub vec_front : List Datum → Act Answer
vec_front ds = found (slice_get ds 0) OUTSIDE_OBJECT

abbrev pub vec_back : List Datum → Act Answer
vec_back ds = at_item 0 ds (found (slice_get ds (length ds - 1)) OUTSIDE_OBJECT)

abbrev pub vec_insert : List Datum → ℕ → Datum → Act Answer
vec_insert ds i d = only_where (nat_le i (length ds)) OUTSIDE_OBJECT (gives (vec_answer (insert ds i d)))

abbrev pub vec_append : List Datum → List Datum → Act Answer
vec_append ds es = gives (vec_answer (ds ++ es))

-- an act on the items from an index up to another
abbrev pub in_range : {A : Type 0} → ℕ → ℕ → List A → Act Answer → Act Answer
in_range from to xs = only_where (nat_le from to && nat_le to (length xs)) OUTSIDE_OBJECT

abbrev pub vec_slice : List Datum → ℕ → ℕ → Act Answer
vec_slice ds from to = in_range from to ds (gives (vec_answer (slice_range ds from to)))

abbrev pub first_index_of : Datum → List Datum → Option ℕ
first_index_of d [] = None
first_index_of d (e ∷ es) = if is_eq (datum_cmp d e) then Some 0 else option_map suc (first_index_of d es)

abbrev pub last_index_of : Datum → List Datum → Option ℕ
last_index_of d [] = None
last_index_of d (e ∷ es) = option_or (option_map suc (last_index_of d es)) (if is_eq (datum_cmp d e) then Some 0 else None)

-- an index, or Void
abbrev pub index_answer : Option ℕ → Answer
index_answer None = value void
index_answer (Some i) = value (u32 i)

-- an act that compares a value with the items of a vec
abbrev pub seeking : Datum → List Datum → Act Answer → Act Answer
seeking d ds = paying MemCmp (size_of (vec (items_of ds)) + size_of d)

abbrev pub vec_first_index_of : List Datum → Datum → Act Answer
vec_first_index_of ds d = seeking d ds (gives (index_answer (first_index_of d ds)))

abbrev pub vec_last_index_of : List Datum → Datum → Act Answer
vec_last_index_of ds d = seeking d ds (gives (index_answer (last_index_of d ds)))

-- the first n words in bytes, the lowest byte of each first
abbrev pub words_in : ℕ → List ℕ → List ℕ
words_in zero bytes = []
words_in (suc n) bytes = from_le_bytes w64 (take 8 bytes) ∷ words_in n (drop 8 bytes)

abbrev pub with_first : Option Datum → Option (List Datum) → Option (List Datum)
with_first (Some d) (Some ds) = Some (d ∷ ds)
with_first _ _ = None

-- what the words mean, if each means a value
abbrev pub meanings : List Datum → List ℕ → Option (List Datum)
meanings shown [] = Some []
meanings shown (word ∷ words) = with_first (meaning shown word) (meanings shown words)

abbrev pub vec_of : Option (List Datum) → Act Answer
vec_of None = fails INVALID_VALUE
vec_of (Some ds) = gives (vec_answer ds)

abbrev pub vec_new_from_linear_memory : ℕ → ℕ → Act Answer
vec_new_from_linear_memory from count =
    in_memory from (8 * count) (copied from (8 * count) (λ bytes w. vec_of (meanings w.shown (words_in count bytes)) w))

-- the word of each value, in order
abbrev pub all_given : List Datum → Act (List ℕ)
all_given [] w = Good [] w
all_given (d ∷ ds) w = then_do (given (value d) w) (λ word u. then_do (all_given ds u) (λ words. gives (word ∷ words)))

abbrev pub words_bytes : List ℕ → List ℕ
words_bytes words = flat_map (to_le_bytes w64) words

abbrev pub vec_unpack_to_linear_memory : List Datum → ℕ → ℕ → Act Answer
vec_unpack_to_linear_memory ds to count =
    only_where (count == length ds) OTHER_COUNT (in_memory to (8 * count) (paying MemCpy (8 * count)
    (λ w. then_do (all_given ds w) (λ words. writes to (words_bytes words) (value void)))))
