-- No function over values lowers the sums of the budget.
use Rattle.std.proofs.Common.{ℕ, ◌+◌, ◌*◌, ◌==◌, List, [], ◌∷◌, Option, Some, None, Result, Ok, Err, Bool, true, false, refl}
use Rattle.std.specs.Prelude.{if◌then◌else◌, length, nat_lt, nat_le, slice_range, slice_set}
use Rattle.std.specs.List.{list_all, insert}
use Rattle.host_spec.specs.Characters.{is_character}
use Rattle.std.specs.Option.{option_map}
use Rattle.budget_meter.specs.declared.kind.Kind.{Kind}
use Rattle.budget_meter.specs.declared.kind.Kind.TheVariants.{VisitObject, DispatchHostFunction, MemCpy, MemAlloc}
use Rattle.budget_meter.specs.Meter.{Meter, used_after}
use Rattle.wasm_spec.specs.Runs.{has_room}
use Rattle.wasm_spec.specs.Spending.{IsLater}
use Rattle.wasm_spec.proofs.Lemmas.{charged_later, later, same}
use Rattle.value_types.specs.Datum.{Datum, void, string, symbol}
use Rattle.value_types.specs.declared.error.ScError.{ScError}
use Rattle.value_types.specs.declared.value.ScVal.{ScVal}
use Rattle.xdr_spec.specs.declared.XdrErr.{XdrErr}
use Rattle.host_interface.specs.declared.kinds.ArgKind.{ArgKind}
use Rattle.host_interface.specs.declared.import.HostImport.{HostImport}
use Rattle.host_interface.specs.declared.import.HostImport.TheVariants as imports
use Rattle.host_spec.specs.Acts.{State, Out, Good, Failed, Spent, Act, then_do, gives, fails, only_where, charged_if, charged, paying}
use Rattle.host_spec.specs.Arguments.{Means, argument, visited, dispatched, tagged_words}
use Rattle.host_spec.specs.Words.{is_object}
use Rattle.host_spec.specs.Answers.{Answer, value, object, raw, appended, shown_as_object, shown_unless, given}
use Rattle.host_spec.specs.Hosted.{size_of, is_within_limits}
use Rattle.host_spec.specs.Errors.{TOO_LARGE, FULL_FRAME, OTHER_COUNT, OUTSIDE_OBJECT, INVALID_VALUE}
use Rattle.host_spec.specs.Words.{small_word}
use Rattle.host_spec.specs.Calls.{Rule, with_argument, applied, begun, answered, call_of}
use Rattle.host_spec.specs.Indices.{arguments_of}
use Rattle.host_spec.specs.LinearMemory.{in_memory, copied, overwritten, writes}
use Rattle.host_spec.specs.MapRows.{found}
use Rattle.host_spec.specs.VecRows.{vec_new_from_linear_memory, vec_unpack_to_linear_memory, vec_of, meanings, words_in, all_given, words_bytes}
use Rattle.host_spec.specs.ByteRows.{bytes_answer, copy_to_linear_memory, bytes_copy_from_linear_memory, symbol_new_from_linear_memory, let_in, read_as, found_byte}
use Rattle.host_spec.specs.ValueFunctions.{value_rule, value_function}

abbrev pub left : {A : Type 0} → Out A → State
left (Good a s) = s
left (Failed e s) = s
left (Spent s) = s

-- the act lowers no sum
pub record Rising {A : Type 0} (act : Act A) : Type 0 where
  pub at : (s : State) → IsLater s.meter (left (act s)).meter

good_rises : {A : Type 0} (a : A) → Rising (gives a)
good_rises a = record { at = λ s. same s.meter }

fails_rises : (A : Type 0) (e : ScError) → Rising {A = A} (fails e)
fails_rises A e = record { at = λ s. same s.meter }

then_rises : {A B : Type 0} (b : Meter) (o : Out A) (next : A → Act B) → IsLater b (left o).meter → ((a : A) → Rising (next a)) → IsLater b (left (then_do o next)).meter
then_rises b (Good a s) next h l = later b s.meter (left (next a s)).meter h ((l a).at s)
then_rises b (Failed e s) next h l = h
then_rises b (Spent s) next h l = h

where_rises : {A : Type 0} (b : Bool) (e : ScError) (act : Act A) → Rising act → Rising (only_where b e act)
where_rises true e act h = h
where_rises {A} false e act h = fails_rises A e

charged_at : (kind : Kind) (input : ℕ) (s : State) (b : Bool) → IsLater s.meter (left (charged_if b (record s.meter { used = used_after s.meter kind input }) s)).meter
charged_at kind input s true = charged_later s.meter (record s.meter { used = used_after s.meter kind input }) kind input refl
charged_at kind input s false = same s.meter

pub charged_rises : (kind : Kind) (input : ℕ) → Rising (charged kind input)
unfolding charged
charged_rises kind input = record { at = λ s. charged_at kind input s (has_room s.meter.limits (used_after s.meter kind input)) }

paying_rises : {A : Type 0} (kind : Kind) (input : ℕ) (act : Act A) → Rising act → Rising (paying kind input act)
paying_rises kind input act h = record { at = λ s. then_rises s.meter (charged kind input s) (λ _. act) ((charged_rises kind input).at s) (λ _. h) }

-- ---- charges and answers of all functions

either_way : {A : Type 0} (b : Meter) (test : Bool) (o p : Out A) → IsLater b (left o).meter → IsLater b (left p).meter → IsLater b (left (if test then o else p)).meter
either_way b true o p h g = h
either_way b false o p h g = g

visited_rises : (words : List ℕ) → Rising (visited words)
visited_rises [] = record { at = λ s. same s.meter }
visited_rises (word ∷ words) = record { at = λ s. either_way s.meter (is_object word) (paying VisitObject 1 (visited words) s) (visited words s) ((paying_rises VisitObject 1 (visited words) (visited_rises words)).at s) ((visited_rises words).at s) }

pub dispatched_rises : (words : List ℕ) → Rising (dispatched words)
unfolding dispatched
dispatched_rises words = paying_rises DispatchHostFunction 1 (visited words) (visited_rises words)

shown_rises : (d : Datum) → Rising (shown_as_object d)
unfolding shown_as_object
shown_rises d =
    let next : Act ℕ = λ u. only_where (nat_lt (length u.shown) 1000000) FULL_FRAME (appended d) u in
    let act : Act ℕ = only_where (is_within_limits d) TOO_LARGE (paying MemAlloc (size_of d) next) in
    let rising : Rising act = where_rises (is_within_limits d) TOO_LARGE (paying MemAlloc (size_of d) next)
    (paying_rises MemAlloc (size_of d) next (record { at = λ u. (where_rises (nat_lt (length u.shown) 1000000) FULL_FRAME (appended d) (record { at = λ v. same v.meter })).at u })) in
    record { at = λ s. rising.at s }

unless_rises : (o : Option ℕ) (d : Datum) → Rising (shown_unless o d)
unless_rises (Some word) d = record { at = λ s. same s.meter }
unless_rises None d = record { at = λ s. (shown_rises d).at s }

pub given_rises : (a : Answer) → Rising (given a)
given_rises (value d) = record { at = λ s. (unless_rises (small_word d) d).at s }
given_rises (object d) = record { at = λ s. (shown_rises d).at s }
given_rises (raw word) = record { at = λ s. same s.meter }

pub all_given_rises : (ds : List Datum) → Rising (all_given ds)
all_given_rises [] = record { at = λ s. same s.meter }
all_given_rises (d ∷ ds) = record {
  at = λ s.
      then_rises s.meter (given (value d) s) (λ word u. then_do (all_given ds u) (λ words. gives (word ∷ words))) ((given_rises (value d)).at s)
      (λ word. record { at = λ u. then_rises u.meter (all_given ds u) (λ words. gives (word ∷ words)) ((all_given_rises ds).at u) (λ words. good_rises (word ∷ words)) });
}

-- ---- the shape of all functions

abbrev RuleRises : (ks : List ArgKind) → Rule ks → Type 0
RuleRises [] rule = Rising rule
RuleRises (k ∷ ks) rule = (x : Means k) → RuleRises ks (rule x)

abbrev ResultRises : Result (Act Answer) ScError → Type 0
ResultRises (Ok act) = Rising act
ResultRises (Err e) = Unit {0}

argument_rises : {A : Type 0} (r : Result A ScError) (next : A → Result (Act Answer) ScError) → ((a : A) → ResultRises (next a)) → ResultRises (with_argument r next)
argument_rises (Ok a) next l = l a
argument_rises (Err e) next l = tt

applied_rises : (ks : List ArgKind) (rule : Rule ks) → RuleRises ks rule → (words : List ℕ) (shown : List Datum) → ResultRises (applied ks rule words shown)
applied_rises [] rule h words shown = h
applied_rises (k ∷ ks) rule h [] shown = tt
applied_rises (k ∷ ks) rule h (word ∷ words) shown = argument_rises (argument k shown word) (λ a. applied ks (rule a) words shown) (λ a. applied_rises ks (rule a) (h a) words shown)

begun_rises : (r : Result (Act Answer) ScError) (charges : Act (Unit {0})) → ResultRises r → Rising charges → Rising (begun r charges)
begun_rises (Ok rule) charges h c = record { at = λ s. then_rises s.meter (charges s) (λ _. rule) (c.at s) (λ _. h) }
begun_rises (Err e) charges h c = record { at = λ s. same s.meter }

call_rises : (ks : List ArgKind) (rule : Rule ks) → RuleRises ks rule → (words : List ℕ) → Rising (call_of ks rule words)
call_rises ks rule h words = record {
  at = λ s.
      then_rises s.meter (answered ks rule words s) given
      ((begun_rises (applied ks rule words s.shown) (dispatched (tagged_words ks words)) (applied_rises ks rule h words s.shown) (dispatched_rises (tagged_words ks words))).at s) given_rises;
}

-- ---- the functions' own rules

found_rises : (o : Option Datum) (e : ScError) → Rising (found o e)
found_rises None e = fails_rises Answer e
found_rises (Some d) e = good_rises (value d)

byte_rises : (o : Option ℕ) → Rising (found_byte o)
byte_rises None = fails_rises Answer _
byte_rises (Some b) = good_rises _

vec_rises : (o : Option (List Datum)) → Rising (vec_of o)
vec_rises None = fails_rises Answer _
vec_rises (Some ds) = good_rises _

let_in_rises : (r : Result Datum ScError) → Rising (let_in r)
let_in_rises (Ok d) = good_rises _
let_in_rises (Err e) = fails_rises Answer e

memory_rises : {A : Type 0} (from len : ℕ) (act : Act A) → Rising act → Rising (in_memory from len act)
memory_rises from len act h = record { at = λ s. (where_rises _ _ act h).at s }

copied_rises : {A : Type 0} (from len : ℕ) (next : List ℕ → Act A) → ((bytes : List ℕ) → Rising (next bytes)) → Rising (copied from len next)
copied_rises from len next l = paying_rises MemCpy len _ (record { at = λ s. (l _).at s })

writes_rises : {A : Type 0} (to : ℕ) (bs : List ℕ) (a : A) → Rising (writes to bs a)
writes_rises to bs a = record { at = λ s. same s.meter }

abbrev RowRises : (ks : List ArgKind) → Option (Rule ks) → Type 0
RowRises ks (Some rule) = RuleRises ks rule
RowRises ks None = Unit {0}

read_rises : (r : Result ScVal XdrErr) → Rising (read_as r)
read_rises (Ok v) = let_in_rises _
read_rises (Err e) = fails_rises Answer _

unpack_rises : (ds : List Datum) (to count : ℕ) → Rising (vec_unpack_to_linear_memory ds to count)
unpack_rises ds to count =
    let inner : Act Answer = λ s. then_do (all_given ds s) (λ words. writes to (words_bytes words) (value void)) in
    let rising : Rising inner = record { at = λ s. then_rises s.meter (all_given ds s) (λ words. writes to (words_bytes words) (value void)) ((all_given_rises ds).at s) (λ words. writes_rises to (words_bytes words) (value void)) } in
    where_rises (count == length ds) OTHER_COUNT (in_memory to (8 * count) (paying MemCpy (8 * count) inner))
    (memory_rises to (8 * count) (paying MemCpy (8 * count) inner) (paying_rises MemCpy (8 * count) inner rising))

from_words_rises : (from count : ℕ) → Rising (vec_new_from_linear_memory from count)
from_words_rises from count =
    let next : List ℕ → Act Answer = λ bytes s. vec_of (meanings s.shown (words_in count bytes)) s in
    memory_rises from (8 * count) (copied from (8 * count) next)
    (copied_rises from (8 * count) next (λ bytes. record { at = λ s. (vec_rises (meanings s.shown (words_in count bytes))).at s }))

copy_rises : (bs : List ℕ) (from to len : ℕ) → Rising (copy_to_linear_memory bs from to len)
copy_rises bs from to len =
    let act : Act Answer = writes to (slice_range bs from (from + len)) (value void) in
    where_rises (nat_le (from + len) (length bs)) OUTSIDE_OBJECT (in_memory to len (paying MemCpy len act))
    (memory_rises to len (paying MemCpy len act) (paying_rises MemCpy len act (writes_rises to (slice_range bs from (from + len)) (value void))))

copy_from_rises : (bs : List ℕ) (to from len : ℕ) → Rising (bytes_copy_from_linear_memory bs to from len)
copy_from_rises bs to from len =
    let next : List ℕ → Act Answer = λ new. gives (bytes_answer (overwritten bs to new)) in
    where_rises (nat_le to (length bs)) OUTSIDE_OBJECT (in_memory from len (copied from len next))
    (memory_rises from len (copied from len next) (copied_rises from len next (λ new. good_rises (bytes_answer (overwritten bs to new)))))

read_in_rises : (from len : ℕ) (view : List ℕ → Answer) → Rising (in_memory from len (copied from len (λ new. gives (view new))))
read_in_rises from len view = memory_rises from len (copied from len (λ new. gives (view new))) (copied_rises from len (λ new. gives (view new)) (λ new. good_rises (view new)))

symbol_rises : (from len : ℕ) → Rising (symbol_new_from_linear_memory from len)
symbol_rises from len =
    let next : List ℕ → Act Answer = λ text. only_where (list_all is_character text) INVALID_VALUE (gives (value (symbol text))) in
    memory_rises from len (only_where (nat_le len 32) INVALID_VALUE (copied from len next))
    (where_rises (nat_le len 32) INVALID_VALUE (copied from len next)
    (copied_rises from len next (λ text. where_rises (list_all is_character text) INVALID_VALUE (gives (value (symbol text))) (good_rises (value (symbol text))))))

two_rises : (a b : Bool) (d e : ScError) (x : Answer) → Rising (only_where a d (only_where b e (gives x)))
two_rises a b d e x = where_rises a d (only_where b e (gives x)) (where_rises b e (gives x) (good_rises x))

row_rises : (i : HostImport) → RowRises (arguments_of i) (value_rule i)
row_rises imports.MapNew = good_rises _
row_rises imports.VecNew = good_rises _
row_rises imports.BytesNew = good_rises _
row_rises imports.ObjFromU64 = λ x. good_rises _
row_rises imports.ObjToU64 = λ x. good_rises _
row_rises imports.ObjFromI64 = λ x. good_rises _
row_rises imports.ObjToI64 = λ x. good_rises _
row_rises imports.ObjToU128Hi64 = λ x. good_rises _
row_rises imports.ObjToU128Lo64 = λ x. good_rises _
row_rises imports.ObjToI128Hi64 = λ x. good_rises _
row_rises imports.ObjToI128Lo64 = λ x. good_rises _
row_rises imports.TimepointObjFromU64 = λ x. good_rises _
row_rises imports.TimepointObjToU64 = λ x. good_rises _
row_rises imports.DurationObjFromU64 = λ x. good_rises _
row_rises imports.DurationObjToU64 = λ x. good_rises _
row_rises imports.MapLen = λ x. good_rises _
row_rises imports.MapKeys = λ x. good_rises _
row_rises imports.MapValues = λ x. good_rises _
row_rises imports.VecLen = λ x. good_rises _
row_rises imports.BytesLen = λ x. good_rises _
row_rises imports.StringLen = λ x. good_rises _
row_rises imports.SymbolLen = λ x. good_rises _
row_rises imports.StringToBytes = λ x. good_rises _
row_rises imports.BytesToString = λ x. good_rises _
row_rises imports.GetAddressFromMuxedAddress = λ x. good_rises _
row_rises imports.GetIdFromMuxedAddress = λ x. good_rises _
row_rises imports.ObjFromU128Pieces = λ x y. good_rises _
row_rises imports.ObjFromI128Pieces = λ x y. good_rises _
row_rises imports.VecPushFront = λ x y. good_rises _
row_rises imports.VecPushBack = λ x y. good_rises _
row_rises imports.VecAppend = λ x y. good_rises _
row_rises imports.BytesAppend = λ x y. good_rises _
row_rises imports.ObjCmp = λ d e. paying_rises _ _ _ (good_rises _)
row_rises imports.MapPut = λ ms k v. paying_rises _ _ _ (good_rises _)
row_rises imports.MapGet = λ ms k. paying_rises _ _ _ (found_rises _ _)
row_rises imports.MapDel = λ ms k. paying_rises _ _ _ (where_rises _ _ _ (good_rises _))
row_rises imports.MapHas = λ ms k. paying_rises _ _ _ (good_rises _)
row_rises imports.MapKeyByPos = λ ms i. found_rises _ _
row_rises imports.MapValByPos = λ ms i. found_rises _ _
row_rises imports.VecGet = λ ms i. found_rises _ _
row_rises imports.VecPut = λ ds i d. where_rises _ _ _ (good_rises _)
row_rises imports.VecDel = λ ds i. where_rises _ _ _ (good_rises _)
row_rises imports.VecPopFront = λ ds. where_rises _ _ _ (good_rises _)
row_rises imports.VecPopBack = λ ds. where_rises _ _ _ (good_rises _)
row_rises imports.VecFront = λ ds. found_rises _ _
row_rises imports.VecBack = λ ds. where_rises _ _ _ (found_rises _ _)
row_rises imports.VecInsert = λ ds i d. where_rises _ _ _ (good_rises _)
row_rises imports.VecSlice = λ ds from to. where_rises _ _ _ (good_rises _)
row_rises imports.VecFirstIndexOf = λ ds d. paying_rises _ _ _ (good_rises _)
row_rises imports.VecLastIndexOf = λ ds d. paying_rises _ _ _ (good_rises _)
row_rises imports.VecNewFromLinearMemory = from_words_rises
row_rises imports.VecUnpackToLinearMemory = unpack_rises
row_rises imports.SerializeToBytes = λ d. paying_rises _ _ _ (good_rises _)
row_rises imports.DeserializeFromBytes = λ bs. paying_rises _ _ _ (read_rises _)
row_rises imports.BytesPut = λ bs i b. two_rises (nat_lt i (length bs)) (nat_le b 255) OUTSIDE_OBJECT INVALID_VALUE (bytes_answer (slice_set bs i b))
row_rises imports.BytesGet = λ bs i. byte_rises _
row_rises imports.BytesDel = λ bs i. where_rises _ _ _ (good_rises _)
row_rises imports.BytesPush = λ bs b. where_rises _ _ _ (good_rises _)
row_rises imports.BytesPop = λ bs. where_rises _ _ _ (good_rises _)
row_rises imports.BytesFront = λ bs. byte_rises _
row_rises imports.BytesBack = λ bs. where_rises _ _ _ (byte_rises _)
row_rises imports.BytesInsert = λ bs i b. two_rises (nat_le i (length bs)) (nat_le b 255) OUTSIDE_OBJECT INVALID_VALUE (bytes_answer (insert bs i b))
row_rises imports.BytesSlice = λ bs from to. where_rises _ _ _ (good_rises _)
row_rises imports.BytesCopyToLinearMemory = copy_rises
row_rises imports.StringCopyToLinearMemory = copy_rises
row_rises imports.SymbolCopyToLinearMemory = copy_rises
row_rises imports.BytesCopyFromLinearMemory = copy_from_rises
row_rises imports.BytesNewFromLinearMemory = λ from len. read_in_rises from len bytes_answer
row_rises imports.StringNewFromLinearMemory = λ from len. read_in_rises from len (λ new. value (string new))
row_rises imports.SymbolNewFromLinearMemory = symbol_rises
row_rises imports.ComputeHashSha256 = λ bs. paying_rises _ _ _ (good_rises _)
row_rises _ = tt

abbrev pub FunctionRises : Option (List ℕ → Act ℕ) → Type 0
FunctionRises (Some f) = (words : List ℕ) → Rising (f words)
FunctionRises None = Unit {0}

mapped_rises : (ks : List ArgKind) (o : Option (Rule ks)) → RowRises ks o → FunctionRises (option_map (call_of ks) o)
mapped_rises ks (Some rule) h = call_rises ks rule h
mapped_rises ks None h = tt

pub function_rises : (i : HostImport) → FunctionRises (value_function i)
unfolding value_function
function_rises i = mapped_rises (arguments_of i) (value_rule i) (row_rises i)
