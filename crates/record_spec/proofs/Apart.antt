-- The functions over values do the same under two budgets but for the sums, until one of the two is spent.
use Rattle.std.proofs.Common.{ℕ, ◌+◌, ◌*◌, ◌==◌, List, [], ◌∷◌, Option, Some, None, Result, Ok, Err, Bool, true, false}
use Rattle.std.specs.Prelude.{if◌then◌else◌, length, nat_lt, slice_range}
use Rattle.std.specs.Option.{option_map}
use Rattle.budget_meter.specs.declared.kind.Kind.{Kind}
use Rattle.budget_meter.specs.declared.kind.Kind.TheVariants.{VisitObject, DispatchHostFunction, MemCpy, MemAlloc}
use Rattle.budget_meter.specs.Meter.{Meter, used_after}
use Rattle.value_types.specs.Datum.{Datum, void}
use Rattle.value_types.specs.declared.error.ScError.{ScError}
use Rattle.value_types.specs.declared.value.ScVal.{ScVal}
use Rattle.xdr_spec.specs.declared.XdrErr.{XdrErr}
use Rattle.host_interface.specs.declared.kinds.ArgKind.{ArgKind}
use Rattle.host_interface.specs.declared.import.HostImport.{HostImport}
use Rattle.host_interface.specs.declared.import.HostImport.TheVariants as imports
use Rattle.host_spec.specs.Acts.{State, Out, Good, Failed, Spent, Act, then_do, gives, fails, only_where, charged_if, charged, paying}
use Rattle.host_spec.specs.Arguments.{Means, argument, visited, dispatched, tagged_words}
use Rattle.host_spec.specs.Words.{is_object, small_word}
use Rattle.host_spec.specs.Answers.{Answer, value, object, raw, appended, shown_as_object, shown_unless, given}
use Rattle.host_spec.specs.Hosted.{size_of, is_within_limits}
use Rattle.host_spec.specs.Errors.{TOO_LARGE, FULL_FRAME, OTHER_COUNT}
use Rattle.host_spec.specs.Calls.{Rule, with_argument, applied, begun, call_of}
use Rattle.host_spec.specs.Indices.{arguments_of}
use Rattle.host_spec.specs.LinearMemory.{in_memory, copied, writes}
use Rattle.host_spec.specs.MapRows.{found}
use Rattle.host_spec.specs.VecRows.{vec_new_from_linear_memory, vec_unpack_to_linear_memory, vec_of, meanings, words_in, all_given, words_bytes}
use Rattle.host_spec.specs.ByteRows.{let_in, read_as, found_byte}
use Rattle.host_spec.specs.ValueFunctions.{value_rule, value_function}

abbrev pub budgeted : Meter → State → State
budgeted b s = record s { meter = b }

-- two outcomes that differ in the sums alone, until one of them is spent
pub data AlikeOut (A : Type 0) : Out A → Out A → Type 0 where
  spent : (s : State) (o : Out A) → AlikeOut A (Spent s) o
  spends : (o : Out A) (s : State) → AlikeOut A o (Spent s)
  good : (a : A) (s : State) (b : Meter) → AlikeOut A (Good a s) (Good a (budgeted b s))
  failed : (e : ScError) (s : State) (b : Meter) → AlikeOut A (Failed e s) (Failed e (budgeted b s))

-- the act does the same under two budgets
pub record Apart {A : Type 0} (act : Act A) : Type 0 where
  pub at : (s : State) (b : Meter) → AlikeOut A (act s) (act (budgeted b s))

-- ---- joining

good_apart : {A : Type 0} (a : A) → Apart (gives a)
good_apart a = record { at = λ s b. good a s b }

fails_apart : (A : Type 0) (e : ScError) → Apart {A = A} (fails e)
fails_apart A e = record { at = λ s b. failed e s b }

then_alike : {A B : Type 0} (next : A → Act B) → ((a : A) → Apart (next a)) → {o p : Out A} → AlikeOut A o p → AlikeOut B (then_do o next) (then_do p next)
then_alike next h (spent s o) = spent s (then_do o next)
then_alike next h (spends o s) = spends (then_do o next) s
then_alike next h (good a s b) = (h a).at s b
then_alike next h (failed e s b) = failed e s b

after_apart : {A B : Type 0} (act : Act A) (next : A → Act B) → Apart act → ((a : A) → Apart (next a)) → Apart (λ s. then_do (act s) next)
after_apart act next h l = record { at = λ s b. then_alike next l (h.at s b) }

-- an act that depends on what is shown and on the memory
looking_apart : {A : Type 0} (next : List Datum → List ℕ → Act A) → ((shown : List Datum) (memory : List ℕ) → Apart (next shown memory)) → Apart (λ s. next s.shown s.memory s)
looking_apart next h = record { at = λ s b. (h s.shown s.memory).at s b }

where_apart : {A : Type 0} (test : Bool) (e : ScError) (act : Act A) → Apart act → Apart (only_where test e act)
where_apart true e act h = h
where_apart {A} false e act h = fails_apart A e

either_apart : {A : Type 0} (test : Bool) (act other : Act A) → Apart act → Apart other → Apart (λ s. if test then act s else other s)
either_apart true act other h g = h
either_apart false act other h g = g

-- ---- charges and answers of all functions

if_alike : (p q : Bool) (a b c : Meter) (s : State) → AlikeOut (Unit {0}) (charged_if p a s) (charged_if q b (budgeted c s))
if_alike false q a b c s = spent s _
if_alike true false a b c s = spends _ (budgeted c s)
if_alike true true a b c s = good tt (budgeted a s) b

pub charged_apart : (kind : Kind) (input : ℕ) → Apart (charged kind input)
unfolding charged
charged_apart kind input = record { at = λ s b. if_alike _ _ (record s.meter { used = used_after s.meter kind input }) (record b { used = used_after b kind input }) b s }

paying_apart : {A : Type 0} (kind : Kind) (input : ℕ) (act : Act A) → Apart act → Apart (paying kind input act)
paying_apart kind input act h = after_apart (charged kind input) (λ _. act) (charged_apart kind input) (λ _. h)

visited_apart : (words : List ℕ) → Apart (visited words)
visited_apart [] = good_apart tt
visited_apart (word ∷ words) =
    either_apart (is_object word) (paying VisitObject 1 (visited words)) (visited words) (paying_apart VisitObject 1 (visited words) (visited_apart words)) (visited_apart words)

pub dispatched_apart : (words : List ℕ) → Apart (dispatched words)
unfolding dispatched
dispatched_apart words = paying_apart DispatchHostFunction 1 (visited words) (visited_apart words)

appended_apart : (d : Datum) → Apart (appended d)
appended_apart d = record { at = λ s b. good _ _ b }

shown_apart : (d : Datum) → Apart (shown_as_object d)
unfolding shown_as_object
shown_apart d =
    where_apart (is_within_limits d) TOO_LARGE _ (paying_apart MemAlloc (size_of d) _
    (looking_apart (λ shown memory. only_where (nat_lt (length shown) 1000000) FULL_FRAME (appended d)) (λ shown memory. where_apart _ _ (appended d) (appended_apart d))))

unless_apart : (o : Option ℕ) (d : Datum) → Apart (shown_unless o d)
unless_apart (Some word) d = good_apart word
unless_apart None d = shown_apart d

pub given_apart : (a : Answer) → Apart (given a)
given_apart (value d) = unless_apart (small_word d) d
given_apart (object d) = shown_apart d
given_apart (raw word) = good_apart word

pub all_given_apart : (ds : List Datum) → Apart (all_given ds)
all_given_apart [] = good_apart []
all_given_apart (d ∷ ds) = after_apart (given (value d)) _ (given_apart (value d)) (λ word. after_apart (all_given ds) _ (all_given_apart ds) (λ words. good_apart (word ∷ words)))

-- ---- the shape of all functions

abbrev RuleApart : (ks : List ArgKind) → Rule ks → Type 0
RuleApart [] rule = Apart rule
RuleApart (k ∷ ks) rule = (x : Means k) → RuleApart ks (rule x)

abbrev ResultApart : Result (Act Answer) ScError → Type 0
ResultApart (Ok act) = Apart act
ResultApart (Err e) = Unit {0}

argument_apart : {A : Type 0} (r : Result A ScError) (next : A → Result (Act Answer) ScError) → ((a : A) → ResultApart (next a)) → ResultApart (with_argument r next)
argument_apart (Ok a) next l = l a
argument_apart (Err e) next l = tt

applied_apart : (ks : List ArgKind) (rule : Rule ks) → RuleApart ks rule → (words : List ℕ) (shown : List Datum) → ResultApart (applied ks rule words shown)
applied_apart [] rule h words shown = h
applied_apart (k ∷ ks) rule h [] shown = tt
applied_apart (k ∷ ks) rule h (word ∷ words) shown = argument_apart (argument k shown word) (λ a. applied ks (rule a) words shown) (λ a. applied_apart ks (rule a) (h a) words shown)

begun_apart : (r : Result (Act Answer) ScError) (charges : Act (Unit {0})) → ResultApart r → Apart charges → Apart (begun r charges)
begun_apart (Ok rule) charges h c = after_apart charges (λ _. rule) c (λ _. h)
begun_apart (Err e) charges h c = fails_apart Answer e

call_apart : (ks : List ArgKind) (rule : Rule ks) → RuleApart ks rule → (words : List ℕ) → Apart (call_of ks rule words)
call_apart ks rule h words =
    let charges : Act (Unit {0}) = dispatched (tagged_words ks words) in
    after_apart (λ s. begun (applied ks rule words s.shown) charges s) given
    (looking_apart (λ shown memory. begun (applied ks rule words shown) charges) (λ shown memory. begun_apart (applied ks rule words shown) charges (applied_apart ks rule h words shown) (dispatched_apart (tagged_words ks words)))) given_apart

-- ---- the functions' own rules

found_apart : (o : Option Datum) (e : ScError) → Apart (found o e)
found_apart None e = fails_apart Answer e
found_apart (Some d) e = good_apart (value d)

byte_apart : (o : Option ℕ) → Apart (found_byte o)
byte_apart None = fails_apart Answer _
byte_apart (Some b) = good_apart _

vec_apart : (o : Option (List Datum)) → Apart (vec_of o)
vec_apart None = fails_apart Answer _
vec_apart (Some ds) = good_apart _

let_in_apart : (r : Result Datum ScError) → Apart (let_in r)
let_in_apart (Ok d) = good_apart _
let_in_apart (Err e) = fails_apart Answer e

read_apart : (r : Result ScVal XdrErr) → Apart (read_as r)
read_apart (Ok v) = let_in_apart _
read_apart (Err e) = fails_apart Answer _

memory_apart : {A : Type 0} (from len : ℕ) (act : Act A) → Apart act → Apart (in_memory from len act)
memory_apart from len act h = looking_apart (λ shown memory. only_where _ _ act) (λ shown memory. where_apart _ _ act h)

copied_apart : {A : Type 0} (from len : ℕ) (next : List ℕ → Act A) → ((bytes : List ℕ) → Apart (next bytes)) → Apart (copied from len next)
copied_apart from len next l = paying_apart MemCpy len _ (looking_apart (λ shown memory. next (slice_range memory from (from + len))) (λ shown memory. l _))

writes_apart : {A : Type 0} (to : ℕ) (bs : List ℕ) (a : A) → Apart (writes to bs a)
writes_apart to bs a = record { at = λ s b. good a _ b }

unpack_apart : (ds : List Datum) (to count : ℕ) → Apart (vec_unpack_to_linear_memory ds to count)
unpack_apart ds to count =
    where_apart (count == length ds) OTHER_COUNT _ (memory_apart to (8 * count) _ (paying_apart MemCpy (8 * count) _
    (after_apart (all_given ds) (λ words. writes to (words_bytes words) (value void)) (all_given_apart ds) (λ words. writes_apart to (words_bytes words) (value void)))))

from_words_apart : (from count : ℕ) → Apart (vec_new_from_linear_memory from count)
from_words_apart from count = memory_apart from (8 * count) _ (copied_apart from (8 * count) _ (λ bytes.
    looking_apart (λ shown memory. vec_of (meanings shown (words_in count bytes))) (λ shown memory. vec_apart (meanings shown (words_in count bytes)))))

-- what the rules of the functions are made of
ruleset rules = (good_apart, found_apart, byte_apart, read_apart, where_apart, paying_apart, memory_apart, copied_apart, writes_apart)

abbrev RowApart : (ks : List ArgKind) → Option (Rule ks) → Type 0
RowApart ks (Some rule) = RuleApart ks rule
RowApart ks None = Unit {0}

row_apart : (i : HostImport) → RowApart (arguments_of i) (value_rule i)
row_apart imports.VecNewFromLinearMemory = from_words_apart
row_apart imports.VecUnpackToLinearMemory = unpack_apart
row_apart _ = search rules

abbrev pub FunctionApart : Option (List ℕ → Act ℕ) → Type 0
FunctionApart (Some f) = (words : List ℕ) → Apart (f words)
FunctionApart None = Unit {0}

mapped_apart : (ks : List ArgKind) (o : Option (Rule ks)) → RowApart ks o → FunctionApart (option_map (call_of ks) o)
mapped_apart ks (Some rule) h = call_apart ks rule h
mapped_apart ks None h = tt

pub function_apart : (i : HostImport) → FunctionApart (value_function i)
unfolding value_function
function_apart i = mapped_apart (arguments_of i) (value_rule i) (row_apart i)
