-- Known words, and calls with the terms of the network's settings that the cases use.
use Rattle.std.proofs.Common.{◌≡◌, ℕ, zero, suc, ◌^◌, ◌-◌, List, [], ◌∷◌, Option, Some, None, Err, refl}
use Rattle.std.specs.Option.{option_map}
use Rattle.budget_meter.specs.declared.terms.LinearCost.{LinearCost}
use Rattle.budget_meter.specs.declared.terms.KindTerms.{KindTerms}
use Rattle.budget_meter.specs.declared.terms.Terms.{Terms}
use Rattle.host_interface.specs.declared.import.HostImport.{HostImport}
use Rattle.host_interface.specs.declared.import.HostImport.TheVariants as imports
use Rattle.value_types.specs.Datum.{Datum, void, error, u32, u64, u256, bytes, symbol, vec, map, address, items_of, members_of}
use Rattle.value_types.specs.declared.address.ScAddress.TheVariants.{MuxedAccount}
use Rattle.value_types.specs.declared.error.ScError.TheVariants as errors
use Rattle.xdr_spec.specs.Format as format
use Rattle.value_types.specs.Numbers as numbers
use Rattle.value_types.specs.Order as order
use Rattle.host_spec.specs.Errors.{INVALID_VALUE, OTHER_TYPE, TOO_LARGE, OUTSIDE_OBJECT, ABSENT_KEY}
use Rattle.host_spec.specs.Words.{small_word, small_meaning, object_word, meaning}
use Rattle.host_spec.specs.Hosted.{entry, size_of}
use Rattle.host_spec.specs.Acts.{State, Out, Good, Failed, Spent, charged, state}
use Rattle.host_spec.specs.Arguments.{resolved, dispatched}
use Rattle.host_spec.specs.Answers.{shown_as_object}
use Rattle.host_spec.specs.ValueFunctions.{value_function}

-- ---- words

u32-7 : small_word (u32 7) ≡ Some 0x0000000700000004
u32-7 = refl

symbol-ab : small_word (symbol (97 ∷ 98 ∷ [])) ≡ Some 0x9A70E
symbol-ab = refl

ab-symbol : small_meaning 0x9A70E ≡ Some (symbol (97 ∷ 98 ∷ []))
ab-symbol = refl

-- a group of 0 after a character
gap : small_meaning 0x9800E ≡ None
gap = refl

u64-largest : small_word (u64 (2 ^ 56 - 1)) ≡ Some 0xFFFFFFFFFFFFFF06
u64-largest = refl

u64-object : small_word (u64 (2 ^ 56)) ≡ None
u64-object = refl

first-object : object_word (u64 (2 ^ 56)) 0 ≡ 0x0000000000000040
first-object = refl

contract-7 : small_word (error (errors.Contract 7)) ≡ Some 0x0000000700000003
contract-7 = refl

second : meaning (void ∷ u64 9 ∷ []) 0x0000000200000040 ≡ Some (u64 9)
unfolding meaning
second = refl

other-tag : meaning (void ∷ u64 9 ∷ []) 0x0000000200000041 ≡ None
unfolding meaning
other-tag = refl

-- ---- entry

-- types are tested before the order of keys
types-first : entry (vec (items_of (map (members_of ((u32 2, void) ∷ (u32 1, void) ∷ [])) ∷ u256 (record { hi_hi = 0; hi_lo = 0; lo_hi = 0; lo_lo = 1 }) ∷ []))) ≡ Err OTHER_TYPE
unfolding size_of format.number32 format.number64 numbers.u256_format order.datum_cmp
types-first = refl

falling-keys : entry (map (members_of ((u32 2, void) ∷ (u32 1, void) ∷ []))) ≡ Err INVALID_VALUE
unfolding size_of format.number32 format.number64 numbers.u256_format order.datum_cmp
falling-keys = refl

-- ---- calls

abbrev cost : ℕ → ℕ → LinearCost
cost constant linear = record { constant = constant; linear = linear }

abbrev kind : LinearCost → LinearCost → KindTerms
kind instructions memory = record { instructions = instructions; memory = memory }

abbrev terms : Terms
terms = record {
  wasm_insn_exec = kind (cost 1 0) (cost 0 0);
  mem_alloc = kind (cost 0 0) (cost 16 128);
  mem_cpy = kind (cost 0 128) (cost 0 0);
  mem_cmp = kind (cost 0 128) (cost 0 0);
  dispatch_host_function = kind (cost 10 0) (cost 0 0);
  visit_object = kind (cost 5 0) (cost 0 0);
  val_ser = kind (cost 0 128) (cost 0 0);
  val_deser = kind (cost 0 128) (cost 0 0);
  compute_sha256_hash = kind (cost 100 128) (cost 0 0);
  vm_instantiation = kind (cost 1000 128) (cost 0 128);
  invoke_vm_function = kind (cost 100 0) (cost 0 0);
}

-- a frame with these sums
abbrev frame : List Datum → List ℕ → ℕ → ℕ → State
frame shown memory instructions spent_memory =
    state shown memory (record { limits = record { instructions = 1000; memory = 10000 }; terms = terms; used = record { instructions = instructions; memory = spent_memory } })

abbrev call : HostImport → List ℕ → State → Option (Out ℕ)
call i words w = option_map (λ f. f words w) (value_function i)

from-7 : call imports.ObjFromU64 (7 ∷ []) (frame [] [] 0 0) ≡ Some (Good 0x40 (frame (u64 7 ∷ []) [] 10 28))
unfolding value_function charged dispatched shown_as_object size_of format.number32 format.number64 format.opaque order.datum_cmp
from-7 = refl

to-7 : call imports.ObjToU64 (0x40 ∷ []) (frame (u64 7 ∷ []) [] 0 0) ≡ Some (Good 7 (frame (u64 7 ∷ []) [] 15 0))
unfolding value_function charged dispatched resolved meaning format.number32 format.number64 format.opaque order.datum_cmp
to-7 = refl

abbrev empty : Datum
empty = map (members_of [])

abbrev one : Datum
one = map (members_of ((symbol (97 ∷ []), u32 1) ∷ []))

put-a : call imports.MapPut (0x4C ∷ 9742 ∷ 0x0000000100000004 ∷ []) (frame (empty ∷ []) [] 0 0) ≡ Some (Good 0x000000020000004C (frame (empty ∷ one ∷ []) [] 39 48))
unfolding value_function charged dispatched resolved meaning shown_as_object size_of format.number32 format.number64 format.opaque order.datum_cmp
put-a = refl

pop-nothing : call imports.VecPopBack (0x4B ∷ []) (frame (vec (items_of []) ∷ []) [] 0 0) ≡ Some (Failed OUTSIDE_OBJECT (frame (vec (items_of []) ∷ []) [] 15 0))
unfolding value_function charged dispatched resolved meaning format.number32 format.number64 format.opaque order.datum_cmp
pop-nothing = refl

get-absent : call imports.MapGet (0x4C ∷ 9742 ∷ []) (frame (empty ∷ []) [] 0 0) ≡ Some (Failed ABSENT_KEY (frame (empty ∷ []) [] 39 0))
unfolding value_function charged dispatched resolved meaning size_of format.number32 format.number64 format.opaque order.datum_cmp
get-absent = refl

-- a wrong type before a bad word: no charge
wrong-first : call imports.VecGet (0x4C ∷ 12 ∷ []) (frame (empty ∷ []) [] 0 0) ≡ Some (Failed OTHER_TYPE (frame (empty ∷ []) [] 0 0))
unfolding value_function resolved meaning format.number32 format.number64 format.opaque order.datum_cmp
wrong-first = refl

-- a length of 0 beyond the end
beyond : call imports.BytesCopyToLinearMemory (0x48 ∷ 0x0000000400000004 ∷ 4 ∷ 4 ∷ []) (frame (bytes (1 ∷ 2 ∷ 3 ∷ []) ∷ []) [] 0 0) ≡ Some (Failed OUTSIDE_OBJECT (frame (bytes (1 ∷ 2 ∷ 3 ∷ []) ∷ []) [] 15 0))
unfolding value_function charged dispatched resolved meaning format.number32 format.number64 format.opaque order.datum_cmp
beyond = refl

at-end : call imports.BytesCopyToLinearMemory (0x48 ∷ 0x0000000300000004 ∷ 4 ∷ 4 ∷ []) (frame (bytes (1 ∷ 2 ∷ 3 ∷ []) ∷ []) [] 0 0) ≡ Some (Good 2 (frame (bytes (1 ∷ 2 ∷ 3 ∷ []) ∷ []) [] 15 0))
unfolding value_function charged dispatched resolved meaning format.number32 format.number64 format.opaque order.datum_cmp
at-end = refl

-- the bytes of the least object are copied to the memory
unpacked : call imports.VecUnpackToLinearMemory (0x4B ∷ 4 ∷ 0x0000000100000004 ∷ []) (frame (vec (items_of (u32 7 ∷ [])) ∷ []) (1 ∷ 1 ∷ 1 ∷ 1 ∷ 1 ∷ 1 ∷ 1 ∷ 1 ∷ 1 ∷ []) 0 0)
    ≡ Some (Good 2 (frame (vec (items_of (u32 7 ∷ [])) ∷ []) (4 ∷ 0 ∷ 0 ∷ 0 ∷ 7 ∷ 0 ∷ 0 ∷ 0 ∷ 1 ∷ []) 23 0))
unfolding value_function charged dispatched resolved meaning format.number32 format.number64 format.opaque order.datum_cmp
unpacked = refl

packed : call imports.VecNewFromLinearMemory (4 ∷ 0x0000000100000004 ∷ []) (frame [] (4 ∷ 0 ∷ 0 ∷ 0 ∷ 7 ∷ 0 ∷ 0 ∷ 0 ∷ 1 ∷ []) 0 0)
    ≡ Some (Good 0x4B (frame (vec (items_of (u32 7 ∷ [])) ∷ []) (4 ∷ 0 ∷ 0 ∷ 0 ∷ 7 ∷ 0 ∷ 0 ∷ 0 ∷ 1 ∷ []) 18 36))
unfolding value_function charged dispatched resolved meaning shown_as_object size_of format.number32 format.number64 format.opaque order.datum_cmp
packed = refl

abbrev nested : ℕ → Datum
nested zero = vec (items_of [])
nested (suc n) = vec (items_of (nested n ∷ []))

-- a vec of depth 100 in a vec
too-deep : call imports.VecPushBack (0x4B ∷ 0x000000020000004B ∷ []) (frame (nested 0 ∷ nested 99 ∷ []) [] 0 0) ≡ Some (Failed TOO_LARGE (frame (nested 0 ∷ nested 99 ∷ []) [] 20 0))
unfolding value_function charged dispatched resolved meaning shown_as_object size_of format.number32 format.number64 format.opaque order.datum_cmp
too-deep = refl

spent : call imports.ObjFromU64 (7 ∷ []) (frame [] [] 991 0) ≡ Some (Spent (frame [] [] 991 0))
unfolding value_function charged dispatched format.number32 format.number64 format.opaque order.datum_cmp
spent = refl

-- ---- addresses

abbrev muxed : Datum
muxed = address (MuxedAccount 9 (record { 0 = [] }))

id-of-muxed : call imports.GetIdFromMuxedAddress (0x4E ∷ []) (frame (muxed ∷ []) [] 0 0) ≡ Some (Good 0x0000000000000906 (frame (muxed ∷ []) [] 15 0))
unfolding value_function charged dispatched resolved meaning format.number32 format.number64 format.opaque order.datum_cmp
id-of-muxed = refl
