-- The groups of functions over values.
use Rattle.std.proofs.Common.{◌≡◌, ◌≤◌, ℕ, List, length, true, is_some, refl, arith}
use Rattle.host_interface.specs.declared.import.HostImport.{HostImport}
use Rattle.host_interface.specs.declared.import.HostImport.TheVariants as imports
use Rattle.host_spec.specs.Indices.{arguments_of}
use Rattle.host_spec.specs.ValueFunctions.{value_rule}
use Rattle.host_values.specs.Rows.{group_of}
use Rattle.host_values.specs.Called.{IsValueCall}

pub after_without_words : (i : HostImport) → 1 ≤ group_of i → group_of i ≤ 1 → (i ≡ imports.MapNew → ⊥) → (i ≡ imports.VecNew → ⊥) → (i ≡ imports.BytesNew → ⊥) → ⊥
after_without_words imports.MapNew h k n0 n1 n2 = n0 refl
after_without_words imports.VecNew h k n0 n1 n2 = n1 refl
after_without_words imports.BytesNew h k n0 n1 n2 = n2 refl
after_without_words _ h k n0 n1 n2 = absurd (omega arith)

pub after_one_word : (i : HostImport) → 2 ≤ group_of i → (i ≡ imports.ObjFromU64 → ⊥) → (i ≡ imports.ObjToU64 → ⊥) → (i ≡ imports.ObjFromI64 → ⊥) → (i ≡ imports.ObjToI64 → ⊥) → (i ≡ imports.ObjToU128Hi64 → ⊥) → (i ≡ imports.ObjToU128Lo64 → ⊥) → (i ≡ imports.ObjToI128Hi64 → ⊥) → (i ≡ imports.ObjToI128Lo64 → ⊥) → (i ≡ imports.TimepointObjFromU64 → ⊥) → (i ≡ imports.TimepointObjToU64 → ⊥) → (i ≡ imports.DurationObjFromU64 → ⊥) → (i ≡ imports.DurationObjToU64 → ⊥) → (i ≡ imports.GetAddressFromMuxedAddress → ⊥) → (i ≡ imports.GetIdFromMuxedAddress → ⊥) → 3 ≤ group_of i
after_one_word imports.ObjFromU64 h n0 n1 n2 n3 n4 n5 n6 n7 n8 n9 n10 n11 n12 n13 = absurd (n0 refl)
after_one_word imports.ObjToU64 h n0 n1 n2 n3 n4 n5 n6 n7 n8 n9 n10 n11 n12 n13 = absurd (n1 refl)
after_one_word imports.ObjFromI64 h n0 n1 n2 n3 n4 n5 n6 n7 n8 n9 n10 n11 n12 n13 = absurd (n2 refl)
after_one_word imports.ObjToI64 h n0 n1 n2 n3 n4 n5 n6 n7 n8 n9 n10 n11 n12 n13 = absurd (n3 refl)
after_one_word imports.ObjToU128Hi64 h n0 n1 n2 n3 n4 n5 n6 n7 n8 n9 n10 n11 n12 n13 = absurd (n4 refl)
after_one_word imports.ObjToU128Lo64 h n0 n1 n2 n3 n4 n5 n6 n7 n8 n9 n10 n11 n12 n13 = absurd (n5 refl)
after_one_word imports.ObjToI128Hi64 h n0 n1 n2 n3 n4 n5 n6 n7 n8 n9 n10 n11 n12 n13 = absurd (n6 refl)
after_one_word imports.ObjToI128Lo64 h n0 n1 n2 n3 n4 n5 n6 n7 n8 n9 n10 n11 n12 n13 = absurd (n7 refl)
after_one_word imports.TimepointObjFromU64 h n0 n1 n2 n3 n4 n5 n6 n7 n8 n9 n10 n11 n12 n13 = absurd (n8 refl)
after_one_word imports.TimepointObjToU64 h n0 n1 n2 n3 n4 n5 n6 n7 n8 n9 n10 n11 n12 n13 = absurd (n9 refl)
after_one_word imports.DurationObjFromU64 h n0 n1 n2 n3 n4 n5 n6 n7 n8 n9 n10 n11 n12 n13 = absurd (n10 refl)
after_one_word imports.DurationObjToU64 h n0 n1 n2 n3 n4 n5 n6 n7 n8 n9 n10 n11 n12 n13 = absurd (n11 refl)
after_one_word imports.GetAddressFromMuxedAddress h n0 n1 n2 n3 n4 n5 n6 n7 n8 n9 n10 n11 n12 n13 = absurd (n12 refl)
after_one_word imports.GetIdFromMuxedAddress h n0 n1 n2 n3 n4 n5 n6 n7 n8 n9 n10 n11 n12 n13 = absurd (n13 refl)
after_one_word _ h n0 n1 n2 n3 n4 n5 n6 n7 n8 n9 n10 n11 n12 n13 = omega arith

pub after_one_collection : (i : HostImport) → 3 ≤ group_of i → (i ≡ imports.MapLen → ⊥) → (i ≡ imports.MapKeys → ⊥) → (i ≡ imports.MapValues → ⊥) → (i ≡ imports.VecLen → ⊥) → (i ≡ imports.VecPopFront → ⊥) → (i ≡ imports.VecPopBack → ⊥) → (i ≡ imports.VecFront → ⊥) → (i ≡ imports.VecBack → ⊥) → 4 ≤ group_of i
after_one_collection imports.MapLen h n0 n1 n2 n3 n4 n5 n6 n7 = absurd (n0 refl)
after_one_collection imports.MapKeys h n0 n1 n2 n3 n4 n5 n6 n7 = absurd (n1 refl)
after_one_collection imports.MapValues h n0 n1 n2 n3 n4 n5 n6 n7 = absurd (n2 refl)
after_one_collection imports.VecLen h n0 n1 n2 n3 n4 n5 n6 n7 = absurd (n3 refl)
after_one_collection imports.VecPopFront h n0 n1 n2 n3 n4 n5 n6 n7 = absurd (n4 refl)
after_one_collection imports.VecPopBack h n0 n1 n2 n3 n4 n5 n6 n7 = absurd (n5 refl)
after_one_collection imports.VecFront h n0 n1 n2 n3 n4 n5 n6 n7 = absurd (n6 refl)
after_one_collection imports.VecBack h n0 n1 n2 n3 n4 n5 n6 n7 = absurd (n7 refl)
after_one_collection _ h n0 n1 n2 n3 n4 n5 n6 n7 = omega arith

pub after_one_text : (i : HostImport) → 4 ≤ group_of i → group_of i ≤ 4 → (i ≡ imports.SerializeToBytes → ⊥) → (i ≡ imports.DeserializeFromBytes → ⊥) → (i ≡ imports.BytesLen → ⊥) → (i ≡ imports.BytesPop → ⊥) → (i ≡ imports.BytesFront → ⊥) → (i ≡ imports.BytesBack → ⊥) → (i ≡ imports.StringLen → ⊥) → (i ≡ imports.SymbolLen → ⊥) → (i ≡ imports.StringToBytes → ⊥) → (i ≡ imports.BytesToString → ⊥) → (i ≡ imports.ComputeHashSha256 → ⊥) → ⊥
after_one_text imports.SerializeToBytes h k n0 n1 n2 n3 n4 n5 n6 n7 n8 n9 n10 = n0 refl
after_one_text imports.DeserializeFromBytes h k n0 n1 n2 n3 n4 n5 n6 n7 n8 n9 n10 = n1 refl
after_one_text imports.BytesLen h k n0 n1 n2 n3 n4 n5 n6 n7 n8 n9 n10 = n2 refl
after_one_text imports.BytesPop h k n0 n1 n2 n3 n4 n5 n6 n7 n8 n9 n10 = n3 refl
after_one_text imports.BytesFront h k n0 n1 n2 n3 n4 n5 n6 n7 n8 n9 n10 = n4 refl
after_one_text imports.BytesBack h k n0 n1 n2 n3 n4 n5 n6 n7 n8 n9 n10 = n5 refl
after_one_text imports.StringLen h k n0 n1 n2 n3 n4 n5 n6 n7 n8 n9 n10 = n6 refl
after_one_text imports.SymbolLen h k n0 n1 n2 n3 n4 n5 n6 n7 n8 n9 n10 = n7 refl
after_one_text imports.StringToBytes h k n0 n1 n2 n3 n4 n5 n6 n7 n8 n9 n10 = n8 refl
after_one_text imports.BytesToString h k n0 n1 n2 n3 n4 n5 n6 n7 n8 n9 n10 = n9 refl
after_one_text imports.ComputeHashSha256 h k n0 n1 n2 n3 n4 n5 n6 n7 n8 n9 n10 = n10 refl
after_one_text _ h k n0 n1 n2 n3 n4 n5 n6 n7 n8 n9 n10 = absurd (omega arith)

pub after_two_words : (i : HostImport) → 5 ≤ group_of i → (i ≡ imports.ObjFromU128Pieces → ⊥) → (i ≡ imports.ObjFromI128Pieces → ⊥) → (i ≡ imports.ObjCmp → ⊥) → 6 ≤ group_of i
after_two_words imports.ObjFromU128Pieces h n0 n1 n2 = absurd (n0 refl)
after_two_words imports.ObjFromI128Pieces h n0 n1 n2 = absurd (n1 refl)
after_two_words imports.ObjCmp h n0 n1 n2 = absurd (n2 refl)
after_two_words _ h n0 n1 n2 = omega arith

pub after_two_collection : (i : HostImport) → 6 ≤ group_of i → (i ≡ imports.MapGet → ⊥) → (i ≡ imports.MapDel → ⊥) → (i ≡ imports.MapHas → ⊥) → (i ≡ imports.MapKeyByPos → ⊥) → (i ≡ imports.MapValByPos → ⊥) → (i ≡ imports.VecGet → ⊥) → (i ≡ imports.VecDel → ⊥) → (i ≡ imports.VecPushFront → ⊥) → (i ≡ imports.VecPushBack → ⊥) → (i ≡ imports.VecAppend → ⊥) → (i ≡ imports.VecFirstIndexOf → ⊥) → (i ≡ imports.VecLastIndexOf → ⊥) → 7 ≤ group_of i
after_two_collection imports.MapGet h n0 n1 n2 n3 n4 n5 n6 n7 n8 n9 n10 n11 = absurd (n0 refl)
after_two_collection imports.MapDel h n0 n1 n2 n3 n4 n5 n6 n7 n8 n9 n10 n11 = absurd (n1 refl)
after_two_collection imports.MapHas h n0 n1 n2 n3 n4 n5 n6 n7 n8 n9 n10 n11 = absurd (n2 refl)
after_two_collection imports.MapKeyByPos h n0 n1 n2 n3 n4 n5 n6 n7 n8 n9 n10 n11 = absurd (n3 refl)
after_two_collection imports.MapValByPos h n0 n1 n2 n3 n4 n5 n6 n7 n8 n9 n10 n11 = absurd (n4 refl)
after_two_collection imports.VecGet h n0 n1 n2 n3 n4 n5 n6 n7 n8 n9 n10 n11 = absurd (n5 refl)
after_two_collection imports.VecDel h n0 n1 n2 n3 n4 n5 n6 n7 n8 n9 n10 n11 = absurd (n6 refl)
after_two_collection imports.VecPushFront h n0 n1 n2 n3 n4 n5 n6 n7 n8 n9 n10 n11 = absurd (n7 refl)
after_two_collection imports.VecPushBack h n0 n1 n2 n3 n4 n5 n6 n7 n8 n9 n10 n11 = absurd (n8 refl)
after_two_collection imports.VecAppend h n0 n1 n2 n3 n4 n5 n6 n7 n8 n9 n10 n11 = absurd (n9 refl)
after_two_collection imports.VecFirstIndexOf h n0 n1 n2 n3 n4 n5 n6 n7 n8 n9 n10 n11 = absurd (n10 refl)
after_two_collection imports.VecLastIndexOf h n0 n1 n2 n3 n4 n5 n6 n7 n8 n9 n10 n11 = absurd (n11 refl)
after_two_collection _ h n0 n1 n2 n3 n4 n5 n6 n7 n8 n9 n10 n11 = omega arith

pub after_two_bytes : (i : HostImport) → 7 ≤ group_of i → (i ≡ imports.BytesGet → ⊥) → (i ≡ imports.BytesDel → ⊥) → (i ≡ imports.BytesPush → ⊥) → (i ≡ imports.BytesAppend → ⊥) → 8 ≤ group_of i
after_two_bytes imports.BytesGet h n0 n1 n2 n3 = absurd (n0 refl)
after_two_bytes imports.BytesDel h n0 n1 n2 n3 = absurd (n1 refl)
after_two_bytes imports.BytesPush h n0 n1 n2 n3 = absurd (n2 refl)
after_two_bytes imports.BytesAppend h n0 n1 n2 n3 = absurd (n3 refl)
after_two_bytes _ h n0 n1 n2 n3 = omega arith

pub after_two_from_memory : (i : HostImport) → 8 ≤ group_of i → group_of i ≤ 8 → (i ≡ imports.BytesNewFromLinearMemory → ⊥) → (i ≡ imports.StringNewFromLinearMemory → ⊥) → (i ≡ imports.SymbolNewFromLinearMemory → ⊥) → ⊥
after_two_from_memory imports.BytesNewFromLinearMemory h k n0 n1 n2 = n0 refl
after_two_from_memory imports.StringNewFromLinearMemory h k n0 n1 n2 = n1 refl
after_two_from_memory imports.SymbolNewFromLinearMemory h k n0 n1 n2 = n2 refl
after_two_from_memory _ h k n0 n1 n2 = absurd (omega arith)

pub after_three_words : (i : HostImport) → 9 ≤ group_of i → group_of i ≤ 9 → (i ≡ imports.MapPut → ⊥) → (i ≡ imports.VecPut → ⊥) → (i ≡ imports.VecInsert → ⊥) → (i ≡ imports.VecSlice → ⊥) → (i ≡ imports.BytesPut → ⊥) → (i ≡ imports.BytesInsert → ⊥) → (i ≡ imports.BytesSlice → ⊥) → ⊥
after_three_words imports.MapPut h k n0 n1 n2 n3 n4 n5 n6 = n0 refl
after_three_words imports.VecPut h k n0 n1 n2 n3 n4 n5 n6 = n1 refl
after_three_words imports.VecInsert h k n0 n1 n2 n3 n4 n5 n6 = n2 refl
after_three_words imports.VecSlice h k n0 n1 n2 n3 n4 n5 n6 = n3 refl
after_three_words imports.BytesPut h k n0 n1 n2 n3 n4 n5 n6 = n4 refl
after_three_words imports.BytesInsert h k n0 n1 n2 n3 n4 n5 n6 = n5 refl
after_three_words imports.BytesSlice h k n0 n1 n2 n3 n4 n5 n6 = n6 refl
after_three_words _ h k n0 n1 n2 n3 n4 n5 n6 = absurd (omega arith)

pub after_four_words : (i : HostImport) → 10 ≤ group_of i → group_of i ≤ 10 → (i ≡ imports.BytesCopyToLinearMemory → ⊥) → (i ≡ imports.StringCopyToLinearMemory → ⊥) → (i ≡ imports.SymbolCopyToLinearMemory → ⊥) → (i ≡ imports.BytesCopyFromLinearMemory → ⊥) → ⊥
after_four_words imports.BytesCopyToLinearMemory h k n0 n1 n2 n3 = n0 refl
after_four_words imports.StringCopyToLinearMemory h k n0 n1 n2 n3 = n1 refl
after_four_words imports.SymbolCopyToLinearMemory h k n0 n1 n2 n3 = n2 refl
after_four_words imports.BytesCopyFromLinearMemory h k n0 n1 n2 n3 = n3 refl
after_four_words _ h k n0 n1 n2 n3 = absurd (omega arith)

-- a function over values is in a group
pub grouped : (i : HostImport) → is_some (value_rule i) ≡ true → 1 ≤ group_of i
grouped imports.ObjCmp h = omega arith
grouped _ h = grind arith

pub no_word : (i : HostImport) → 1 ≤ group_of i → 0 ≡ length (arguments_of i) → (1 ≤ group_of i) × (group_of i ≤ 1)
no_word imports.ObjCmp h n = (omega arith, omega arith)
no_word _ h n = (omega arith, omega arith)

pub one_word : (i : HostImport) → 1 ≤ group_of i → 1 ≡ length (arguments_of i) → (2 ≤ group_of i) × (group_of i ≤ 4)
one_word imports.ObjCmp h n = (omega arith, omega arith)
one_word _ h n = (omega arith, omega arith)

pub two_words : (i : HostImport) → 1 ≤ group_of i → 2 ≡ length (arguments_of i) → group_of i ≤ 10 → (5 ≤ group_of i) × (group_of i ≤ 8)
two_words imports.ObjCmp h n b = (omega arith, omega arith)
two_words _ h n b = (omega arith, omega arith)

pub three_words : (i : HostImport) → 1 ≤ group_of i → 3 ≡ length (arguments_of i) → group_of i ≤ 10 → (9 ≤ group_of i) × (group_of i ≤ 9)
three_words imports.ObjCmp h n b = (omega arith, omega arith)
three_words _ h n b = (omega arith, omega arith)

pub four_words : (i : HostImport) → 1 ≤ group_of i → 4 ≡ length (arguments_of i) → (10 ≤ group_of i) × (group_of i ≤ 10)
four_words imports.ObjCmp h n = (omega arith, omega arith)
four_words _ h n = (omega arith, omega arith)

-- `vec_unpack_to_linear_memory` and `vec_new_from_linear_memory` are called apart from the others
pub not_unpack : (i : HostImport) → group_of i ≤ 11 → (i ≡ imports.VecUnpackToLinearMemory → ⊥) → group_of i ≤ 10
not_unpack imports.VecUnpackToLinearMemory h n = absurd (n refl)
not_unpack _ h n = omega arith

pub not_new_vec : (i : HostImport) → (i ≡ imports.VecNewFromLinearMemory → ⊥) → group_of i ≤ 11
not_new_vec imports.VecNewFromLinearMemory n = absurd (n refl)
not_new_vec _ n = omega arith

pub new_vec_words : (i : HostImport) (words : List ℕ) → IsValueCall i words → i ≡ imports.VecNewFromLinearMemory → length words ≡ 2
new_vec_words i words h e = rw e at h.arity

pub unpack_words : (i : HostImport) (words : List ℕ) → IsValueCall i words → i ≡ imports.VecUnpackToLinearMemory → length words ≡ 3
unpack_words i words h e = rw e at h.arity

-- no function over values takes another number of words
other_number : (i : HostImport) (words : List ℕ) → 1 ≤ group_of i → length words ≡ length (arguments_of i) → (length words ≡ 0 → ⊥) → (length words ≡ 1 → ⊥) → (length words ≡ 2 → ⊥) → (length words ≡ 3 → ⊥) → (length words ≡ 4 → ⊥) → ⊥
other_number imports.ObjCmp words h n n0 n1 n2 n3 n4 = n2 n
other_number _ words h n n0 n1 n2 n3 n4 = absurd (omega arith)

pub no_more : (i : HostImport) (words : List ℕ) → IsValueCall i words → (length words ≡ 0 → ⊥) → (length words ≡ 1 → ⊥) → (length words ≡ 2 → ⊥) → (length words ≡ 3 → ⊥) → (length words ≡ 4 → ⊥) → ⊥
no_more i words h n0 n1 n2 n3 n4 = other_number i words (grouped i h.over_values) h.arity n0 n1 n2 n3 n4
