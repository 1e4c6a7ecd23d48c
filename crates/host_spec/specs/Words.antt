-- What a contract's word means: a small form by its bits, an object's word by the list of the values shown in the frame
-- (CAP-0046-01; that handles count the showings in a frame is own).
use Rattle.std.specs.Prelude.{ℕ, zero, suc, ◌+◌, ◌*◌, ◌-◌, ◌/◌, ◌%◌, ◌^◌, ℤ, pos, negsuc, List, [], ◌∷◌, ◌++◌, length, Option}
use Rattle.std.specs.Prelude.{Some, None, Bool, true, false, ◌==◌, ◌&&◌, nat_le, nat_lt, slice_get, if◌then◌else◌, int_lt, int_le}
use Rattle.std.specs.Option.{option_and_then, option_map}
use Rattle.std.specs.List.{list_all}
use Rattle.std.specs.Int.{w32, w64, cast_signed, cast_unsigned}
use Rattle.value_types.specs.Error.{type_of, code_of, number as type_number, kind, code}
use Rattle.value_types.specs.declared.error.ScErrorType.{ScErrorType}
use Rattle.value_types.specs.declared.error.ScErrorType.TheVariants as types
use Rattle.value_types.specs.declared.error.ScError.{ScError}
use Rattle.value_types.specs.declared.error.ScError.TheVariants as errors
use Rattle.value_types.specs.Datum.{Datum, boolean, void, error, u32, i32, u64, i64, timepoint, duration, u128, i128, bytes}
use Rattle.value_types.specs.Datum.{string, symbol, vec, map, address}
use Rattle.host_spec.specs.declared.tag.Tag.{Tag}
use Rattle.host_spec.specs.declared.tag.Tag.TheVariants as tags
use Rattle.host_spec.specs.Tags.{tag_of}
use Rattle.host_spec.specs.Characters.{number_of, character_of, is_character}
use Rattle.host_spec.specs.Addresses.{address_tag}

-- ---- the parts of a word

abbrev pub tag_bits : ℕ → ℕ
tag_bits word = word % 256

abbrev pub body : ℕ → ℕ
body word = word / 256

abbrev pub minor : ℕ → ℕ
minor word = word / 256 % 2 ^ 24

abbrev pub major : ℕ → ℕ
major word = word / 2 ^ 32

abbrev pub only_if : {A : Type 0} → Bool → A → Option A
only_if true a = Some a
only_if false a = None

-- ---- small forms

-- the signed number of 56 bits in two's complement
abbrev pub signed56 : ℕ → ℤ
signed56 n = cast_signed w64 (if nat_lt n (2 ^ 55) then n else n + (2 ^ 64 - 2 ^ 56))

-- the upper half of that number in 128 bits
abbrev pub upper56 : ℕ → ℤ
upper56 n = if nat_lt n (2 ^ 55) then pos 0 else negsuc 0

-- the error of a type with this code
abbrev pub error_of : ScErrorType → ℕ → Option ScError
error_of types.Contract c = Some (errors.Contract c)
error_of types.WasmVm c = option_map (λ k. errors.WasmVm k) (code_of c)
error_of types.Context c = option_map (λ k. errors.Context k) (code_of c)
error_of types.Storage c = option_map (λ k. errors.Storage k) (code_of c)
error_of types.Object c = option_map (λ k. errors.Object k) (code_of c)
error_of types.Crypto c = option_map (λ k. errors.Crypto k) (code_of c)
error_of types.Events c = option_map (λ k. errors.Events k) (code_of c)
error_of types.Budget c = option_map (λ k. errors.Budget k) (code_of c)
error_of types.Value c = option_map (λ k. errors.Value k) (code_of c)
error_of types.Auth c = option_map (λ k. errors.Auth k) (code_of c)

abbrev pub ended_by : Option (List ℕ) → Option ℕ → Option (List ℕ)
ended_by (Some text) (Some c) = Some (text ++ c ∷ [])
ended_by _ _ = None

-- The text of at most n characters, of 6 bits each, the last one lowest. All bits above the first
-- character are 0, and no group of 6 bits after it is 0.
abbrev pub text_of : ℕ → ℕ → Option (List ℕ)
text_of zero bits = only_if (bits == 0) []
text_of (suc n) bits = if bits == 0 then Some [] else ended_by (text_of n (bits / 64)) (character_of (bits % 64))

-- the value of a word with the tag of a small form
abbrev pub small_of : Tag → ℕ → Option Datum
small_of tags.False w = only_if (body w == 0) (boolean false)
small_of tags.True w = only_if (body w == 0) (boolean true)
small_of tags.Void w = only_if (body w == 0) void
small_of tags.Error w = option_map (λ e. error e) (option_and_then (λ t. error_of t (major w)) (type_of (minor w)))
small_of tags.U32 w = only_if (minor w == 0) (u32 (major w))
small_of tags.I32 w = only_if (minor w == 0) (i32 (cast_signed w32 (major w)))
small_of tags.U64Small w = Some (u64 (body w))
small_of tags.I64Small w = Some (i64 (signed56 (body w)))
small_of tags.TimepointSmall w = Some (timepoint (body w))
small_of tags.DurationSmall w = Some (duration (body w))
small_of tags.U128Small w = Some (u128 (record { hi = 0; lo = body w }))
small_of tags.I128Small w = Some (i128 (record { hi = upper56 (body w); lo = cast_unsigned w64 (signed56 (body w)) }))
small_of tags.SymbolSmall w = option_map (λ text. symbol text) (text_of 9 (body w))
small_of _ w = None

abbrev pub small_meaning : ℕ → Option Datum
small_meaning w = option_and_then (λ t. small_of t w) (tag_of (tag_bits w))

-- ---- objects

-- the tag of a value as an object, or 0 for a type without objects
abbrev pub object_tag : Datum → ℕ
object_tag (u64 x) = 64
object_tag (i64 x) = 65
object_tag (timepoint x) = 66
object_tag (duration x) = 67
object_tag (u128 x) = 68
object_tag (i128 x) = 69
object_tag (bytes x) = 72
object_tag (string x) = 73
object_tag (symbol x) = 74
object_tag (vec x) = 75
object_tag (map x) = 76
object_tag (address x) = address_tag x
object_tag _ = 0

-- whether the word has a tag of objects; words of the tags 70 and 71 have one, and mean nothing
abbrev pub is_object : ℕ → Bool
is_object w = nat_le 64 (tag_bits w) && nat_le (tag_bits w) 78

abbrev pub with_tag : ℕ → Option Datum → Option Datum
with_tag tag None = None
with_tag tag (Some d) = only_if (tag == object_tag d) d

-- the value with handle 2k is the one at index k of what was shown, if it has the tag
abbrev pub object_of : List Datum → ℕ → Option Datum
object_of shown w = if (minor w == 0) && (major w % 2 == 0) then with_tag (tag_bits w) (slice_get shown (major w / 2)) else None

-- the word of the value at index k of what was shown
abbrev pub object_word : Datum → ℕ → ℕ
object_word d k = object_tag d + 2 * k * 2 ^ 32

-- ---- words

-- what a word means in a frame
unfoldable pub meaning : List Datum → ℕ → Option Datum
meaning shown w = if is_object w then object_of shown w else small_meaning w

-- ---- the small forms of values

-- whether 56 bits hold a signed number
abbrev pub fits56 : ℤ → Bool
fits56 n = int_le (negsuc (2 ^ 55 - 1)) n && int_lt n (pos (2 ^ 55))

-- whether 56 bits hold a signed number of 128 bits
abbrev pub parts_fit56 : ℤ → ℕ → Bool
parts_fit56 (pos n) lo = (n == 0) && nat_lt lo (2 ^ 55)
parts_fit56 (negsuc n) lo = (n == 0) && nat_le (2 ^ 64 - 2 ^ 55) lo

-- the bits of a text, with these bits before its first character
abbrev pub with_character : ℕ → Option ℕ → ℕ
with_character bits None = bits
with_character bits (Some n) = bits * 64 + n

abbrev pub text_bits : ℕ → List ℕ → ℕ
text_bits bits [] = bits
text_bits bits (c ∷ text) = text_bits (with_character bits (number_of c)) text

-- the small form of a value, if it has one
abbrev pub small_word : Datum → Option ℕ
small_word (boolean false) = Some 0
small_word (boolean true) = Some 1
small_word void = Some 2
small_word (error e) = Some (3 + type_number (kind e) * 256 + code e * 2 ^ 32)
small_word (u32 n) = Some (4 + n * 2 ^ 32)
small_word (i32 n) = Some (5 + cast_unsigned w32 n * 2 ^ 32)
small_word (u64 n) = only_if (nat_lt n (2 ^ 56)) (6 + n * 256)
small_word (i64 n) = only_if (fits56 n) (7 + cast_unsigned w64 n % 2 ^ 56 * 256)
small_word (timepoint n) = only_if (nat_lt n (2 ^ 56)) (8 + n * 256)
small_word (duration n) = only_if (nat_lt n (2 ^ 56)) (9 + n * 256)
small_word (u128 n) = only_if ((n.hi == 0) && nat_lt n.lo (2 ^ 56)) (10 + n.lo * 256)
small_word (i128 n) = only_if (parts_fit56 n.hi n.lo) (11 + n.lo % 2 ^ 56 * 256)
small_word (symbol text) = only_if (nat_le (length text) 9 && list_all is_character text) (14 + text_bits 0 text * 256)
small_word _ = None
