-- The small word of a value means the value.
use Rattle.std.proofs.Common.{◌≡◌, ℕ, suc, ◌+◌, ◌*◌, ◌-◌, ◌%◌, ◌^◌, ◌≤◌, ◌<◌, ℤ, pos, negsuc, Bool, true, false, Some, arith, refl, sym, ap, ap₂, ◌∙◌, subst, to_z-of_z}
use Rattle.std.specs.Prelude.{List, length, ◌==◌, ◌&&◌, nat_le, nat_lt, int_lt, int_le, if◌then◌else◌}
use Rattle.std.specs.Int.{w32, w64, cast_signed, cast_unsigned}
use Rattle.std.specs.Int.RustNames.{FitsSigned}
use Rattle.std.specs.List.{list_all}
use Rattle.std.specs.Option.{option_and_then, option_map}
use Rattle.std.proofs.lemmas.Bool.{and_parts, eqb-true, leb-true, ltb-true, lt-ltb, le-ltb, lt-leb}
use Rattle.std.proofs.lemmas.Int.{of_z-to_z}
use Rattle.xdr_spec.specs.Format.{number64, signed32, signed64}
use Rattle.value_types.specs.Datum.{Datum, boolean, void, error, u32, i32, u64, i64, timepoint, duration, u128, i128, symbol}
use Rattle.value_types.specs.Error.{number as type_number, type_of, there, kind, code, code_there}
use Rattle.value_types.specs.Numbers.{i128_format}
use Rattle.value_types.specs.declared.error.ScError.{ScError}
use Rattle.value_types.specs.declared.error.ScError.TheVariants as errors
use Rattle.value_types.specs.declared.error.ScErrorType.{ScErrorType}
use Rattle.value_types.specs.declared.error.ScErrorType.TheVariants as types
use Rattle.value_xdr.specs.Bytes.{IsBounded}
use Rattle.host_spec.specs.declared.tag.Tag.{Tag}
use Rattle.host_spec.specs.declared.tag.Tag.TheVariants as tags
use Rattle.host_spec.specs.Characters.{is_character}
use Rattle.host_spec.specs.Tags.{tag_of}
use Rattle.host_spec.specs.Words.{body, error_of, fits56, is_object, major, minor, only_if, parts_fit56, signed56, small_meaning, small_of, small_word, tag_bits, text_bits, text_of, upper56}
use Rattle.word_laws.proofs.Characters.{text_read}

-- ---- the parts of a word

tag_of_body : (t m : ℕ) → t < 256 → tag_bits (t + m * 256) ≡ t
tag_of_body t m h = omega (arith, h)

body_is : (t m : ℕ) → t < 256 → body (t + m * 256) ≡ m
body_is t m h = omega (arith, h)

pub tag_of_major : (t n : ℕ) → t < 256 → tag_bits (t + n * 2 ^ 32) ≡ t
tag_of_major t n h = omega (arith, h)

pub minor_is : (t n : ℕ) → t < 256 → minor (t + n * 2 ^ 32) ≡ 0
minor_is t n h = omega (arith, h)

pub major_is : (t n : ℕ) → t < 256 → major (t + n * 2 ^ 32) ≡ n
major_is t n h = omega (arith, h)

error_tag : (m n : ℕ) → m < 16 → tag_bits (3 + m * 256 + n * 2 ^ 32) ≡ 3
error_tag m n h = omega (arith, h)

error_minor : (m n : ℕ) → m < 16 → minor (3 + m * 256 + n * 2 ^ 32) ≡ m
error_minor m n h = omega (arith, h)

error_major : (m n : ℕ) → m < 16 → major (3 + m * 256 + n * 2 ^ 32) ≡ n
error_major m n h = omega (arith, h)

-- the word is no object's, and means the value
pub record Reads (d : Datum) (w : ℕ) : Type 0 where
  pub small : is_object w ≡ false
  pub meant : small_meaning w ≡ Some d

reads : (d : Datum) (w t : ℕ) (tag : Tag) → tag_bits w ≡ t → t < 64 → tag_of t ≡ Some tag → small_of tag w ≡ Some d → Reads d w
reads d w t tag is low named means = record {
  small = ap (λ (n : ℕ). nat_le 64 n && nat_le n 78) is ∙ ap (λ (b : Bool). b && nat_le t 78) (lt-leb 64 t low);
  meant = ap (λ (n : ℕ). option_and_then (λ t. small_of t w) (tag_of n)) is ∙ ap (option_and_then (λ t. small_of t w)) named ∙ means;
}

-- ---- each type

read_u32 : (n : ℕ) → Reads (u32 n) (4 + n * 2 ^ 32)
read_u32 n = reads (u32 n) (4 + n * 2 ^ 32) 4 tags.U32 (tag_of_major 4 n (omega arith)) (omega arith) refl
    (ap₂ (λ (m k : ℕ). only_if (m == 0) (u32 k)) (minor_is 4 n (omega arith)) (major_is 4 n (omega arith)))

read_i32 : (n : ℤ) → FitsSigned w32 n → Reads (i32 n) (5 + cast_unsigned w32 n * 2 ^ 32)
read_i32 n fits =
    let m = cast_unsigned w32 n in
    reads (i32 n) (5 + m * 2 ^ 32) 5 tags.I32 (tag_of_major 5 m (omega arith)) (omega arith) refl
    (ap₂ (λ (a k : ℕ). only_if (a == 0) (i32 (cast_signed w32 k))) (minor_is 5 m (omega arith)) (major_is 5 m (omega arith))
    ∙ ap (λ (z : ℤ). Some (i32 z)) (to_z-of_z fits))

read_u64 : (n : ℕ) → Reads (u64 n) (6 + n * 256)
read_u64 n = reads (u64 n) (6 + n * 256) 6 tags.U64Small (tag_of_body 6 n (omega arith)) (omega arith) refl (ap (λ (m : ℕ). Some (u64 m)) (body_is 6 n (omega arith)))

read_timepoint : (n : ℕ) → Reads (timepoint n) (8 + n * 256)
read_timepoint n = reads (timepoint n) (8 + n * 256) 8 tags.TimepointSmall (tag_of_body 8 n (omega arith)) (omega arith) refl (ap (λ (m : ℕ). Some (timepoint m)) (body_is 8 n (omega arith)))

read_duration : (n : ℕ) → Reads (duration n) (9 + n * 256)
read_duration n = reads (duration n) (9 + n * 256) 9 tags.DurationSmall (tag_of_body 9 n (omega arith)) (omega arith) refl (ap (λ (m : ℕ). Some (duration m)) (body_is 9 n (omega arith)))

read_u128 : (hi lo : ℕ) → hi ≡ 0 → Reads (u128 (record { hi = hi; lo = lo })) (10 + lo * 256)
read_u128 hi lo none = reads (u128 (record { hi = hi; lo = lo })) (10 + lo * 256) 10 tags.U128Small (tag_of_body 10 lo (omega arith)) (omega arith) refl
    (ap₂ (λ (h m : ℕ). Some (u128 (record { hi = h; lo = m }))) (sym none) (body_is 10 lo (omega arith)))

-- the 64 bits of a number that 56 bits hold
abbrev pub widened : ℕ → ℕ
widened b = if nat_lt b (2 ^ 55) then b else b + (2 ^ 64 - 2 ^ 56)

widen_low : (n : ℕ) → n < 2 ^ 55 → widened (n % 2 ^ 56) ≡ n
widen_low n h =
    let same : n % 2 ^ 56 ≡ n = omega (arith, h) in
    ap widened same ∙ ap (λ (b : Bool). if b then n else n + (2 ^ 64 - 2 ^ 56)) (lt-ltb n (2 ^ 55) h)

widen_high : (n : ℕ) → 2 ^ 64 - 2 ^ 55 ≤ n → n < 2 ^ 64 → widened (n % 2 ^ 56) ≡ n
widen_high n low high =
    let m = n % 2 ^ 56 in
    let less : m + (2 ^ 64 - 2 ^ 56) ≡ n = omega (arith, low, high) in
    let large : 2 ^ 55 ≤ m = omega (arith, less, low) in
    ap (λ (b : Bool). if b then m else m + (2 ^ 64 - 2 ^ 56)) (le-ltb m (2 ^ 55) large) ∙ less

abbrev Widens : ℕ → Type 0
Widens n = widened (n % 2 ^ 56) ≡ n

widens : (z : ℤ) → fits56 z ≡ true → Widens (cast_unsigned w64 z)
widens (pos n) e = widen_low n (omega (arith, ltb-true n (2 ^ 55) (and_parts (int_le (negsuc (2 ^ 55 - 1)) (pos n)) (nat_lt n (2 ^ 55)) e).1))
widens (negsuc n) e = let low : n ≤ 2 ^ 55 - 1 = leb-true n (2 ^ 55 - 1) (and_parts (nat_le n (2 ^ 55 - 1)) (int_lt (negsuc n) (pos (2 ^ 55))) e).0 in
    widen_high (2 ^ 64 - suc n) (omega (arith, low)) (omega (arith, low))

read_i64 : (z : ℤ) → FitsSigned w64 z → fits56 z ≡ true → Reads (i64 z) (7 + cast_unsigned w64 z % 2 ^ 56 * 256)
read_i64 z fits e =
    let m = cast_unsigned w64 z % 2 ^ 56 in
    reads (i64 z) (7 + m * 256) 7 tags.I64Small (tag_of_body 7 m (omega arith)) (omega arith) refl
    (ap (λ (b : ℕ). Some (i64 (signed56 b))) (body_is 7 m (omega arith)) ∙ ap (λ (b : ℕ). Some (i64 (cast_signed w64 b))) (widens z e) ∙ ap (λ (y : ℤ). Some (i64 y)) (to_z-of_z fits))

read_i128 : (hi : ℤ) (lo : ℕ) → lo < 2 ^ 64 → upper56 (lo % 2 ^ 56) ≡ hi → Widens lo → Reads (i128 (record { hi = hi; lo = lo })) (11 + lo % 2 ^ 56 * 256)
read_i128 hi lo fits upper wide =
    let m = lo % 2 ^ 56 in
    reads (i128 (record { hi = hi; lo = lo })) (11 + m * 256) 11 tags.I128Small (tag_of_body 11 m (omega arith)) (omega arith) refl
    (ap (λ (b : ℕ). Some (i128 (record { hi = upper56 b; lo = cast_unsigned w64 (signed56 b) }))) (body_is 11 m (omega arith))
    ∙ ap (λ (b : ℕ). Some (i128 (record { hi = upper56 m; lo = cast_unsigned w64 (cast_signed w64 b) }))) wide
    ∙ ap (λ (z : ℤ). Some (i128 (record { hi = z; lo = cast_unsigned w64 (cast_signed w64 lo) }))) upper
    ∙ ap (λ (n : ℕ). Some (i128 (record { hi = hi; lo = n }))) (of_z-to_z w64 lo fits))

read_parts : (hi : ℤ) (lo : ℕ) → lo < 2 ^ 64 → parts_fit56 hi lo ≡ true → Reads (i128 (record { hi = hi; lo = lo })) (11 + lo % 2 ^ 56 * 256)
read_parts (pos n) lo fits e =
    let h = and_parts (n == 0) (nat_lt lo (2 ^ 55)) e in
    let low : lo < 2 ^ 55 = ltb-true lo (2 ^ 55) h.1 in
    let none : 0 ≡ n = sym (eqb-true n 0 h.0) in
    read_i128 (pos n) lo fits (ap (λ (b : Bool). if b then pos 0 else negsuc 0) (lt-ltb (lo % 2 ^ 56) (2 ^ 55) (omega (arith, low))) ∙ ap (λ (m : ℕ). pos m) none) (widen_low lo low)
read_parts (negsuc n) lo fits e =
    let h = and_parts (n == 0) (nat_le (2 ^ 64 - 2 ^ 55) lo) e in
    let low : 2 ^ 64 - 2 ^ 55 ≤ lo = leb-true (2 ^ 64 - 2 ^ 55) lo h.1 in
    let none : 0 ≡ n = sym (eqb-true n 0 h.0) in
    read_i128 (negsuc n) lo fits (ap (λ (b : Bool). if b then pos 0 else negsuc 0) (le-ltb (lo % 2 ^ 56) (2 ^ 55) (omega (arith, low, fits))) ∙ ap (λ (m : ℕ). negsuc m) none) (widen_high lo low fits)

read_symbol : (text : List ℕ) → length text ≤ 9 → list_all is_character text ≡ true → Reads (symbol text) (14 + text_bits 0 text * 256)
read_symbol text short all =
    let m = text_bits 0 text in
    reads (symbol text) (14 + m * 256) 14 tags.SymbolSmall (tag_of_body 14 m (omega arith)) (omega arith) refl
    (ap (λ (b : ℕ). option_map (λ t. symbol t) (text_of 9 b)) (body_is 14 m (omega arith)) ∙ ap (option_map (λ t. symbol t)) (text_read text short all))

-- ---- errors

few_types : (k : ScErrorType) → type_number k < 16
few_types types.Contract = omega arith
few_types types.WasmVm = omega arith
few_types types.Context = omega arith
few_types types.Storage = omega arith
few_types types.Object = omega arith
few_types types.Crypto = omega arith
few_types types.Events = omega arith
few_types types.Budget = omega arith
few_types types.Value = omega arith
few_types types.Auth = omega arith

error_there : (e : ScError) → error_of (kind e) (code e) ≡ Some e
error_there (errors.Contract c) = refl
error_there (errors.WasmVm c) = ap (option_map (λ k. errors.WasmVm k)) (code_there c)
error_there (errors.Context c) = ap (option_map (λ k. errors.Context k)) (code_there c)
error_there (errors.Storage c) = ap (option_map (λ k. errors.Storage k)) (code_there c)
error_there (errors.Object c) = ap (option_map (λ k. errors.Object k)) (code_there c)
error_there (errors.Crypto c) = ap (option_map (λ k. errors.Crypto k)) (code_there c)
error_there (errors.Events c) = ap (option_map (λ k. errors.Events k)) (code_there c)
error_there (errors.Budget c) = ap (option_map (λ k. errors.Budget k)) (code_there c)
error_there (errors.Value c) = ap (option_map (λ k. errors.Value k)) (code_there c)
error_there (errors.Auth c) = ap (option_map (λ k. errors.Auth k)) (code_there c)

read_error : (e : ScError) → Reads (error e) (3 + type_number (kind e) * 256 + code e * 2 ^ 32)
read_error e =
    let m = type_number (kind e) in
    let n = code e in
    let few = few_types (kind e) in
    reads (error e) (3 + m * 256 + n * 2 ^ 32) 3 tags.Error (error_tag m n few) (omega arith) refl
    (ap₂ (λ (a b : ℕ). option_map (λ x. error x) (option_and_then (λ t. error_of t b) (type_of a))) (error_minor m n few) (error_major m n few)
    ∙ ap (λ o. option_map (λ x. error x) (option_and_then (λ t. error_of t n) o)) (there (kind e))
    ∙ ap (option_map (λ x. error x)) (error_there e))

-- ---- all values

written : (d : Datum) (v w : ℕ) → Reads d v → Some v ≡ Some w → Reads d w
written d v w r e = let is : v ≡ w = cc in subst (Reads d) is r

written_if : (d : Datum) (b : Bool) (v w : ℕ) → (b ≡ true → Reads d v) → only_if b v ≡ Some w → Reads d w
written_if d true v w r e = written d v w (r refl) e
written_if d false v w r e = absurd cc

pub small_reads : (d : Datum) (w : ℕ) → IsBounded d → small_word d ≡ Some w → Reads d w
unfolding number64 signed32 signed64 i128_format
small_reads (boolean false) w h e = written (boolean false) 0 w (record { small = refl; meant = refl }) e
small_reads (boolean true) w h e = written (boolean true) 1 w (record { small = refl; meant = refl }) e
small_reads void w h e = written void 2 w (record { small = refl; meant = refl }) e
small_reads (error x) w h e = written (error x) _ w (read_error x) e
small_reads (u32 n) w h e = written (u32 n) _ w (read_u32 n) e
small_reads (i32 n) w h e = written (i32 n) _ w (read_i32 n h) e
small_reads (u64 n) w h e = written_if (u64 n) (nat_lt n (2 ^ 56)) (6 + n * 256) w (λ t. read_u64 n) e
small_reads (i64 n) w h e = written_if (i64 n) (fits56 n) (7 + cast_unsigned w64 n % 2 ^ 56 * 256) w (read_i64 n h) e
small_reads (timepoint n) w h e = written_if (timepoint n) (nat_lt n (2 ^ 56)) (8 + n * 256) w (λ t. read_timepoint n) e
small_reads (duration n) w h e = written_if (duration n) (nat_lt n (2 ^ 56)) (9 + n * 256) w (λ t. read_duration n) e
small_reads (u128 n) w h e = written_if (u128 n) ((n.hi == 0) && nat_lt n.lo (2 ^ 56)) (10 + n.lo * 256) w (λ t. read_u128 n.hi n.lo (eqb-true n.hi 0 (and_parts (n.hi == 0) (nat_lt n.lo (2 ^ 56)) t).0)) e
small_reads (i128 n) w h e = written_if (i128 n) (parts_fit56 n.hi n.lo) (11 + n.lo % 2 ^ 56 * 256) w (read_parts n.hi n.lo h.1) e
small_reads (symbol text) w h e = written_if (symbol text) (nat_le (length text) 9 && list_all is_character text) (14 + text_bits 0 text * 256) w
    (λ t. (let p = and_parts (nat_le (length text) 9) (list_all is_character text) t in read_symbol text (leb-true (length text) 9 p.0) p.1)) e
small_reads _ w h e = absurd cc
