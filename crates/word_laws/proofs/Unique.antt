-- A word that means a value by its bits alone is the value's small word.
use Rattle.std.proofs.Common.{◌≡◌, ℕ, suc, ◌+◌, ◌*◌, ◌-◌, ◌%◌, ◌^◌, ◌≤◌, ◌<◌, pos, negsuc, Bool, true, false, List, length, Option, Some, None, arith, refl, sym, ap, ap₂, ◌∙◌, subst}
use Rattle.std.specs.Prelude.{◌==◌, ◌&&◌, nat_le, nat_lt, if◌then◌else◌}
use Rattle.std.specs.Int.{w32, w64, cast_signed, cast_unsigned}
use Rattle.std.specs.Option.{option_and_then, option_map}
use Rattle.std.specs.List.{list_all}
use Rattle.std.proofs.lemmas.Bool.{eqb-true, ltb-false, ltb-true, le-leb, le-ltb, lt-ltb}
use Rattle.std.proofs.lemmas.Int.{ints, of_z-to_z}
use mir.Val.{sel}
use Rattle.xdr_spec.proofs.Lemmas.{find_kind-back}
use Rattle.value_types.specs.Datum.{Datum, boolean, void, error, u32, i32, u64, i64, timepoint, duration, u128, i128, symbol}
use Rattle.value_types.specs.Error.{number as type_number, all as all_types, type_of, kind, code, code_number, code_of, all_codes}
use Rattle.value_types.specs.declared.error.ScError.{ScError}
use Rattle.value_types.specs.declared.error.ScError.TheVariants as errors
use Rattle.value_types.specs.declared.error.ScErrorCode.{ScErrorCode}
use Rattle.value_types.specs.declared.error.ScErrorType.{ScErrorType}
use Rattle.value_types.specs.declared.error.ScErrorType.TheVariants as types
use Rattle.host_spec.specs.declared.tag.Tag.{Tag}
use Rattle.host_spec.specs.declared.tag.Tag.TheVariants as tags
use Rattle.host_spec.specs.Characters.{is_character}
use Rattle.host_spec.specs.Tags.{all as all_tags, number, tag_of}
use Rattle.host_spec.specs.Words.{body, error_of, fits56, major, minor, only_if, parts_fit56, signed56, small_of, small_word, tag_bits, text_bits, text_of, upper56}
use Rattle.word_laws.specs.Laws.{SmallWordsAreUnique}
use Rattle.word_laws.proofs.Characters.{text_spelled}
use Rattle.word_laws.proofs.Small.{widened}

abbrev IsWord : Datum → ℕ → Type 0
IsWord d w = small_word d ≡ Some w

-- the value is this one, and its small word is the word
same : (d x : Datum) (w : ℕ) → Some d ≡ Some x → IsWord d w → IsWord x w
same d x w e h = let is : d ≡ x = cc in subst (λ y. IsWord y w) is h

same_if : (b : Bool) (d x : Datum) (w : ℕ) → only_if b d ≡ Some x → (b ≡ true → IsWord d w) → IsWord x w
same_if true d x w e h = same d x w e (h refl)
same_if false d x w e h = absurd cc

-- a word of these parts
by_body : (t w : ℕ) → tag_bits w ≡ t → t + body w * 256 ≡ w
by_body t w is = omega (arith, is)

by_major : (t w : ℕ) → tag_bits w ≡ t → (minor w == 0) ≡ true → t + major w * 2 ^ 32 ≡ w
by_major t w is none = omega (arith, is, eqb-true (minor w) 0 none)

by_parts : (t w : ℕ) → tag_bits w ≡ t → t + minor w * 256 + major w * 2 ^ 32 ≡ w
by_parts t w is = omega (arith, is)

by_tag : (t w : ℕ) → tag_bits w ≡ t → (body w == 0) ≡ true → t ≡ w
by_tag t w is none = omega (arith, is, eqb-true (body w) 0 none)

body_below : (w : ℕ) → w < 2 ^ 64 → body w < 2 ^ 56
body_below w lt = omega (arith, lt)

major_below : (w : ℕ) → w < 2 ^ 64 → major w < 2 ^ 32
major_below w lt = omega (arith, lt)

some : (n w : ℕ) → n ≡ w → Some n ≡ Some w
some n w e = ap (λ (m : ℕ). Some m) e

passes : (b : Bool) (n w : ℕ) → b ≡ true → n ≡ w → only_if b n ≡ Some w
passes b n w t e = ap₂ (λ (c : Bool) (m : ℕ). only_if c m) t e

-- ---- numbers of 56 bits

-- the number that the bits say has these 64 bits, and fits
record Holds (b : ℕ) : Type 0 where
  below : widened b < 2 ^ 64
  back : widened b % 2 ^ 56 ≡ b
  fits : fits56 (signed56 b) ≡ true
  parts : parts_fit56 (upper56 b) (widened b) ≡ true

by_sign : (b : ℕ) → b < 2 ^ 56 → (s : Bool) → nat_lt b (2 ^ 55) ≡ s → Holds b
by_sign b lt true s =
    let low : b < 2 ^ 55 = ltb-true b (2 ^ 55) s in
    let wide : widened b ≡ b = ap (λ (c : Bool). if c then b else b + (2 ^ 64 - 2 ^ 56)) s in
    let signed : cast_signed w64 b ≡ pos b = omega (arith, ints, low) in
    record {
      below = omega (arith, wide, low);
      back = ap (λ (n : ℕ). n % 2 ^ 56) wide ∙ (let small : b % 2 ^ 56 ≡ b = omega (arith, low) in small);
      fits = ap (λ (n : ℕ). fits56 (cast_signed w64 n)) wide ∙ ap fits56 signed ∙ lt-ltb b (2 ^ 55) low;
      parts = ap₂ (λ (c : Bool) (n : ℕ). parts_fit56 (if c then pos 0 else negsuc 0) n) s wide ∙ lt-ltb b (2 ^ 55) low;
    }
by_sign b lt false s =
    let high : 2 ^ 55 ≤ b = ltb-false b (2 ^ 55) s in
    let n = b + (2 ^ 64 - 2 ^ 56) in
    let wide : widened b ≡ n = ap (λ (c : Bool). if c then b else n) s in
    let top : 2 ^ 63 ≤ n = omega (arith, high) in
    let signed : cast_signed w64 n ≡ negsuc (2 ^ 64 - suc n) = ap (λ (c : Bool). sel c (pos n) (negsuc (2 ^ 64 - suc n))) (le-ltb n (2 ^ 63) top) in
    record {
      below = omega (arith, wide, lt);
      back = ap (λ (n : ℕ). n % 2 ^ 56) wide ∙ (let small : n % 2 ^ 56 ≡ b = omega (arith, high, lt) in small);
      fits = ap (λ (n : ℕ). fits56 (cast_signed w64 n)) wide ∙ ap fits56 signed ∙ ap (λ (c : Bool). c && true) (le-leb (2 ^ 64 - suc n) (2 ^ 55 - 1) (omega (arith, high, lt)));
      parts = ap₂ (λ (c : Bool) (m : ℕ). parts_fit56 (if c then pos 0 else negsuc 0) m) s wide ∙ le-leb (2 ^ 64 - 2 ^ 55) n (omega (arith, high));
    }

holds : (b : ℕ) → b < 2 ^ 56 → Holds b
holds b lt = by_sign b lt (nat_lt b (2 ^ 55)) refl

-- ---- errors

mapped : {A : Type 0} (f : A → ScError) (o : Option A) (x : ScError) → option_map f o ≡ Some x → (a : A) × (o ≡ Some a) × (f a ≡ x)
mapped f None x e = absurd cc
mapped f (Some a) x e = (a, refl, cc)

record Parts (k : ScErrorType) (c : ℕ) (x : ScError) : Type 0 where
  kind_is : kind x ≡ k
  code_is : code x ≡ c

coded : (f : ScErrorCode → ScError) (k : ScErrorType) (c : ℕ) (x : ScError) → ((j : ScErrorCode) → (kind (f j) ≡ k) × (code (f j) ≡ code_number j)) → option_map f (code_of c) ≡ Some x → Parts k c x
coded f k c x each e =
    let h = mapped f (code_of c) x e in
    let number : code_number h.0 ≡ c = find_kind-back code_number all_codes c h.0 h.1 in
    record {
      kind_is = sym (ap kind h.2) ∙ (each h.0).0;
      code_is = sym (ap code h.2) ∙ (each h.0).1 ∙ number;
    }

parts_of : (k : ScErrorType) (c : ℕ) (x : ScError) → error_of k c ≡ Some x → Parts k c x
parts_of types.Contract c x e = let is : errors.Contract c ≡ x = cc in subst (Parts types.Contract c) is (record { kind_is = refl; code_is = refl })
parts_of types.WasmVm c x e = coded (λ j. errors.WasmVm j) types.WasmVm c x (λ j. (refl, refl)) e
parts_of types.Context c x e = coded (λ j. errors.Context j) types.Context c x (λ j. (refl, refl)) e
parts_of types.Storage c x e = coded (λ j. errors.Storage j) types.Storage c x (λ j. (refl, refl)) e
parts_of types.Object c x e = coded (λ j. errors.Object j) types.Object c x (λ j. (refl, refl)) e
parts_of types.Crypto c x e = coded (λ j. errors.Crypto j) types.Crypto c x (λ j. (refl, refl)) e
parts_of types.Events c x e = coded (λ j. errors.Events j) types.Events c x (λ j. (refl, refl)) e
parts_of types.Budget c x e = coded (λ j. errors.Budget j) types.Budget c x (λ j. (refl, refl)) e
parts_of types.Value c x e = coded (λ j. errors.Value j) types.Value c x (λ j. (refl, refl)) e
parts_of types.Auth c x e = coded (λ j. errors.Auth j) types.Auth c x (λ j. (refl, refl)) e

error_word : (w : ℕ) (k : ScErrorType) (x : ScError) → tag_bits w ≡ 3 → type_of (minor w) ≡ Some k → error_of k (major w) ≡ Some x → IsWord (error x) w
error_word w k x is of_type of_code =
    let p = parts_of k (major w) x of_code in
    let number : type_number (kind x) ≡ minor w = ap type_number p.kind_is ∙ find_kind-back type_number all_types (minor w) k of_type in
    some (3 + type_number (kind x) * 256 + code x * 2 ^ 32) w (ap₂ (λ (m c : ℕ). 3 + m * 256 + c * 2 ^ 32) number p.code_is ∙ by_parts 3 w is)

by_code : (d : Datum) (w : ℕ) (k : ScErrorType) (p : Option ScError) → tag_bits w ≡ 3 → type_of (minor w) ≡ Some k → error_of k (major w) ≡ p → option_map (λ x. error x) p ≡ Some d → IsWord d w
by_code d w k None is of_type of_code e = absurd cc
by_code d w k (Some x) is of_type of_code e = same (error x) d w e (error_word w k x is of_type of_code)

by_error : (d : Datum) (w : ℕ) (o : Option ScErrorType) → tag_bits w ≡ 3 → type_of (minor w) ≡ o → option_map (λ x. error x) (option_and_then (λ t. error_of t (major w)) o) ≡ Some d → IsWord d w
by_error d w None is of_type e = absurd cc
by_error d w (Some k) is of_type e = by_code d w k (error_of k (major w)) is of_type refl e

-- ---- all words

by_text : (d : Datum) (w : ℕ) (o : Option (List ℕ)) → tag_bits w ≡ 14 → text_of 9 (body w) ≡ o → option_map (λ text. symbol text) o ≡ Some d → IsWord d w
by_text d w None is said e = absurd cc
by_text d w (Some text) is said e =
    let h = text_spelled 9 (body w) text said in
    same (symbol text) d w e
    (passes (nat_le (length text) 9 && list_all is_character text) (14 + text_bits 0 text * 256) w
    (ap₂ (λ (a b : Bool). a && b) (le-leb (length text) 9 h.short) h.characters)
    (ap (λ (n : ℕ). 14 + n * 256) h.bits_are ∙ by_body 14 w is))

by_kind : (t : Tag) (d : Datum) (w : ℕ) → w < 2 ^ 64 → tag_bits w ≡ number t → small_of t w ≡ Some d → IsWord d w
by_kind tags.False d w lt is e = same_if (body w == 0) (boolean false) d w e (λ none. some 0 w (by_tag 0 w is none))
by_kind tags.True d w lt is e = same_if (body w == 0) (boolean true) d w e (λ none. some 1 w (by_tag 1 w is none))
by_kind tags.Void d w lt is e = same_if (body w == 0) void d w e (λ none. some 2 w (by_tag 2 w is none))
by_kind tags.Error d w lt is e = by_error d w (type_of (minor w)) is refl e
by_kind tags.U32 d w lt is e = same_if (minor w == 0) (u32 (major w)) d w e (λ none. some (4 + major w * 2 ^ 32) w (by_major 4 w is none))
by_kind tags.I32 d w lt is e =
    same_if (minor w == 0) (i32 (cast_signed w32 (major w))) d w e
    (λ none. some (5 + cast_unsigned w32 (cast_signed w32 (major w)) * 2 ^ 32) w (ap (λ (n : ℕ). 5 + n * 2 ^ 32) (of_z-to_z w32 (major w) (major_below w lt)) ∙ by_major 5 w is none))
by_kind tags.U64Small d w lt is e = same (u64 (body w)) d w e (passes (nat_lt (body w) (2 ^ 56)) (6 + body w * 256) w (lt-ltb (body w) (2 ^ 56) (body_below w lt)) (by_body 6 w is))
by_kind tags.I64Small d w lt is e =
    let h = holds (body w) (body_below w lt) in
    let bits : cast_unsigned w64 (signed56 (body w)) ≡ widened (body w) = of_z-to_z w64 (widened (body w)) h.below in
    same (i64 (signed56 (body w))) d w e
    (passes (fits56 (signed56 (body w))) (7 + cast_unsigned w64 (signed56 (body w)) % 2 ^ 56 * 256) w h.fits
    (ap (λ (n : ℕ). 7 + n % 2 ^ 56 * 256) bits ∙ ap (λ (n : ℕ). 7 + n * 256) h.back ∙ by_body 7 w is))
by_kind tags.TimepointSmall d w lt is e = same (timepoint (body w)) d w e (passes (nat_lt (body w) (2 ^ 56)) (8 + body w * 256) w (lt-ltb (body w) (2 ^ 56) (body_below w lt)) (by_body 8 w is))
by_kind tags.DurationSmall d w lt is e = same (duration (body w)) d w e (passes (nat_lt (body w) (2 ^ 56)) (9 + body w * 256) w (lt-ltb (body w) (2 ^ 56) (body_below w lt)) (by_body 9 w is))
by_kind tags.U128Small d w lt is e =
    same (u128 (record { hi = 0; lo = body w })) d w e
    (passes ((0 == 0) && nat_lt (body w) (2 ^ 56)) (10 + body w * 256) w (lt-ltb (body w) (2 ^ 56) (body_below w lt)) (by_body 10 w is))
by_kind tags.I128Small d w lt is e =
    let h = holds (body w) (body_below w lt) in
    let low = cast_unsigned w64 (signed56 (body w)) in
    let bits : low ≡ widened (body w) = of_z-to_z w64 (widened (body w)) h.below in
    same (i128 (record { hi = upper56 (body w); lo = low })) d w e
    (passes (parts_fit56 (upper56 (body w)) low) (11 + low % 2 ^ 56 * 256) w
    (ap (λ (n : ℕ). parts_fit56 (upper56 (body w)) n) bits ∙ h.parts)
    (ap (λ (n : ℕ). 11 + n % 2 ^ 56 * 256) bits ∙ ap (λ (n : ℕ). 11 + n * 256) h.back ∙ by_body 11 w is))
by_kind tags.SymbolSmall d w lt is e = by_text d w (text_of 9 (body w)) is refl e
by_kind _ d w lt is e = absurd cc

by_number : (d : Datum) (w : ℕ) (o : Option Tag) → w < 2 ^ 64 → tag_of (tag_bits w) ≡ o → option_and_then (λ t. small_of t w) o ≡ Some d → IsWord d w
by_number d w None lt named e = absurd cc
by_number d w (Some t) lt named e = by_kind t d w lt (sym (find_kind-back number all_tags (tag_bits w) t named)) e

pub unique : SmallWordsAreUnique
unique d w lt e = by_number d w (tag_of (tag_bits w)) lt refl e
