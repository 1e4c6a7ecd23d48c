-- The value of a small form is one that the host holds.
use Rattle.std.proofs.Common.{◌≡◌, ◌≤◌, ◌<◌, ◌+◌, ◌-◌, ◌++◌, ◌/◌, ◌%◌, ◌==◌, ℕ, zero, suc, List, [], ◌∷◌, Option, Some, None, Bool, length, nat_le, true, false, refl, ap, ◌∙◌, arith, length-append}
use Rattle.std.specs.Prelude.{if◌then◌else◌, ◌&&◌}
use Rattle.std.specs.List.{list_all}
use Rattle.std.specs.Option.{option_map}
use Rattle.value_types.specs.Error.{error_format, type_format, code_format}
use Rattle.value_types.specs.Datum.{Datum, boolean, void, error, u32, i32, u64, i64, timepoint, duration, u128, i128, symbol, vec, map, instance}
use Rattle.xdr_spec.specs.Format.{boolean as boolean_format, number32, number64, signed32, signed64, opaque, zeros, pad, IsBytes}
use Rattle.value_types.specs.Numbers.{u128_format, i128_format}
use Rattle.value_types.specs.Depth.{depth_of}
use Rattle.value_types.specs.declared.error.ScErrorCode.{ScErrorCode}
use Rattle.value_types.specs.declared.error.ScErrorCode.TheVariants as codes
use Rattle.value_types.specs.declared.error.ScError.{ScError}
use Rattle.value_types.specs.declared.error.ScError.TheVariants as errors
use Rattle.value_xdr.specs.Bytes.{IsBounded}
use Rattle.tagged_val.specs.Scalars.{is_scalar}
use Rattle.host_spec.specs.declared.tag.Tag.TheVariants as tags
use Rattle.host_spec.specs.Tags.{tag_of}
use Rattle.host_spec.specs.Characters.{between, character_of, is_character}
use Rattle.host_spec.specs.Words.{small_meaning, tag_bits, body, text_of, ended_by, only_if}
use Rattle.host_spec.specs.Hosted.{IsHosted, size_of, has_host_types, is_well_formed}

-- ---- scalars

code_size : (c : ScErrorCode) → length (code_format.spell c) ≤ 4
unfolding code_format
code_size codes.ArithDomain = omega arith
code_size codes.IndexBounds = omega arith
code_size codes.InvalidInput = omega arith
code_size codes.MissingValue = omega arith
code_size codes.ExistingValue = omega arith
code_size codes.ExceededLimit = omega arith
code_size codes.InvalidAction = omega arith
code_size codes.InternalError = omega arith
code_size codes.UnexpectedType = omega arith
code_size codes.UnexpectedSize = omega arith

error_size : (x : ScError) → length (error_format.spell x) ≤ 8
unfolding error_format type_format number32
error_size (errors.Contract c) = omega arith
error_size (errors.WasmVm c) = omega (arith, code_size c)
error_size (errors.Context c) = omega (arith, code_size c)
error_size (errors.Storage c) = omega (arith, code_size c)
error_size (errors.Object c) = omega (arith, code_size c)
error_size (errors.Crypto c) = omega (arith, code_size c)
error_size (errors.Events c) = omega (arith, code_size c)
error_size (errors.Budget c) = omega (arith, code_size c)
error_size (errors.Value c) = omega (arith, code_size c)
error_size (errors.Auth c) = omega (arith, code_size c)

scalar_size : (d : Datum) → is_scalar d ≡ true → size_of d ≤ 60
unfolding size_of boolean_format number32 number64 signed32 signed64 u128_format i128_format
scalar_size (boolean true) e = omega arith
scalar_size (boolean false) e = omega arith
scalar_size (error x) e = omega (arith, error_size x)
scalar_size void e = omega arith
scalar_size (u32 x) e = omega arith
scalar_size (i32 x) e = omega arith
scalar_size (u64 x) e = omega arith
scalar_size (i64 x) e = omega arith
scalar_size (timepoint x) e = omega arith
scalar_size (duration x) e = omega arith
scalar_size (u128 x) e = omega arith
scalar_size (i128 x) e = omega arith
scalar_size _ e = absurd cc

scalar_depth : (d : Datum) → is_scalar d ≡ true → depth_of d ≤ 100
scalar_depth (vec x) e = absurd cc
scalar_depth (map x) e = absurd cc
scalar_depth (instance x y) e = absurd cc
scalar_depth _ e = omega arith

scalar_types : (d : Datum) → is_scalar d ≡ true → has_host_types d ≡ true
scalar_types (boolean x) e = refl
scalar_types (error x) e = refl
scalar_types void e = refl
scalar_types (u32 x) e = refl
scalar_types (i32 x) e = refl
scalar_types (u64 x) e = refl
scalar_types (i64 x) e = refl
scalar_types (timepoint x) e = refl
scalar_types (duration x) e = refl
scalar_types (u128 x) e = refl
scalar_types (i128 x) e = refl
scalar_types _ e = absurd cc

scalar_formed : (d : Datum) → is_scalar d ≡ true → is_well_formed d ≡ true
scalar_formed (boolean x) e = refl
scalar_formed (error x) e = refl
scalar_formed void e = refl
scalar_formed (u32 x) e = refl
scalar_formed (i32 x) e = refl
scalar_formed (u64 x) e = refl
scalar_formed (i64 x) e = refl
scalar_formed (timepoint x) e = refl
scalar_formed (duration x) e = refl
scalar_formed (u128 x) e = refl
scalar_formed (i128 x) e = refl
scalar_formed _ e = absurd cc

pub scalar_hosted : (d : Datum) → is_scalar d ≡ true → IsBounded d → IsHosted d
scalar_hosted d e h = record {
  made = record { bounded = h; types = scalar_types d e; formed = scalar_formed d e };
  sized = omega (arith, scalar_size d e);
  shallow = scalar_depth d e;
}

-- ---- characters

not_equal : (c n : ℕ) → (c ≡ n → ⊥) → (c == n) ≡ false
not_equal c n ne = grind arith

le_true : (a b : ℕ) → a ≤ b → nat_le a b ≡ true
le_true a b h = grind arith

le_false : (a b : ℕ) → b < a → nat_le a b ≡ false
le_false a b h = grind arith

of_le : (a b : ℕ) → nat_le a b ≡ true → a ≤ b
of_le a b h = grind arith

digit : (c : ℕ) → 48 ≤ c → c ≤ 57 → is_character c ≡ true
digit c h k = rw (not_equal c 95 (λ e. omega arith), le_true 48 c h, le_true c 57 k) refl

upper : (c : ℕ) → 65 ≤ c → c ≤ 90 → is_character c ≡ true
upper c h k = rw (not_equal c 95 (λ e. omega arith), le_true 48 c (omega arith), le_false c 57 (omega arith), le_true 65 c h, le_true c 90 k) refl

lower : (c : ℕ) → 97 ≤ c → c ≤ 122 → is_character c ≡ true
lower c h k = rw (not_equal c 95 (λ e. omega arith), le_true 48 c (omega arith), le_false c 57 (omega arith), le_true 65 c (omega arith), le_false c 90 (omega arith), le_true 97 c h, le_true c 122 k) refl

within : (low high n : ℕ) → between low high n ≡ true → (low ≤ n) × (n ≤ high)
within low high n h = within_by (nat_le low n) refl h where
  within_by : (b : Bool) → nat_le low n ≡ b → (if b then nat_le n high else false) ≡ true → (low ≤ n) × (n ≤ high)
  within_by true e k = (of_le low n e, of_le n high k)
  within_by false e k = absurd cc

character_is : (n c : ℕ) → character_of n ≡ Some c → is_character c ≡ true
character_is n c h = first (n == 1) (between 2 11 n) (between 12 37 n) (between 38 63 n) refl refl refl h where
  first : (a b d e : Bool) → between 2 11 n ≡ b → between 12 37 n ≡ d → between 38 63 n ≡ e
      → (if a then Some 95 else if b then Some (48 + (n - 2)) else if d then Some (65 + (n - 12)) else if e then Some (97 + (n - 38)) else None) ≡ Some c → is_character c ≡ true
  first true b d e p q r h = let is : 95 ≡ c = cc in rw (← is) refl
  first false true d e p q r h = let is : 48 + (n - 2) ≡ c = cc in let w = within 2 11 n p in digit c (omega (arith, w.0, w.1)) (omega (arith, w.0, w.1))
  first false false true e p q r h = let is : 65 + (n - 12) ≡ c = cc in let w = within 12 37 n q in upper c (omega (arith, w.0, w.1)) (omega (arith, w.0, w.1))
  first false false false true p q r h = let is : 97 + (n - 38) ≡ c = cc in let w = within 38 63 n r in lower c (omega (arith, w.0, w.1)) (omega (arith, w.0, w.1))
  first false false false false p q r h = absurd cc

no_character : (c : ℕ) → 256 ≤ c → is_character c ≡ false
no_character c h =
    rw (not_equal c 95 (λ e. omega arith), le_true 48 c (omega arith), le_false c 57 (omega arith), le_true 65 c (omega arith), le_false c 90 (omega arith), le_true 97 c (omega arith), le_false c 122 (omega arith)) refl

character_below : (c : ℕ) → is_character c ≡ true → c < 256
character_below c h = below_by (nat_le 256 c) refl where
  below_by : (b : Bool) → nat_le 256 c ≡ b → c < 256
  below_by true e = let no = no_character c (of_le 256 c e) in absurd cc
  below_by false e = grind arith

-- ---- texts

-- both of a test
first_of : (a b : Bool) → a && b ≡ true → a ≡ true
first_of true b h = refl
first_of false b h = absurd cc

second_of : (a b : Bool) → a && b ≡ true → b ≡ true
second_of true b h = h
second_of false b h = absurd cc

both_of : (a b : Bool) → a ≡ true → b ≡ true → a && b ≡ true
both_of a b h k = rw (h, k) refl

all_more : (text : List ℕ) (c : ℕ) → list_all is_character text ≡ true → is_character c ≡ true → list_all is_character (text ++ c ∷ []) ≡ true
all_more [] c h k = rw k refl
all_more (x ∷ text) c h k = both_of (is_character x) (list_all is_character (text ++ c ∷ [])) (first_of (is_character x) (list_all is_character text) h) (all_more text c (second_of (is_character x) (list_all is_character text) h) k)

abbrev IsText : ℕ → List ℕ → Type 0
IsText n text = (length text ≤ n) × (list_all is_character text ≡ true)

text_none : (b : Bool) (text : List ℕ) → only_if b [] ≡ Some text → IsText 0 text
text_none true text e = let is : [] ≡ text = cc in rw (← is) (omega arith, refl)
text_none false text e = absurd cc

text_last : (n bits : ℕ) (text : List ℕ) (o : Option (List ℕ)) (p : Option ℕ) → ((t : List ℕ) → o ≡ Some t → IsText n t) → character_of (bits % 64) ≡ p → ended_by o p ≡ Some text → IsText (suc n) text
text_last n bits text None p before f g = absurd cc
text_last n bits text (Some front) None before f g = absurd cc
text_last n bits text (Some front) (Some c) before f g =
    let is : front ++ c ∷ [] ≡ text = cc in
    let b = before front refl in
    rw (← is) (omega (arith, b.0, length-append front (c ∷ [])), all_more front c b.1 (character_is (bits % 64) c f))

text_some : (b : Bool) (n bits : ℕ) (text : List ℕ) → ((t : List ℕ) → text_of n (bits / 64) ≡ Some t → IsText n t)
    → (if b then Some [] else ended_by (text_of n (bits / 64)) (character_of (bits % 64))) ≡ Some text → IsText (suc n) text
text_some true n bits text before g = let is : [] ≡ text = cc in rw (← is) (omega arith, refl)
text_some false n bits text before g = text_last n bits text (text_of n (bits / 64)) (character_of (bits % 64)) before refl g

text_is : (n bits : ℕ) (text : List ℕ) → text_of n bits ≡ Some text → IsText n text
text_is zero bits text h = text_none (bits == 0) text h
text_is (suc n) bits text h = text_some (bits == 0) n bits text (λ t e. text_is n (bits / 64) t e) h

pub characters_are_bytes : (text : List ℕ) → list_all is_character text ≡ true → IsBytes text
characters_are_bytes [] h i = omega arith
characters_are_bytes (x ∷ text) h zero = character_below x (first_of (is_character x) (list_all is_character text) h)
characters_are_bytes (x ∷ text) h (suc i) = characters_are_bytes text (second_of (is_character x) (list_all is_character text) h) i

zeros_length : (n : ℕ) → length (zeros n) ≡ n
zeros_length zero = refl
zeros_length (suc n) = ap suc (zeros_length n)

pad_small : (n : ℕ) → pad n ≤ 3
pad_small n = omega arith

symbol_made_size : (text : List ℕ) → length text ≤ 9 → size_of (symbol text) ≤ 16777216
unfolding size_of opaque
symbol_made_size text h = omega (arith, length-append text (zeros (pad (length text))), zeros_length (pad (length text)), pad_small (length text))

pub text_hosted : (text : List ℕ) → length text ≤ 9 → list_all is_character text ≡ true → IsHosted (symbol text)
unfolding opaque
text_hosted text h k = record {
  made = record { bounded = (omega arith, omega arith, characters_are_bytes text k); types = refl; formed = rw (le_true (length text) 32 (omega arith), k) refl };
  sized = symbol_made_size text h;
  shallow = omega arith;
}

-- a small symbol is a text of at most 9 characters
meant : (w : ℕ) (text : List ℕ) (o : Option (List ℕ)) → text_of 9 (body w) ≡ o → option_map (λ t. symbol t) o ≡ Some (symbol text) → text_of 9 (body w) ≡ Some text
meant w text None e h = absurd cc
meant w text (Some t) e h = let same : symbol t ≡ symbol text = cc in let is : t ≡ text = cc in e ∙ ap (λ (x : List ℕ). Some x) is

pub symbol_hosted : (w : ℕ) (text : List ℕ) → tag_of (tag_bits w) ≡ Some tags.SymbolSmall → small_meaning w ≡ Some (symbol text) → IsHosted (symbol text)
symbol_hosted w text e h =
    let of_tag : option_map (λ t. symbol t) (text_of 9 (body w)) ≡ Some (symbol text) = rw e at h in
    let is = text_is 9 (body w) text (meant w text (text_of 9 (body w)) refl of_tag) in
    text_hosted text is.0 is.1
