-- Words are read as they are written (own).
use Rattle.std.specs.Prelude.{◌≡◌, ◌≤◌, ◌<◌, ◌^◌, ◌-◌, ◌⊎◌, ◌↔◌, ◌<ℤ◌, ◌≤ℤ◌, ℕ, pos, negsuc, true}
use Rattle.std.specs.Prelude.{List, ◌++◌, length, Some, is_some, slice_get, ⊤}
use Rattle.std.specs.List.{list_all}
use Rattle.value_types.specs.Datum.{Datum, boolean, void, error, u32, i32, u64, i64, timepoint, duration, u128, i128, symbol}
use Rattle.value_xdr.specs.Bytes.{IsBounded}
use Rattle.host_spec.specs.Characters.{is_character}
use Rattle.host_spec.specs.Hosted.{IsHosted}
use Rattle.host_spec.specs.Words.{meaning, object_tag, object_word, small_meaning, small_word}
use Rattle.object_store.specs.Shown.{shown_with, shown_word}

-- Whatever was shown in the frame, the small word of a value means the value.
abbrev pub SmallWordsAreRead : Type 0
SmallWordsAreRead = (shown : List Datum) (d : Datum) (w : ℕ) → IsBounded d → small_word d ≡ Some w → meaning shown w ≡ Some d

-- A word of 64 bits that means a value without naming an object is the value's small word: no other word means the value.
abbrev pub SmallWordsAreUnique : Type 0
SmallWordsAreUnique = (d : Datum) (w : ℕ) → w < 2 ^ 64 → small_meaning w ≡ Some d → small_word d ≡ Some w

-- The object's word of a value with an index means the value of that index. Types without objects have the tag 0.
abbrev pub ObjectWordsAreRead : Type 0
ObjectWordsAreRead = (shown : List Datum) (d : Datum) (k : ℕ) → 0 < object_tag d
    → slice_get shown k ≡ Some d → meaning shown (object_word d k) ≡ Some d

-- The word with which a value is shown, as its small form or else as an object, means the value, whatever is shown later.
abbrev pub ShownWordsAreRead : Type 0
ShownWordsAreRead = (shown later : List Datum) (d : Datum) → IsHosted d
    → meaning (shown_with (small_word d) d shown ++ later) (shown_word (small_word d) d (length shown)) ≡ Some d

-- ---- the ranges of small words

abbrev pub IsInSmallRange : Datum → Type 0
IsInSmallRange (boolean x) = ⊤
IsInSmallRange void = ⊤
IsInSmallRange (error e) = ⊤
IsInSmallRange (u32 n) = ⊤
IsInSmallRange (i32 n) = ⊤
IsInSmallRange (u64 n) = n < 2 ^ 56
IsInSmallRange (i64 n) = (negsuc (2 ^ 55 - 1) ≤ℤ n) × (n <ℤ pos (2 ^ 55))
IsInSmallRange (timepoint n) = n < 2 ^ 56
IsInSmallRange (duration n) = n < 2 ^ 56
IsInSmallRange (u128 n) = (n.hi ≡ 0) × (n.lo < 2 ^ 56)
-- from -2^55 to 2^55 - 1, by the two halves of the two's complement
IsInSmallRange (i128 n) = ((n.hi ≡ pos 0) × (n.lo < 2 ^ 55)) ⊎ ((n.hi ≡ negsuc 0) × (2 ^ 64 - 2 ^ 55 ≤ n.lo))
IsInSmallRange (symbol text) = (length text ≤ 9) × (list_all is_character text ≡ true)
IsInSmallRange _ = ⊥

-- A value has a small word exactly if it is in its type's range. All other types have none.
abbrev pub SmallValuesHaveRanges : Type 0
SmallValuesHaveRanges = (d : Datum) → (is_some (small_word d) ≡ true) ↔ IsInSmallRange d
