-- What is shown is read back.
use Rattle.std.proofs.Common.{◌≡◌, ℕ, ◌*◌, ◌/◌, ◌%◌, ◌≤◌, ◌<◌, Bool, true, List, [], ◌∷◌, ◌++◌, length, Option, Some, None, arith, refl, ap, ap₂, ◌∙◌}
use Rattle.std.specs.Prelude.{◌==◌, ◌&&◌, nat_le, slice_get, if◌then◌else◌}
use Rattle.std.proofs.lemmas.Bool.{eq-eqb, le-leb}
use Rattle.value_types.specs.Datum.{Datum, u64, i64, timepoint, duration, u128, i128, bytes, string, symbol, vec, map, address}
use Rattle.value_types.specs.declared.address.ScAddress.{ScAddress}
use Rattle.value_types.specs.declared.address.ScAddress.TheVariants as addresses
use Rattle.host_spec.specs.Addresses.{address_tag}
use Rattle.host_spec.specs.Hosted.{IsHosted}
use Rattle.host_spec.specs.Words.{is_object, meaning, object_of, object_tag, object_word, only_if, small_meaning, small_word, tag_bits, with_tag}
use Rattle.object_store.specs.Shown.{shown_with, shown_word}
use Rattle.object_store.proofs.Lemmas.{object_has_tag}
use Rattle.word_laws.specs.Laws.{ObjectWordsAreRead, ShownWordsAreRead, SmallWordsAreRead}
use Rattle.word_laws.proofs.Small.{major_is, minor_is, small_reads, tag_of_major}

pub small_read : SmallWordsAreRead
unfolding meaning
small_read shown d w bounded e = let r = small_reads d w bounded e in ap (λ (b : Bool). if b then object_of shown w else small_meaning w) r.small ∙ r.meant

-- ---- objects

-- a tag of objects that is in use
pub record IsTag (t : ℕ) : Type 0 where
  pub low : 64 ≤ t
  pub high : t ≤ 78

address_in_use : (x : ScAddress) → 0 < address_tag x → IsTag (address_tag x)
address_in_use (addresses.Account x) h = record { low = omega arith; high = omega arith }
address_in_use (addresses.Contract x) h = record { low = omega arith; high = omega arith }
address_in_use (addresses.MuxedAccount id ed25519) h = record { low = omega arith; high = omega arith }
address_in_use (addresses.ClaimableBalance x) h = absurd (omega (arith, h))
address_in_use (addresses.LiquidityPool x) h = absurd (omega (arith, h))

in_use : (d : Datum) → 0 < object_tag d → IsTag (object_tag d)
in_use (u64 x) h = record { low = omega arith; high = omega arith }
in_use (i64 x) h = record { low = omega arith; high = omega arith }
in_use (timepoint x) h = record { low = omega arith; high = omega arith }
in_use (duration x) h = record { low = omega arith; high = omega arith }
in_use (u128 x) h = record { low = omega arith; high = omega arith }
in_use (i128 x) h = record { low = omega arith; high = omega arith }
in_use (bytes x) h = record { low = omega arith; high = omega arith }
in_use (string x) h = record { low = omega arith; high = omega arith }
in_use (symbol x) h = record { low = omega arith; high = omega arith }
in_use (vec x) h = record { low = omega arith; high = omega arith }
in_use (map x) h = record { low = omega arith; high = omega arith }
in_use (address x) h = address_in_use x h
in_use _ h = absurd (omega (arith, h))

named : (shown : List Datum) (d : Datum) (k : ℕ) → IsTag (object_tag d) → slice_get shown k ≡ Some d → object_of shown (object_word d k) ≡ Some d
named shown d k tag at =
    let t = object_tag d in
    let w = object_word d k in
    let byte : t < 256 = omega (arith, tag.high) in
    let even : 2 * k % 2 ≡ 0 = omega arith in
    let half : 2 * k / 2 ≡ k = omega arith in
    ap₂ (λ (m n : ℕ). if (m == 0) && (n % 2 == 0) then with_tag (tag_bits w) (slice_get shown (n / 2)) else None) (minor_is t (2 * k) byte) (major_is t (2 * k) byte)
    ∙ ap₂ (λ (r h : ℕ). if r == 0 then with_tag (tag_bits w) (slice_get shown h) else None) even half
    ∙ ap₂ with_tag (tag_of_major t (2 * k) byte) at
    ∙ ap (λ (b : Bool). only_if b d) (eq-eqb t t refl)

pub object_read : ObjectWordsAreRead
unfolding meaning
object_read shown d k some at =
    let t = object_tag d in
    let w = object_word d k in
    let tag = in_use d some in
    let is : is_object w ≡ true =
    ap (λ (n : ℕ). nat_le 64 n && nat_le n 78) (tag_of_major t (2 * k) (omega (arith, tag.high)))
    ∙ ap₂ (λ (a b : Bool). a && b) (le-leb 64 t tag.low) (le-leb t 78 tag.high) in
    ap (λ (b : Bool). if b then object_of shown w else small_meaning w) is ∙ named shown d k tag at

-- ---- what is shown

next : (shown later : List Datum) (d : Datum) → slice_get ((shown ++ d ∷ []) ++ later) (length shown) ≡ Some d
next [] later d = refl
next (x ∷ shown) later d = next shown later d

shown_by : (shown later : List Datum) (d : Datum) (o : Option ℕ) → IsHosted d → small_word d ≡ o → meaning (shown_with o d shown ++ later) (shown_word o d (length shown)) ≡ Some d
shown_by shown later d None hosted e = object_read ((shown ++ d ∷ []) ++ later) d (length shown) (object_has_tag d hosted e) (next shown later d)
shown_by shown later d (Some w) hosted e = small_read (shown ++ later) d w hosted.made.bounded e

pub shown_read : ShownWordsAreRead
shown_read shown later d hosted = shown_by shown later d (small_word d) hosted refl
