-- The size and the depth of an instance after a put.
use Rattle.std.proofs.Common.{◌≡◌, ℕ, zero, suc, ◌+◌, ◌-◌, ◌<◌, ◌≤◌, max, Bool, true, ◌&&◌, nat_le, List, [], ◌∷◌, length, ◌++◌, slice_index_or, refl, sym, ap, arith, length-append, ◌∙◌}
use Rattle.std.specs.List.{insert, remove}
use Rattle.std.proofs.Math.ListN.{set}
use Rattle.std.proofs.lemmas.Bool.Decides.{nat_tests}
use Rattle.value_types.specs.Datum.{map, members_of}
use Rattle.value_types.specs.Depth.{depth_of, members_depth}
use Rattle.value_types.specs.Executable.{executable_format, type_format}
use Rattle.value_types.specs.Hash.{hash_format}
use Rattle.value_types.specs.Views.{datum_pair, datum_pairs}
use Rattle.value_types.specs.declared.hash.Hash.{Hash}
use Rattle.value_types.specs.declared.value.Entry.{Entry}
use Rattle.value_types.specs.declared.executable.Executable.TheVariants.{Wasm}
use Rattle.value_xdr.specs.Bytes.{bytes_of, members_bytes}
use Rattle.xdr_core.specs.Sizes.{capped}
use Rattle.host_spec.specs.Hosted.{IsHosted, size_of, is_within_limits}
use Rattle.host_spec.specs.MapRows.{Member, put}
use Rattle.host_frame.specs.KeyIndex.{IsThere, IsGap}
use Rattle.instance_storage.specs.Held.{members_size, pair_size, instance_with}
use Rattle.instance_storage.proofs.KeyLaws.{put_gap, put_there}

-- ---- sizes

pub grown_is : (n k v : ℕ) → capped (n + capped (capped k + capped v)) ≡ capped (n + (k + v))
unfolding capped
grown_is n k v = omega arith

size_more : (m : Member) (ms : List Member) → members_size (m ∷ ms) ≡ pair_size m + members_size ms
size_more m ms = omega (arith, length-append (bytes_of m.0 ++ bytes_of m.1) (members_bytes (members_of ms)), length-append (bytes_of m.0) (bytes_of m.1))

-- the size with a member over another one
size_set : (ms : List Member) (i : ℕ) (m : Member) → i < length ms → members_size (set ms i m) ≡ members_size (remove ms i) + pair_size m
size_set [] i m lt = absurd (omega arith)
size_set (x ∷ ms) zero m lt = omega (arith, size_more m ms)
size_set (x ∷ ms) (suc i) m lt = omega (arith, size_more x (set ms i m), size_more x (remove ms i), size_set ms i m (omega arith))

-- the size with one more member
size_insert : (ms : List Member) (i : ℕ) (m : Member) → i ≤ length ms → members_size (insert ms i m) ≡ members_size ms + pair_size m
size_insert [] zero m le = omega (arith, size_more m [])
size_insert [] (suc i) m le = absurd (omega arith)
size_insert (x ∷ ms) zero m le = omega (arith, size_more m (x ∷ ms))
size_insert (x ∷ ms) (suc i) m le = omega (arith, size_more x (insert ms i m), size_more x ms, size_insert ms i m (omega arith))

-- the size without a member
pub size_remove : (ms : List Member) (i : ℕ) (x : Member) → i < length ms → x ≡ slice_index_or ms i x → pair_size x + members_size (remove ms i) ≡ members_size ms
size_remove [] i x lt is = absurd (omega arith)
size_remove (y ∷ ms) zero x lt is = omega (arith, size_more y ms, ap pair_size is)
size_remove (y ∷ ms) (suc i) x lt is = omega (arith, size_more y (remove ms i), size_more y ms, size_remove ms i x (omega arith) is)

-- the size of a member, as the program measures it
pub size_here : (ms : List Member) (i : ℕ) (x : Member) (n : ℕ) → i < length ms → x ≡ slice_index_or ms i x → IsHosted (map (members_of ms)) → n ≡ capped (0 + pair_size x)
    → n + members_size (remove ms i) ≡ members_size ms
unfolding size_of capped
size_here ms i x n lt is hosted h = omega (arith, h, hosted.sized, size_remove ms i x lt is)

pub pair_at : (es : List Entry) (ms : List Member) (i : ℕ) (e : Entry) → datum_pairs es ≡ ms → e ≡ slice_index_or es i e → datum_pair e ≡ slice_index_or ms i (datum_pair e)
pair_at es ms i e same is = ap datum_pair is ∙ each es i e ∙ ap (λ (xs : List Member). slice_index_or xs i (datum_pair e)) same
  where
    each : (es : List Entry) (i : ℕ) (e : Entry) → datum_pair (slice_index_or es i e) ≡ slice_index_or (datum_pairs es) i (datum_pair e)
    each [] i e = refl
    each (x ∷ es) zero e = refl
    each (x ∷ es) (suc i) e = each es i e

-- the size of a map
pub map_size : (ms : List Member) → size_of (map (members_of ms)) ≡ 12 + members_size ms
unfolding size_of
map_size ms = omega arith

pub map_as : (ms : List Member) (n : ℕ) → n ≡ size_of (map (members_of ms)) → n - 12 ≡ members_size ms
map_as ms n h = omega (arith, h, map_size ms)

pub map_least : (ms : List Member) (n : ℕ) → n ≡ size_of (map (members_of ms)) → 12 ≤ n
map_least ms n h = omega (arith, h, map_size ms)

-- ---- depths

abbrev pair_depth : Member → ℕ
pair_depth m = max (depth_of m.0) (depth_of m.1)

abbrev depth_in : List Member → ℕ
depth_in ms = members_depth (members_of ms)

depth_set : (ms : List Member) (i : ℕ) (m : Member) → i < length ms → (depth_in (set ms i m) ≤ max (depth_in ms) (pair_depth m)) × (pair_depth m ≤ depth_in (set ms i m))
depth_set [] i m lt = absurd (omega arith)
depth_set (x ∷ ms) zero m lt = (omega arith, omega arith)
depth_set (x ∷ ms) (suc i) m lt = let h = depth_set ms i m (omega arith) in (omega (arith, h.0), omega (arith, h.1))

depth_insert : (ms : List Member) (i : ℕ) (m : Member) → i ≤ length ms → (depth_in (insert ms i m) ≤ max (depth_in ms) (pair_depth m)) × (pair_depth m ≤ depth_in (insert ms i m))
depth_insert [] zero m le = (omega arith, omega arith)
depth_insert [] (suc i) m le = absurd (omega arith)
depth_insert (x ∷ ms) zero m le = (omega arith, omega arith)
depth_insert (x ∷ ms) (suc i) m le = let h = depth_insert ms i m (omega arith) in (omega (arith, h.0), omega (arith, h.1))

-- ---- limits

-- the limit of size, as the program tests it
sized_same : (total size : ℕ) → total ≡ capped size → nat_le total 16777168 ≡ nat_le (48 + size) 16777216
unfolding capped
sized_same total size h = grind (arith, nat_tests)

deep_same : (k v d e : ℕ) → d ≤ 99 → e ≤ max d (max k v) → max k v ≤ e → nat_le k 99 && nat_le v 99 ≡ nat_le (suc e) 100
deep_same k v d e h f g = grind (arith, nat_tests)

executable_size : (code : Hash) → hash_format.fits code → length (executable_format.spell (Wasm code)) ≡ 36
unfolding executable_format type_format hash_format
executable_size code fits = omega (arith, fits.0, length-append code.0)

instance_size : (code : Hash) (ms : List Member) → hash_format.fits code → size_of (instance_with code ms) ≡ 48 + members_size ms
unfolding size_of
instance_size code ms fits = omega (arith, executable_size code fits, length-append (executable_format.spell (Wasm code)))

-- what the program tests is the limits of the instance
tested : (code : Hash) (ms new : List Member) (m : Member) (total : ℕ) → hash_format.fits code → IsHosted (map (members_of ms)) → total ≡ capped (members_size new)
    → (depth_in new ≤ max (depth_in ms) (pair_depth m)) × (pair_depth m ≤ depth_in new)
    → nat_le total 16777168 && (nat_le (depth_of m.0) 99 && nat_le (depth_of m.1) 99) ≡ is_within_limits (instance_with code new)
tested code ms new m total fits hosted sized deep =
    let shallow : depth_in ms ≤ 99 = omega (arith, hosted.shallow) in
    rw (instance_size code new fits, sized_same total (members_size new) sized, deep_same (depth_of m.0) (depth_of m.1) (depth_in ms) (depth_in new) shallow deep.0 deep.1) refl

pub tested_over : (code : Hash) (ms : List Member) (i : ℕ) (m : Member) (total : ℕ) → hash_format.fits code → IsHosted (map (members_of ms)) → i < length ms → IsThere m.0 ms i
    → total ≡ capped (members_size (remove ms i) + pair_size m)
    → nat_le total 16777168 && (nat_le (depth_of m.0) 99 && nat_le (depth_of m.1) 99) ≡ is_within_limits (instance_with code (put m.0 m.1 ms))
tested_over code ms i m total fits hosted lt there sized =
    rw (put_there m.0 m.1 ms i there)
    (tested code ms (set ms i m) m total fits hosted (sized ∙ ap capped (sym (size_set ms i m lt))) (depth_set ms i m lt))

pub tested_between : (code : Hash) (ms : List Member) (i : ℕ) (m : Member) (total : ℕ) → hash_format.fits code → IsHosted (map (members_of ms)) → i ≤ length ms → IsGap m.0 ms i
    → total ≡ capped (members_size ms + pair_size m)
    → nat_le total 16777168 && (nat_le (depth_of m.0) 99 && nat_le (depth_of m.1) 99) ≡ is_within_limits (instance_with code (put m.0 m.1 ms))
tested_between code ms i m total fits hosted le gap sized =
    rw (put_gap m.0 m.1 ms i gap)
    (tested code ms (insert ms i m) m total fits hosted (sized ∙ ap capped (sym (size_insert ms i m le))) (depth_insert ms i m le))

-- the size that the program keeps
capped_small : (n total : ℕ) → total ≡ capped n → total ≤ 16777168 → total ≡ n
unfolding capped
capped_small n total h le = omega (arith, h, le)

pub kept_over : (ms : List Member) (i : ℕ) (m : Member) (total : ℕ) → i < length ms → total ≡ capped (members_size (remove ms i) + pair_size m) → total ≤ 16777168 → total ≡ members_size (set ms i m)
kept_over ms i m total lt sized le = capped_small _ total sized le ∙ sym (size_set ms i m lt)

pub kept_between : (ms : List Member) (i : ℕ) (m : Member) (total : ℕ) → i ≤ length ms → total ≡ capped (members_size ms + pair_size m) → total ≤ 16777168 → total ≡ members_size (insert ms i m)
kept_between ms i m total le sized small = capped_small _ total sized small ∙ sym (size_insert ms i m le)

pub grown_as : (ms : List Member) (m : Member) (size total : ℕ) → size ≡ members_size ms → total ≡ capped (size + pair_size m) → total ≡ capped (members_size ms + pair_size m)
grown_as ms m size total is h = h ∙ ap (λ (n : ℕ). capped (n + pair_size m)) is

pub grown_without : (ms : List Member) (i : ℕ) (m : Member) (size old total : ℕ) → size ≡ members_size ms → old + members_size (remove ms i) ≡ members_size ms → total ≡ capped (size - old + pair_size m)
    → total ≡ capped (members_size (remove ms i) + pair_size m)
grown_without ms i m size old total is gone h = h ∙ ap (λ (n : ℕ). capped (n + pair_size m)) (omega (arith, is, gone))

-- a size that the test lets pass
pub within : (total : ℕ) (b : Bool) → nat_le total 16777168 && b ≡ true → total ≤ 16777168
within total b h = grind (arith, nat_tests)
