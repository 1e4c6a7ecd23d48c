-- Instance storage stays a map that the host holds.
use Rattle.std.proofs.Common.{◌≡◌, ◌≤◌, Bool, true, false, ◌&&◌, nat_le, List, Option, Some, [], ◌∷◌, ◌++◌, length, refl, sym, subst, ap, ◌∙◌, arith, length-append}
use Rattle.std.specs.Prelude.{if◌then◌else◌}
use Rattle.std.specs.Ordering.{is_eq}
use Rattle.value_types.specs.Datum.{Datum, map, members_of}
use Rattle.value_types.specs.declared.hash.Hash.{Hash}
use Rattle.value_types.specs.declared.executable.Executable.TheVariants.{Wasm}
use Rattle.value_types.specs.Views.{datum_pairs}
use Rattle.value_types.specs.declared.value.Entry.{Entry}
use Rattle.value_types.specs.Executable.{executable_format}
use Rattle.value_types.specs.Depth.{depth_of, members_depth}
use Rattle.value_types.specs.Order.{datum_cmp}
use Rattle.value_xdr.specs.Bytes.{bytes_of, members_bytes}
use Rattle.host_spec.specs.Hosted.{IsHosted, IsMade, size_of, is_within_limits}
use Rattle.host_spec.specs.MapRows.{Member, put, without}
use Rattle.host_frame.proofs.Lemmas.{map_made, put_made, without_made}
use Rattle.instance_storage.specs.Held.{IsHeld, instance_with}

fewer_bytes_by : (e : Bool) (k : Datum) (m : Datum × Datum) (ms : List (Datum × Datum)) → length (members_bytes (members_of (without k ms))) ≤ length (members_bytes (members_of ms))
    → length (members_bytes (members_of (if e then ms else m ∷ without k ms))) ≤ length (members_bytes (members_of (m ∷ ms)))
fewer_bytes_by true k m ms h = omega (arith, length-append (bytes_of m.0 ++ bytes_of m.1) (members_bytes (members_of ms)))
fewer_bytes_by false k m ms h =
    omega (arith, h, length-append (bytes_of m.0 ++ bytes_of m.1) (members_bytes (members_of ms)), length-append (bytes_of m.0 ++ bytes_of m.1) (members_bytes (members_of (without k ms))))

fewer_bytes : (k : Datum) (ms : List (Datum × Datum)) → length (members_bytes (members_of (without k ms))) ≤ length (members_bytes (members_of ms))
fewer_bytes k [] = omega arith
fewer_bytes k (m ∷ ms) = fewer_bytes_by (is_eq (datum_cmp k m.0)) k m ms (fewer_bytes k ms)

lower_by : (e : Bool) (k : Datum) (m : Datum × Datum) (ms : List (Datum × Datum)) → members_depth (members_of (without k ms)) ≤ members_depth (members_of ms)
    → members_depth (members_of (if e then ms else m ∷ without k ms)) ≤ members_depth (members_of (m ∷ ms))
lower_by true k m ms h = omega arith
lower_by false k m ms h = omega (arith, h)

lower : (k : Datum) (ms : List (Datum × Datum)) → members_depth (members_of (without k ms)) ≤ members_depth (members_of ms)
lower k [] = omega arith
lower k (m ∷ ms) = lower_by (is_eq (datum_cmp k m.0)) k m ms (lower k ms)

smaller : (k : Datum) (ms : List (Datum × Datum)) → size_of (map (members_of (without k ms))) ≤ size_of (map (members_of ms))
unfolding size_of
smaller k ms = omega (arith, fewer_bytes k ms)

pub without_held : (k : Datum) (ms : List (Datum × Datum)) → IsHosted (map (members_of ms)) → IsHosted (map (members_of (without k ms)))
without_held k ms h = record {
  made = without_made k ms h;
  sized = omega (arith, h.sized, smaller k ms);
  shallow = omega (arith, h.shallow, lower k ms);
}

-- ---- puts

pub empty_hosted : IsHosted (map (members_of []))
unfolding size_of
empty_hosted = record { made = map_made [] (omega arith) tt refl; sized = omega arith; shallow = omega arith }

pub empty_as : (x : List Member) (es : List Entry) → x ≡ datum_pairs es → es ≡ [] → IsHosted (map (members_of x))
empty_as x es e f = subst (λ (y : List Member). IsHosted (map (members_of y))) (sym (e ∙ ap (λ (ys : List Entry). datum_pairs ys) f)) empty_hosted

-- ---- limits

both : (a b : Bool) → a && b ≡ true → (a ≡ true) × (b ≡ true)
both true true h = (refl, refl)
both true false h = absurd cc
both false b h = absurd cc

small_map : (code : Hash) (ms : List Member) → size_of (map (members_of ms)) ≤ size_of (instance_with code ms)
unfolding size_of
small_map code ms = omega (arith, length-append (executable_format.spell (Wasm code)))

-- the map of an instance within the limits is one that the host holds
pub within_held : (code : Hash) (ms : List Member) → IsMade (map (members_of ms)) → is_within_limits (instance_with code ms) ≡ true → IsHosted (map (members_of ms))
within_held code ms made h =
    let two = both (nat_le (size_of (instance_with code ms)) 16777216) (nat_le (depth_of (instance_with code ms)) 100) h in
    let size : size_of (instance_with code ms) ≤ 16777216 = grind arith in
    let depth : depth_of (instance_with code ms) ≤ 100 = grind arith in
    record { made = made; sized = omega (arith, small_map code ms); shallow = depth }

-- the storage that a put leaves
pub held_after : (k v : Datum) (code : Hash) (old : List Member) (new : Option (List Member)) → IsHosted (map (members_of old)) → IsMade k → IsMade v → new ≡ Some (put k v old)
    → is_within_limits (instance_with code (put k v old)) ≡ true → IsHeld new
held_after k v code old new hosted made_k made_v e h = subst IsHeld (sym e) (within_held code (put k v old) (put_made k v old hosted made_k made_v) h)
