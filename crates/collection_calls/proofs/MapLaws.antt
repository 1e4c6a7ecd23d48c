-- Laws of the maps and vecs that rows of maps make.
use Rattle.std.proofs.Common.{◌≡◌, List, [], map, refl, sym, subst, arith}
use Rattle.value_types.specs.Datum.{Datum, items_of, vec, members_of, map as map_datum}
use Rattle.value_types.specs.Views.{datum_pairs}
use Rattle.value_types.specs.declared.value.Entry.{Entry}
use Rattle.host_spec.specs.Hosted.{IsHosted, IsMade}
use Rattle.host_spec.specs.MapRows.{put, without}
use Rattle.host_frame.proofs.Lemmas.{map_keys_made, map_made, map_values_made, put_made, without_made}

pub empty_made : IsMade (map_datum (members_of []))
empty_made = map_made [] (omega arith) tt refl

pub made_put : (vs : List Entry) (ms : List (Datum × Datum)) (k v : Datum) → IsHosted (map_datum (members_of ms)) → IsMade k → IsMade v → datum_pairs vs ≡ put k v ms → IsMade (map_datum (members_of (datum_pairs vs)))
made_put vs ms k v h a b e = subst (λ (x : List (Datum × Datum)). IsMade (map_datum (members_of x))) (sym e) (put_made k v ms h a b)

pub made_without : (vs : List Entry) (ms : List (Datum × Datum)) (k : Datum) → IsHosted (map_datum (members_of ms)) → datum_pairs vs ≡ without k ms → IsMade (map_datum (members_of (datum_pairs vs)))
made_without vs ms k h e = subst (λ (x : List (Datum × Datum)). IsMade (map_datum (members_of x))) (sym e) (without_made k ms h)

pub made_keys : (ds : List Datum) (ms : List (Datum × Datum)) → IsHosted (map_datum (members_of ms)) → ds ≡ map (λ m. m.0) ms → IsMade (vec (items_of ds))
made_keys ds ms h e = subst (λ (x : List Datum). IsMade (vec (items_of x))) (sym e) (map_keys_made ms h)

pub made_vals : (ds : List Datum) (ms : List (Datum × Datum)) → IsHosted (map_datum (members_of ms)) → ds ≡ map (λ m. m.1) ms → IsMade (vec (items_of ds))
made_vals ds ms h e = subst (λ (x : List Datum). IsMade (vec (items_of x))) (sym e) (map_values_made ms h)
