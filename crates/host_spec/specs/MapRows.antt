-- Module m: maps (own, after CAP-0046-03). A map is the list of its members, whose keys rise strictly in the order of values.
use Rattle.std.specs.Prelude.{ℕ, ◌+◌, List, [], ◌∷◌, length, map as each, Option, Some, None, is_some, slice_get, if◌then◌else◌}
use Rattle.std.specs.Option.{option_map}
use Rattle.std.specs.Ordering.{is_eq}
use Rattle.std.specs.declared.cmp.Ordering.{Ordering}
use Rattle.std.specs.declared.cmp.Ordering.TheVariants.{Less, Equal, Greater}
use Rattle.budget_meter.specs.declared.kind.Kind.TheVariants.{MemCmp}
use Rattle.value_types.specs.Datum.{Datum, boolean, u32, vec, map, items_of, members_of}
use Rattle.value_types.specs.Order.{datum_cmp}
use Rattle.value_types.specs.declared.error.ScError.{ScError}
use Rattle.host_spec.specs.Errors.{OUTSIDE_OBJECT, ABSENT_KEY}
use Rattle.host_spec.specs.Hosted.{size_of}
use Rattle.host_spec.specs.Acts.{Act, gives, fails, only_where, paying}
use Rattle.host_spec.specs.Answers.{Answer, value}

abbrev pub Member : Type 0
Member = Datum × Datum

-- the value of a key
abbrev pub value_at : Datum → List Member → Option Datum
value_at k [] = None
value_at k (m ∷ ms) = if is_eq (datum_cmp k m.0) then Some m.1 else value_at k ms

-- the members with one more before the first or in its place
abbrev pub put_by : Ordering → Member → Member → List Member → List Member → List Member
put_by Less new m ms rest = new ∷ m ∷ ms
put_by Equal new m ms rest = new ∷ ms
put_by Greater new m ms rest = m ∷ rest

-- a map with a value put at a key
abbrev pub put : Datum → Datum → List Member → List Member
put k v [] = (k, v) ∷ []
put k v (m ∷ ms) = put_by (datum_cmp k m.0) (k, v) m ms (put k v ms)

-- a map without a key
abbrev pub without : Datum → List Member → List Member
without k [] = []
without k (m ∷ ms) = if is_eq (datum_cmp k m.0) then ms else m ∷ without k ms

abbrev pub map_answer : List Member → Answer
map_answer ms = value (map (members_of ms))

-- an act that compares a key with those of a map
abbrev pub looking_up : Datum → List Member → Act Answer → Act Answer
looking_up k ms = paying MemCmp (size_of (map (members_of ms)) + size_of k)

-- returns what there is, or fails
abbrev pub found : Option Datum → ScError → Act Answer
found None e = fails e
found (Some d) e = gives (value d)

abbrev pub map_new : Act Answer
map_new = gives (map_answer [])

abbrev pub map_put : List Member → Datum → Datum → Act Answer
map_put ms k v = looking_up k ms (gives (map_answer (put k v ms)))

abbrev pub map_get : List Member → Datum → Act Answer
map_get ms k = looking_up k ms (found (value_at k ms) ABSENT_KEY)

abbrev pub map_del : List Member → Datum → Act Answer
map_del ms k = looking_up k ms (only_where (is_some (value_at k ms)) ABSENT_KEY (gives (map_answer (without k ms))))

abbrev pub map_len : List Member → Act Answer
map_len ms = gives (value (u32 (length ms)))

abbrev pub map_has : List Member → Datum → Act Answer
map_has ms k = looking_up k ms (gives (value (boolean (is_some (value_at k ms)))))

abbrev pub map_key_by_pos : List Member → ℕ → Act Answer
map_key_by_pos ms i = found (option_map (λ m. m.0) (slice_get ms i)) OUTSIDE_OBJECT

abbrev pub map_val_by_pos : List Member → ℕ → Act Answer
map_val_by_pos ms i = found (option_map (λ m. m.1) (slice_get ms i)) OUTSIDE_OBJECT

abbrev pub map_keys : List Member → Act Answer
map_keys ms = gives (value (vec (items_of (each (λ m. m.0) ms))))

abbrev pub map_values : List Member → Act Answer
map_values ms = gives (value (vec (items_of (each (λ m. m.1) ms))))
