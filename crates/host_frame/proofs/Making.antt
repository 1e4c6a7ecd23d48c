-- Laws of the values that functions make.
use Rattle.std.proofs.Common.{◌≡◌, ℕ, zero, suc, ◌+◌, ◌*◌, ◌<◌, ◌≤◌, ◌^◌, List, [], ◌∷◌, ◌++◌, length, get_or, map, None, Bool, true, false, ◌&&◌, nat_le, refl, ap, arith, length-append}
use Rattle.std.specs.Prelude.{if◌then◌else◌}
use Rattle.std.specs.List.{list_all}
use Rattle.std.specs.Ordering.{is_lt, is_eq}
use Rattle.std.specs.declared.cmp.Ordering.{Ordering}
use Rattle.std.specs.declared.cmp.Ordering.TheVariants.{Less, Equal, Greater}
use Rattle.xdr_spec.specs.Format.{opaque, zeros, pad, IsBytes}
use Rattle.value_types.specs.Address.{address_format}
use Rattle.value_types.specs.AccountId.{account_id_format}
use Rattle.value_types.specs.declared.hash.Hash.{Hash}
use Rattle.value_types.specs.declared.address.ScAddress.TheVariants as addresses
use Rattle.value_types.specs.Datum.{Datum, address, bytes, string, symbol, vec, map as map_datum, items_of, members_of}
use Rattle.value_types.specs.Views.{datum, datums, datum_pairs}
use Rattle.value_types.specs.declared.value.Entry.{Entry}
use Rattle.value_types.specs.declared.value.ScVal.{ScVal}
use Rattle.value_types.specs.Order.{datum_cmp, datum_total}
use Rattle.value_types.proofs.Lemmas.{items_there, members_there}
use Rattle.value_xdr.specs.Bytes.{IsBounded, AreItemsBounded, AreMembersBounded, bytes_of, items_bytes, members_bytes}
use Rattle.host_spec.specs.Words.{small_word, object_tag}
use Rattle.host_spec.specs.Hosted.{IsMade, IsHosted, size_of, has_host_types, items_have_host_types, members_have_host_types, is_well_formed, items_are_well_formed, members_are_well_formed, is_below, is_symbol}
use Rattle.host_spec.specs.MapRows.{put, put_by, without}
use Rattle.host_spec.specs.Characters.{is_character}
use Rattle.tagged_val.specs.Scalars.{is_scalar}
use Rattle.object_store.proofs.Lemmas.{characters_are_bytes, scalar_hosted, type_has_tag}
use Rattle.host_frame.specs.Made.{IsObjectMade, AreMade, IsPairMade, ArePairsMade}

pub value_object : (d : Datum) → IsMade d → small_word d ≡ None → IsObjectMade d
value_object d h e = record { made = h; tag = type_has_tag d h.types e }

-- both of a test
first_of : (a b : Bool) → a && b ≡ true → a ≡ true
first_of true b h = refl
first_of false b h = absurd cc

second_of : (a b : Bool) → a && b ≡ true → b ≡ true
second_of true b h = h
second_of false b h = absurd cc

both_of : (a b : Bool) → a ≡ true → b ≡ true → a && b ≡ true
both_of a b h k = rw (h, k) refl

-- ---- vecs

items_made_by : (ds : List Datum) → AreItemsBounded (items_of ds) → items_have_host_types (items_of ds) ≡ true → items_are_well_formed (items_of ds) ≡ true → AreMade ds
items_made_by [] b t f = tt
items_made_by (d ∷ ds) b t f = (
  record { bounded = b.0; types = first_of (has_host_types d) (items_have_host_types (items_of ds)) t; formed = first_of (is_well_formed d) (items_are_well_formed (items_of ds)) f },
  items_made_by ds b.1 (second_of (has_host_types d) (items_have_host_types (items_of ds)) t) (second_of (is_well_formed d) (items_are_well_formed (items_of ds)) f),
)

pub items_made : (ds : List Datum) → IsMade (vec (items_of ds)) → AreMade ds
items_made ds h = items_made_by ds h.bounded.1 h.types h.formed

bounded_items : (ds : List Datum) → AreMade ds → AreItemsBounded (items_of ds)
bounded_items [] h = tt
bounded_items (d ∷ ds) h = (h.0.bounded, bounded_items ds h.1)

typed_items : (ds : List Datum) → AreMade ds → items_have_host_types (items_of ds) ≡ true
typed_items [] h = refl
typed_items (d ∷ ds) h = both_of (has_host_types d) (items_have_host_types (items_of ds)) h.0.types (typed_items ds h.1)

formed_items : (ds : List Datum) → AreMade ds → items_are_well_formed (items_of ds) ≡ true
formed_items [] h = refl
formed_items (d ∷ ds) h = both_of (is_well_formed d) (items_are_well_formed (items_of ds)) h.0.formed (formed_items ds h.1)

pub datums_length : (vs : List ScVal) → length (datums vs) ≡ length vs
datums_length [] = refl
datums_length (v ∷ vs) = ap suc (datums_length vs)

pub vec_made : (ds : List Datum) → length ds < 2 ^ 32 → AreMade ds → IsMade (vec (items_of ds))
vec_made ds few h = record { bounded = (rw items_there few, bounded_items ds h); types = typed_items ds h; formed = formed_items ds h }

few_items_bytes : (ds : List Datum) → 4 * length ds ≤ length (items_bytes (items_of ds))
few_items_bytes [] = omega arith
few_items_bytes (d ∷ ds) = let more = few_items_bytes ds in omega (arith, more, length-append (bytes_of d) (items_bytes (items_of ds)))

few_items_by : (ds : List Datum) → size_of (vec (items_of ds)) ≤ 16777216 → length ds ≤ 4194304
unfolding size_of
few_items_by ds k = omega (arith, k, few_items_bytes ds)

pub few_items : (ds : List Datum) → IsHosted (vec (items_of ds)) → length ds ≤ 4194304
few_items ds h = few_items_by ds h.sized

-- ---- maps

-- the keys rise strictly
abbrev pub rises : List (Datum × Datum) → Bool
rises [] = true
rises (m ∷ ms) = is_below m.0 (members_of ms) && rises ms

members_made_by : (ms : List (Datum × Datum)) → AreMembersBounded (members_of ms) → members_have_host_types (members_of ms) ≡ true → members_are_well_formed (members_of ms) ≡ true → ArePairsMade ms
members_made_by [] b t f = tt
members_made_by (m ∷ ms) b t f =
    let t1 = second_of (has_host_types m.0) (has_host_types m.1 && members_have_host_types (members_of ms)) t in
    let f0 = second_of (is_below m.0 (members_of ms)) (is_well_formed m.0 && (is_well_formed m.1 && members_are_well_formed (members_of ms))) f in
    let f1 = second_of (is_well_formed m.0) (is_well_formed m.1 && members_are_well_formed (members_of ms)) f0 in (
      (
        record { bounded = b.0; types = first_of (has_host_types m.0) (has_host_types m.1 && members_have_host_types (members_of ms)) t; formed = first_of (is_well_formed m.0) (is_well_formed m.1 && members_are_well_formed (members_of ms)) f0 },
        record { bounded = b.1; types = first_of (has_host_types m.1) (members_have_host_types (members_of ms)) t1; formed = first_of (is_well_formed m.1) (members_are_well_formed (members_of ms)) f1 },
      ),
      members_made_by ms b.2 (second_of (has_host_types m.1) (members_have_host_types (members_of ms)) t1) (second_of (is_well_formed m.1) (members_are_well_formed (members_of ms)) f1),
    )

pub members_made : (ms : List (Datum × Datum)) → IsMade (map_datum (members_of ms)) → ArePairsMade ms
members_made ms h = members_made_by ms h.bounded.1 h.types h.formed

rises_by : (ms : List (Datum × Datum)) → members_are_well_formed (members_of ms) ≡ true → rises ms ≡ true
rises_by [] f = refl
rises_by (m ∷ ms) f =
    let f0 = second_of (is_below m.0 (members_of ms)) (is_well_formed m.0 && (is_well_formed m.1 && members_are_well_formed (members_of ms))) f in
    let f1 = second_of (is_well_formed m.0) (is_well_formed m.1 && members_are_well_formed (members_of ms)) f0 in
    both_of (is_below m.0 (members_of ms)) (rises ms) (first_of (is_below m.0 (members_of ms)) (is_well_formed m.0 && (is_well_formed m.1 && members_are_well_formed (members_of ms))) f)
    (rises_by ms (second_of (is_well_formed m.1) (members_are_well_formed (members_of ms)) f1))

pub map_rises : (ms : List (Datum × Datum)) → IsMade (map_datum (members_of ms)) → rises ms ≡ true
map_rises ms h = rises_by ms h.formed

bounded_members : (ms : List (Datum × Datum)) → ArePairsMade ms → AreMembersBounded (members_of ms)
bounded_members [] h = tt
bounded_members (m ∷ ms) h = (h.0.0.bounded, h.0.1.bounded, bounded_members ms h.1)

typed_members : (ms : List (Datum × Datum)) → ArePairsMade ms → members_have_host_types (members_of ms) ≡ true
typed_members [] h = refl
typed_members (m ∷ ms) h =
    both_of (has_host_types m.0) (has_host_types m.1 && members_have_host_types (members_of ms)) h.0.0.types
    (both_of (has_host_types m.1) (members_have_host_types (members_of ms)) h.0.1.types (typed_members ms h.1))

formed_members : (ms : List (Datum × Datum)) → ArePairsMade ms → rises ms ≡ true → members_are_well_formed (members_of ms) ≡ true
formed_members [] h r = refl
formed_members (m ∷ ms) h r =
    both_of (is_below m.0 (members_of ms)) (is_well_formed m.0 && (is_well_formed m.1 && members_are_well_formed (members_of ms))) (first_of (is_below m.0 (members_of ms)) (rises ms) r)
    (both_of (is_well_formed m.0) (is_well_formed m.1 && members_are_well_formed (members_of ms)) h.0.0.formed
    (both_of (is_well_formed m.1) (members_are_well_formed (members_of ms)) h.0.1.formed (formed_members ms h.1 (second_of (is_below m.0 (members_of ms)) (rises ms) r))))

pub map_made : (ms : List (Datum × Datum)) → length ms < 2 ^ 32 → ArePairsMade ms → rises ms ≡ true → IsMade (map_datum (members_of ms))
map_made ms few h r = record { bounded = (rw members_there few, bounded_members ms h); types = typed_members ms h; formed = formed_members ms h r }

few_members_bytes : (ms : List (Datum × Datum)) → 8 * length ms ≤ length (members_bytes (members_of ms))
few_members_bytes [] = omega arith
few_members_bytes (m ∷ ms) =
    let more = few_members_bytes ms in
    omega (arith, more, length-append (bytes_of m.0 ++ bytes_of m.1) (members_bytes (members_of ms)), length-append (bytes_of m.0) (bytes_of m.1))

few_members_by : (ms : List (Datum × Datum)) → size_of (map_datum (members_of ms)) ≤ 16777216 → length ms ≤ 2097152
unfolding size_of
few_members_by ms k = omega (arith, k, few_members_bytes ms)

pub few_members : (ms : List (Datum × Datum)) → IsHosted (map_datum (members_of ms)) → length ms ≤ 2097152
few_members ms h = few_members_by ms h.sized

-- ---- puts

pairs_put_by : (o : Ordering) (k v : Datum) (m : Datum × Datum) (ms rest : List (Datum × Datum)) → IsMade k → IsMade v → IsPairMade m → ArePairsMade ms → ArePairsMade rest → ArePairsMade (put_by o (k, v) m ms rest)
pairs_put_by Less k v m ms rest a b c d e = ((a, b), (c, d))
pairs_put_by Equal k v m ms rest a b c d e = ((a, b), d)
pairs_put_by Greater k v m ms rest a b c d e = (c, e)

pairs_put : (k v : Datum) (ms : List (Datum × Datum)) → IsMade k → IsMade v → ArePairsMade ms → ArePairsMade (put k v ms)
pairs_put k v [] a b h = ((a, b), tt)
pairs_put k v (m ∷ ms) a b h = pairs_put_by (datum_cmp k m.0) k v m ms (put k v ms) a b h.0 h.1 (pairs_put k v ms a b h.1)

length_put_by : (o : Ordering) (k v : Datum) (m : Datum × Datum) (ms rest : List (Datum × Datum)) → length rest ≤ length ms + 1 → length (put_by o (k, v) m ms rest) ≤ length (m ∷ ms) + 1
length_put_by Less k v m ms rest h = omega arith
length_put_by Equal k v m ms rest h = omega arith
length_put_by Greater k v m ms rest h = omega (arith, h)

pub length_put : (k v : Datum) (ms : List (Datum × Datum)) → length (put k v ms) ≤ length ms + 1
length_put k v [] = omega arith
length_put k v (m ∷ ms) = length_put_by (datum_cmp k m.0) k v m ms (put k v ms) (length_put k v ms)

lt_of_greater : (k l : Datum) → datum_cmp k l ≡ Greater → is_lt (datum_cmp l k) ≡ true
lt_of_greater k l h = rw (datum_total.antisymm l k, h) refl

lt_of_less : (k l : Datum) → datum_cmp k l ≡ Less → is_lt (datum_cmp k l) ≡ true
lt_of_less k l h = rw h refl

below_equal : (k l : Datum) (ms : List (Datum × Datum)) → datum_cmp k l ≡ Equal → is_below l (members_of ms) ≡ true → is_below k (members_of ms) ≡ true
below_equal k l [] h b = refl
below_equal k l (m ∷ ms) h b = rw (datum_total.congr k l m.0 h) b

-- what is below a key and below all others is below all after a put
below_put_by : (o : Ordering) (x k v : Datum) (m : Datum × Datum) (ms rest : List (Datum × Datum)) → is_lt (datum_cmp x k) ≡ true → is_lt (datum_cmp x m.0) ≡ true → is_below x (members_of (put_by o (k, v) m ms rest)) ≡ true
below_put_by Less x k v m ms rest a b = a
below_put_by Equal x k v m ms rest a b = a
below_put_by Greater x k v m ms rest a b = b

below_put : (x k v : Datum) (ms : List (Datum × Datum)) → is_lt (datum_cmp x k) ≡ true → is_below x (members_of ms) ≡ true → is_below x (members_of (put k v ms)) ≡ true
below_put x k v [] a b = a
below_put x k v (m ∷ ms) a b = below_put_by (datum_cmp k m.0) x k v m ms (put k v ms) a b

rises_put_by : (o : Ordering) (k v : Datum) (m : Datum × Datum) (ms : List (Datum × Datum)) → datum_cmp k m.0 ≡ o → rises (m ∷ ms) ≡ true → rises (put k v ms) ≡ true → rises (put_by o (k, v) m ms (put k v ms)) ≡ true
rises_put_by Less k v m ms e r q = both_of (is_lt (datum_cmp k m.0)) (rises (m ∷ ms)) (lt_of_less k m.0 e) r
rises_put_by Equal k v m ms e r q =
    both_of (is_below k (members_of ms)) (rises ms) (below_equal k m.0 ms e (first_of (is_below m.0 (members_of ms)) (rises ms) r)) (second_of (is_below m.0 (members_of ms)) (rises ms) r)
rises_put_by Greater k v m ms e r q =
    both_of (is_below m.0 (members_of (put k v ms))) (rises (put k v ms)) (below_put m.0 k v ms (lt_of_greater k m.0 e) (first_of (is_below m.0 (members_of ms)) (rises ms) r)) q

-- a put keeps the keys rising
pub rises_put : (k v : Datum) (ms : List (Datum × Datum)) → rises ms ≡ true → rises (put k v ms) ≡ true
rises_put k v [] r = refl
rises_put k v (m ∷ ms) r = rises_put_by (datum_cmp k m.0) k v m ms refl r (rises_put k v ms (second_of (is_below m.0 (members_of ms)) (rises ms) r))

pub put_made : (k v : Datum) (ms : List (Datum × Datum)) → IsHosted (map_datum (members_of ms)) → IsMade k → IsMade v → IsMade (map_datum (members_of (put k v ms)))
put_made k v ms h a b =
    let few = few_members ms h in
    map_made (put k v ms) (omega (arith, few, length_put k v ms)) (pairs_put k v ms a b (members_made ms h.made)) (rises_put k v ms (map_rises ms h.made))

-- ---- removals

below_first : (x : Datum) (m : Datum × Datum) (ms : List (Datum × Datum)) → is_lt (datum_cmp x m.0) ≡ true → is_below m.0 (members_of ms) ≡ true → is_below x (members_of ms) ≡ true
below_first x m [] a b = refl
below_first x m (n ∷ ms) a b = rw (datum_total.trans x m.0 n.0 (is_less _ a) (is_less _ b)) refl where
  is_less : (o : Ordering) → is_lt o ≡ true → o ≡ Less
  is_less Less h = refl
  is_less Equal h = absurd cc
  is_less Greater h = absurd cc

below_without_by : (e : Bool) (x k : Datum) (m : Datum × Datum) (ms : List (Datum × Datum)) → is_lt (datum_cmp x m.0) ≡ true → is_below m.0 (members_of ms) ≡ true
    → is_below x (members_of (if e then ms else m ∷ without k ms)) ≡ true
below_without_by true x k m ms a b = below_first x m ms a b
below_without_by false x k m ms a b = a

below_without : (x k : Datum) (ms : List (Datum × Datum)) → rises ms ≡ true → is_below x (members_of ms) ≡ true → is_below x (members_of (without k ms)) ≡ true
below_without x k [] r b = refl
below_without x k (m ∷ ms) r b = below_without_by (is_eq (datum_cmp k m.0)) x k m ms b (first_of (is_below m.0 (members_of ms)) (rises ms) r)

rises_without_by : (e : Bool) (k : Datum) (m : Datum × Datum) (ms : List (Datum × Datum)) → rises (m ∷ ms) ≡ true → rises (without k ms) ≡ true → rises (if e then ms else m ∷ without k ms) ≡ true
rises_without_by true k m ms r q = second_of (is_below m.0 (members_of ms)) (rises ms) r
rises_without_by false k m ms r q =
    both_of (is_below m.0 (members_of (without k ms))) (rises (without k ms))
    (below_without m.0 k ms (second_of (is_below m.0 (members_of ms)) (rises ms) r) (first_of (is_below m.0 (members_of ms)) (rises ms) r)) q

-- a removal keeps the keys rising
pub rises_without : (k : Datum) (ms : List (Datum × Datum)) → rises ms ≡ true → rises (without k ms) ≡ true
rises_without k [] r = refl
rises_without k (m ∷ ms) r = rises_without_by (is_eq (datum_cmp k m.0)) k m ms r (rises_without k ms (second_of (is_below m.0 (members_of ms)) (rises ms) r))

pairs_without_by : (e : Bool) (k : Datum) (m : Datum × Datum) (ms : List (Datum × Datum)) → ArePairsMade (m ∷ ms) → ArePairsMade (without k ms) → ArePairsMade (if e then ms else m ∷ without k ms)
pairs_without_by true k m ms h q = h.1
pairs_without_by false k m ms h q = (h.0, q)

pairs_without : (k : Datum) (ms : List (Datum × Datum)) → ArePairsMade ms → ArePairsMade (without k ms)
pairs_without k [] h = tt
pairs_without k (m ∷ ms) h = pairs_without_by (is_eq (datum_cmp k m.0)) k m ms h (pairs_without k ms h.1)

length_without_by : (e : Bool) (k : Datum) (m : Datum × Datum) (ms : List (Datum × Datum)) → length (without k ms) ≤ length ms → length (if e then ms else m ∷ without k ms) ≤ length (m ∷ ms)
length_without_by true k m ms q = omega arith
length_without_by false k m ms q = omega (arith, q)

pub length_without : (k : Datum) (ms : List (Datum × Datum)) → length (without k ms) ≤ length ms
length_without k [] = omega arith
length_without k (m ∷ ms) = length_without_by (is_eq (datum_cmp k m.0)) k m ms (length_without k ms)

pub without_made : (k : Datum) (ms : List (Datum × Datum)) → IsHosted (map_datum (members_of ms)) → IsMade (map_datum (members_of (without k ms)))
without_made k ms h =
    let few = few_members ms h in
    map_made (without k ms) (omega (arith, few, length_without k ms)) (pairs_without k ms (members_made ms h.made)) (rises_without k ms (map_rises ms h.made))

-- ---- keys and values

keys_made : (ms : List (Datum × Datum)) → ArePairsMade ms → AreMade (map (λ m. m.0) ms)
keys_made [] h = tt
keys_made (m ∷ ms) h = (h.0.0, keys_made ms h.1)

values_made : (ms : List (Datum × Datum)) → ArePairsMade ms → AreMade (map (λ m. m.1) ms)
values_made [] h = tt
values_made (m ∷ ms) h = (h.0.1, values_made ms h.1)

length_map : (f : Datum × Datum → Datum) (ms : List (Datum × Datum)) → length (map f ms) ≡ length ms
length_map f [] = refl
length_map f (m ∷ ms) = ap suc (length_map f ms)

pub map_keys_made : (ms : List (Datum × Datum)) → IsHosted (map_datum (members_of ms)) → IsMade (vec (items_of (map (λ m. m.0) ms)))
map_keys_made ms h = let few = few_members ms h in vec_made (map (λ m. m.0) ms) (omega (arith, few, length_map (λ m. m.0) ms)) (keys_made ms (members_made ms h.made))

pub map_values_made : (ms : List (Datum × Datum)) → IsHosted (map_datum (members_of ms)) → IsMade (vec (items_of (map (λ m. m.1) ms)))
map_values_made ms h = let few = few_members ms h in vec_made (map (λ m. m.1) ms) (omega (arith, few, length_map (λ m. m.1) ms)) (values_made ms (members_made ms h.made))

-- ---- answers of one type

pub scalar_made : (d : Datum) → is_scalar d ≡ true → IsBounded d → IsMade d
scalar_made d e h = (scalar_hosted d e h).made

pub bytes_made : (x : List ℕ) → IsBytes x → length x < 2 ^ 32 → IsMade (bytes x)
unfolding opaque
bytes_made x h few = record { bounded = (omega (arith, few), few, h); types = refl; formed = refl }

pub string_made : (x : List ℕ) → IsBytes x → length x < 2 ^ 32 → IsMade (string x)
unfolding opaque
string_made x h few = record { bounded = (omega (arith, few), few, h); types = refl; formed = refl }

le_of : (a b : ℕ) → nat_le a b ≡ true → a ≤ b
le_of a b h = grind arith

pub symbol_made : (x : List ℕ) → is_symbol x ≡ true → IsMade (symbol x)
unfolding opaque
symbol_made x h =
    let short = le_of (length x) 32 (first_of (nat_le (length x) 32) (list_all is_character x) h) in
    record { bounded = (short, omega (arith, short), characters_are_bytes x (second_of (nat_le (length x) 32) (list_all is_character x) h)); types = refl; formed = h }

bytes_few : (x : List ℕ) → size_of (bytes x) ≤ 16777216 → length x ≤ 16777208
unfolding size_of opaque
bytes_few x h = omega (arith, h, length-append x (zeros (pad (length x))))

pub few_bytes : (x : List ℕ) → IsHosted (bytes x) → length x ≤ 16777208
few_bytes x h = bytes_few x h.sized

string_few : (x : List ℕ) → size_of (string x) ≤ 16777216 → length x ≤ 16777208
unfolding size_of opaque
string_few x h = omega (arith, h, length-append x (zeros (pad (length x))))

pub few_string : (x : List ℕ) → IsHosted (string x) → length x ≤ 16777208
few_string x h = string_few x h.sized

pub few_symbol : (x : List ℕ) → IsHosted (symbol x) → length x ≤ 32
few_symbol x h = le_of (length x) 32 (first_of (nat_le (length x) 32) (list_all is_character x) h.made.formed)

pub scalar_object : (d : Datum) → is_scalar d ≡ true → IsBounded d → 0 < object_tag d → IsObjectMade d
scalar_object d e h tag = record { made = scalar_made d e h; tag = tag }

-- ---- lists of the program

pub pairs_length : (es : List Entry) → length (datum_pairs es) ≡ length es
pairs_length [] = refl
pairs_length (e ∷ es) = ap suc (pairs_length es)

pub few_entries : (es : List Entry) → IsHosted (map_datum (members_of (datum_pairs es))) → length es ≤ 2097152
few_entries es h = let few = few_members (datum_pairs es) h in omega (arith, few, pairs_length es)

pub few_values : (vs : List ScVal) → IsHosted (vec (items_of (datums vs))) → length vs ≤ 4194304
few_values vs h = let few = few_items (datums vs) h in omega (arith, few, datums_length vs)

pub values_are_made : (vs : List ScVal) → IsHosted (vec (items_of (datums vs))) → AreMade (datums vs)
values_are_made vs h = items_made (datums vs) h.made

-- the item at an index
pub item_made : (vs : List ScVal) (i : ℕ) (v : ScVal) → AreMade (datums vs) → i < length vs → v ≡ get_or vs i v → IsMade (datum v)
item_made [] i v a lt is = absurd (omega arith)
item_made (x ∷ vs) zero v a lt is = rw is a.0
item_made (x ∷ vs) (suc i) v a lt is = item_made vs i v a.1 (omega arith) is

-- ---- addresses

pub account_of_muxed : (id : ℕ) (key : Hash) → address_format.fits (addresses.MuxedAccount id key) → IsMade (address (addresses.Account (record { 0 = key })))
unfolding address_format account_id_format
account_of_muxed id key h = record { bounded = h.1; types = refl; formed = refl }
