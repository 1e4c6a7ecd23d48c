-- The depth and the size of a collection, member by member, and the size of an instance, part by part.
use Rattle.std.proofs.Common.{◌≡◌, ℕ, ◌+◌, ◌<◌, max, List, [], ◌∷◌, ◌++◌, length, get_or, take, Option, Some, None, sym, ap, ◌∙◌, arith}
use Rattle.std.specs.Prelude.{map}
use Rattle.std.proofs.lemmas.List.{map_more}
use Rattle.value_types.specs.Datum.{Datum, items_of, members_of}
use Rattle.value_types.specs.Views.{datum, datums, datum_pair, datum_pairs, instance_datum}
use Rattle.value_types.specs.Depth.{depth_of, items_depth, members_depth, value_depth}
use Rattle.value_types.specs.XdrSize.{xdr_size_of, items_xdr_size, members_xdr_size, value_xdr_size, executable_xdr_size}
use Rattle.value_types.specs.XdrSize.{storage_xdr_size, instance_xdr_size}
use Rattle.value_types.specs.declared.executable.Executable.{Executable}
use Rattle.value_types.specs.declared.value.Instance.{Instance}
use Rattle.value_types.specs.declared.value.ScVal.{ScVal}
use Rattle.value_types.specs.declared.value.ScVal.TheVariants as values
use Rattle.value_types.specs.declared.value.Entry.{Entry}

-- one member more
one_more : {A B : Type 0} (view : A → B) (xs : List A) (k : ℕ) (x : A) → k < length xs → x ≡ get_or xs k x
    → map view (take (k + 1) xs) ≡ map view (take k xs) ++ view x ∷ []
one_more view xs k x lt is = map_more view xs k x lt ∙ ap (λ y. map view (take k xs) ++ view y ∷ []) (sym is)

items_depth-last : (ds : List Datum) (d : Datum) → items_depth (items_of (ds ++ d ∷ [])) ≡ max (items_depth (items_of ds)) (depth_of d)
items_depth-last [] d = omega arith
items_depth-last (e ∷ ds) d = omega (arith, items_depth-last ds d)

members_depth-last : (ms : List (Datum × Datum)) (m : Datum × Datum) → members_depth (members_of (ms ++ m ∷ [])) ≡ max (members_depth (members_of ms)) (max (depth_of m.0) (depth_of m.1))
members_depth-last [] m = omega arith
members_depth-last (n ∷ ms) m = omega (arith, members_depth-last ms m)

items_xdr_size-last : (ds : List Datum) (d : Datum) → items_xdr_size (items_of (ds ++ d ∷ [])) ≡ items_xdr_size (items_of ds) + xdr_size_of d
items_xdr_size-last [] d = omega arith
items_xdr_size-last (e ∷ ds) d = omega (arith, items_xdr_size-last ds d)

members_xdr_size-last : (ms : List (Datum × Datum)) (m : Datum × Datum) → members_xdr_size (members_of (ms ++ m ∷ [])) ≡ members_xdr_size (members_of ms) + xdr_size_of m.0 + xdr_size_of m.1
members_xdr_size-last [] m = omega arith
members_xdr_size-last (n ∷ ms) m = omega (arith, members_xdr_size-last ms m)

pub items_deeper : (vs : List ScVal) (k : ℕ) (v : ScVal) → k < length vs → v ≡ get_or vs k v
    → items_depth (items_of (datums (take (k + 1) vs))) ≡ max (items_depth (items_of (datums (take k vs)))) (value_depth v)
items_deeper vs k v lt is = ap (λ (ds : List Datum). items_depth (items_of ds)) (one_more datum vs k v lt is) ∙ items_depth-last (datums (take k vs)) (datum v)

pub members_deeper : (es : List Entry) (k : ℕ) (e : Entry) → k < length es → e ≡ get_or es k e
    → members_depth (members_of (datum_pairs (take (k + 1) es))) ≡ max (members_depth (members_of (datum_pairs (take k es)))) (max (value_depth e.key) (value_depth e.val))
members_deeper es k e lt is =
    ap (λ (ms : List (Datum × Datum)). members_depth (members_of ms)) (one_more datum_pair es k e lt is) ∙ members_depth-last (datum_pairs (take k es)) (datum_pair e)

pub items_larger : (vs : List ScVal) (k : ℕ) (v : ScVal) → k < length vs → v ≡ get_or vs k v
    → items_xdr_size (items_of (datums (take (k + 1) vs))) ≡ items_xdr_size (items_of (datums (take k vs))) + value_xdr_size v
items_larger vs k v lt is = ap (λ (ds : List Datum). items_xdr_size (items_of ds)) (one_more datum vs k v lt is) ∙ items_xdr_size-last (datums (take k vs)) (datum v)

pub members_larger : (es : List Entry) (k : ℕ) (e : Entry) → k < length es → e ≡ get_or es k e
    → members_xdr_size (members_of (datum_pairs (take (k + 1) es))) ≡ members_xdr_size (members_of (datum_pairs (take k es))) + value_xdr_size e.key + value_xdr_size e.val
members_larger es k e lt is =
    ap (λ (ms : List (Datum × Datum)). members_xdr_size (members_of ms)) (one_more datum_pair es k e lt is) ∙ members_xdr_size-last (datum_pairs (take k es)) (datum_pair e)

parts_size : (e : Executable) (o : Option (List (Datum × Datum))) → xdr_size_of (instance_datum e o) ≡ 4 + (executable_xdr_size e + storage_xdr_size o)
parts_size e None = omega arith
parts_size e (Some ms) = omega arith

-- an instance as a value has the number of its type in front
pub instance_size : (i : Instance) → value_xdr_size (values.ContractInstance i) ≡ 4 + instance_xdr_size i
instance_size i = parts_size i.executable i.storage
