-- Rows of values.
use Rattle.std.specs.Prelude.{map}
use Rattle.std.specs.List.{flat_map}
use Rattle.std.specs.declared.cmp.Ordering.{Ordering}
use Rattle.std.specs.declared.cmp.Ordering.TheVariants.{Equal}
use Rattle.std.proofs.Common.{◌≡◌, ℕ, zero, suc, ◌+◌, ◌<◌, List, [], ◌∷◌, ◌++◌, length, get_or, drop, Option, Some, None, refl, sym, ap, ap₂, subst, arith, add-one}
use Rattle.value_types.specs.Views.{datum, datum_pair, instance_datum, instance_of}
use Rattle.value_types.specs.Datum.{Datum, items_of, members_of}
use Rattle.value_types.proofs.Lemmas.{items_there, members_there}
use Rattle.value_types.specs.Executable.{executable_format}
use Rattle.value_types.specs.declared.executable.Executable.{Executable}
use Rattle.value_types.specs.declared.value.ScVal.{ScVal}
use Rattle.value_types.specs.declared.value.ScVal.TheVariants as values
use Rattle.value_types.specs.declared.value.Entry.{Entry}
use Rattle.value_xdr.specs.Bytes.{word}
use Rattle.spelled_order.specs.Against.{Against}
use Rattle.spelled_order.specs.Ranked.{ranked_value, ranked_of, ranked_pair, ranked_items, ranked_members, ranked_length}
use Rattle.spelled_order.proofs.Deciding.{alike, both, first}

ranked_items-items_of : (ds : List Datum) → ranked_items (items_of ds) ≡ flat_map ranked_of ds
ranked_items-items_of [] = refl
ranked_items-items_of (d ∷ ds) = ap (λ (x : List ℕ). ranked_of d ++ x) (ranked_items-items_of ds)

ranked_members-members_of : (ms : List (Datum × Datum)) → ranked_members (members_of ms) ≡ flat_map ranked_pair ms
ranked_members-members_of [] = refl
ranked_members-members_of (m ∷ ms) = ap (λ (x : List ℕ). ranked_pair m ++ x) (ranked_members-members_of ms)

instance_bytes-datum : (e : Executable) (o : Option (List (Datum × Datum))) → ranked_value (values.ContractInstance (instance_of (e, o))) ≡ ranked_of (instance_datum e o)
instance_bytes-datum e None = refl
instance_bytes-datum e (Some ms) = ap (λ (x : List ℕ). word 19 ++ (executable_format.spell e ++ (word 1 ++ x))) (ap₂ (λ (n : ℕ) (x : List ℕ). ranked_length n ++ x) (sym (ap length (members_there ms))) (sym (ranked_members-members_of ms)))

pub ranked_value-datum : (v : ScVal) → ranked_value v ≡ ranked_of (datum v)
ranked_value-datum (values.Vec None) = refl
ranked_value-datum (values.Vec (Some ds)) = ap (λ (x : List ℕ). word 16 ++ (word 1 ++ x)) (ap₂ (λ (n : ℕ) (x : List ℕ). ranked_length n ++ x) (sym (ap length (items_there ds))) (sym (ranked_items-items_of ds)))
ranked_value-datum (values.Map None) = refl
ranked_value-datum (values.Map (Some ms)) = ap (λ (x : List ℕ). word 17 ++ (word 1 ++ x)) (ap₂ (λ (n : ℕ) (x : List ℕ). ranked_length n ++ x) (sym (ap length (members_there ms))) (sym (ranked_members-members_of ms)))
ranked_value-datum (values.ContractInstance i) = instance_bytes-datum i.executable i.storage
ranked_value-datum (values.Bool x) = refl
ranked_value-datum values.Void = refl
ranked_value-datum (values.Error x) = refl
ranked_value-datum (values.U32 x) = refl
ranked_value-datum (values.I32 x) = refl
ranked_value-datum (values.U64 x) = refl
ranked_value-datum (values.I64 x) = refl
ranked_value-datum (values.Timepoint x) = refl
ranked_value-datum (values.Duration x) = refl
ranked_value-datum (values.U128 x) = refl
ranked_value-datum (values.I128 x) = refl
ranked_value-datum (values.U256 x) = refl
ranked_value-datum (values.I256 x) = refl
ranked_value-datum (values.Bytes x) = refl
ranked_value-datum (values.String x) = refl
ranked_value-datum (values.Symbol x) = refl
ranked_value-datum (values.Address x) = refl
ranked_value-datum values.LedgerKeyContractInstance = refl
ranked_value-datum (values.LedgerKeyNonce x) = refl

-- what decides between two rests decides between the rows
abbrev pub Carries : List ℕ → List ℕ → List ℕ → List ℕ → Type 0
Carries xs ys us vs = (o : Ordering) → Against xs ys o → Against us vs o

module _ {A B : Type 0} (f : B → List ℕ) (view : A → B) where
  row_next : (xs : List A) (i : ℕ) (x : A) → i < length xs → x ≡ get_or xs i x → flat_map f (map view (drop i xs)) ≡ f (view x) ++ flat_map f (map view (drop (suc i) xs))
  row_next [] i x lt e = absurd (omega arith)
  row_next (y ∷ xs) zero x lt e = ap (λ (z : A). f (view z) ++ flat_map f (map view xs)) (sym e)
  row_next (y ∷ xs) (suc i) x lt e = row_next xs i x (omega arith) e

  pub row_unequal : (xs ys : List A) (i : ℕ) (x y : A) (o : Ordering) → i < length xs → i < length ys → x ≡ get_or xs i x → y ≡ get_or ys i y
      → Carries (flat_map f (map view (drop i xs))) (flat_map f (map view (drop i ys))) (flat_map f (map view xs)) (flat_map f (map view ys))
      → Against (f (view x)) (f (view y)) o → (o ≡ Equal → ⊥) → Against (flat_map f (map view xs)) (flat_map f (map view ys)) o
  row_unequal xs ys i x y o lt mt e g carries h n = carries o (rw (row_next xs i x lt e, row_next ys i y mt g) (first (f (view x)) (f (view y)) _ _ o h n))

  pub row_equal : (xs ys : List A) (i : ℕ) (x y : A) → i < length xs → i < length ys → x ≡ get_or xs i x → y ≡ get_or ys i y
      → Carries (flat_map f (map view (drop i xs))) (flat_map f (map view (drop i ys))) (flat_map f (map view xs)) (flat_map f (map view ys))
      → Against (f (view x)) (f (view y)) Equal
      → Carries (flat_map f (map view (drop (i + 1) xs))) (flat_map f (map view (drop (i + 1) ys))) (flat_map f (map view xs)) (flat_map f (map view ys))
  row_equal xs ys i x y lt mt e g carries h = rw add-one (λ o k. carries o (rw (row_next xs i x lt e, row_next ys i y mt g) (both (f (view x)) (f (view y)) _ _ Equal o h k)))

pub as_data : (v w : ScVal) (o : Ordering) → Against (ranked_value v) (ranked_value w) o → Against (ranked_of (datum v)) (ranked_of (datum w)) o
as_data v w o h = rw (← ranked_value-datum v, ← ranked_value-datum w) h

pair_bytes : (e : Entry) → ranked_value e.key ++ ranked_value e.val ≡ ranked_pair (datum_pair e)
pair_bytes e = ap₂ (λ (x y : List ℕ). x ++ y) (ranked_value-datum e.key) (ranked_value-datum e.val)

pub as_pairs : (d e : Entry) (o : Ordering) → Against (ranked_value d.key ++ ranked_value d.val) (ranked_value e.key ++ ranked_value e.val) o → Against (ranked_pair (datum_pair d)) (ranked_pair (datum_pair e)) o
as_pairs d e o h =
    subst (λ (x : List ℕ). Against x (ranked_pair (datum_pair e)) o) (pair_bytes d)
    (subst (λ (y : List ℕ). Against (ranked_value d.key ++ ranked_value d.val) y o) (pair_bytes e) h)

-- a value is Equal to itself
pub same_value : (v w : ScVal) → v ≡ w → Against (ranked_value v) (ranked_value w) Equal
same_value v w e = subst (λ (u : ScVal). Against (ranked_value v) (ranked_value u) Equal) e (alike (ranked_value v))
