-- A value that has a spelling is at most 100 levels deep.
use Rattle.std.proofs.Common.{◌≡◌, ℕ, zero, suc, ◌<◌, ◌≤◌, ◌^◌, List, [], ◌∷◌, length, Option, Some, None, IfSome, subst, arith}
use Rattle.std.specs.List.{AllByRecursion}
use Rattle.xdr_spec.specs.Format.{optional}
use Rattle.value_types.specs.Datum.{Datum, items_of, members_of}
use Rattle.value_types.specs.Depth.{depth_of, items_depth, members_depth, value_depth}
use Rattle.value_types.specs.Formats.{entry_format, member_format, scval_format, value_format}
use Rattle.value_types.proofs.Lemmas.{datum-scval}
use Rattle.value_types.specs.Views.{instance_datum, scval}
use Rattle.value_types.specs.declared.executable.Executable.{Executable}
use Rattle.value_types.specs.declared.value.ScVal.{ScVal}
use Rattle.value_types.specs.declared.value.ScVal.TheVariants as values

items_at_most : (n : ℕ) (ds : List Datum) → AllByRecursion (λ d. depth_of d ≤ n) ds → items_depth (items_of ds) ≤ n
items_at_most n [] h = omega arith
items_at_most n (d ∷ ds) h = omega (arith, h.0, items_at_most n ds h.1)

members_at_most : (n : ℕ) (ms : List (Datum × Datum)) → AllByRecursion (λ (m : Datum × Datum). (depth_of m.0 ≤ n) × (depth_of m.1 ≤ n)) ms → members_depth (members_of ms) ≤ n
members_at_most n [] h = omega arith
members_at_most n (m ∷ ms) h = omega (arith, h.0.0, h.0.1, members_at_most n ms h.1)

all_from : {A : Type 0} (P Q : A → Type 0) → ((x : A) → P x → Q x) → (xs : List A) → AllByRecursion P xs → AllByRecursion Q xs
all_from P Q each [] h = tt
all_from P Q each (x ∷ xs) h = (each x h.0, all_from P Q each xs h.1)

-- what is known of values with n levels below them
abbrev Levels : ℕ → Type 0
Levels n = (v : ScVal) → (value_format n).fits v → value_depth v ≤ suc n

member_level : (n : ℕ) → Levels n → (d : Datum) → (member_format (value_format n)).fits d → depth_of d ≤ suc n
member_level n levels d h = subst (λ (e : Datum). depth_of e ≤ suc n) (datum-scval d) (levels (scval d) h)

-- the storage of an instance with no level below it, and with some
last_storage : (e : Executable) (o : Option (List (Datum × Datum))) → IfSome o (λ ms. ms ≡ []) → depth_of (instance_datum e o) ≤ 1
last_storage e None h = omega arith
last_storage e (Some ms) h = rw h (omega arith)

storage_level : (n : ℕ) → Levels n → (e : Executable) (o : Option (List (Datum × Datum))) → IfSome o (λ ms. (length ms < 2 ^ 32) × AllByRecursion (entry_format n).fits ms) → depth_of (instance_datum e o) ≤ suc (suc n)
storage_level n below e None h = omega arith
storage_level n below e (Some ms) h =
    omega (arith, members_at_most (suc n) ms (all_from _ _ (λ m p. (member_level n below m.0 p.0, member_level n below m.1 p.1)) ms h.1))

levels : (n : ℕ) → Levels n
unfolding value_format optional
levels zero (values.Vec None) h = omega arith
levels zero (values.Vec (Some ds)) h = let none : ds ≡ [] = h in rw none (omega arith)
levels zero (values.Map None) h = omega arith
levels zero (values.Map (Some ms)) h = let none : ms ≡ [] = h in rw none (omega arith)
levels zero (values.ContractInstance i) h = last_storage i.executable i.storage h.1
levels zero _ h = omega arith
levels (suc n) (values.Vec None) h = omega arith
levels (suc n) (values.Vec (Some ds)) h =
    omega (arith, items_at_most (suc n) ds (all_from _ _ (member_level n (levels n)) ds h.1))
levels (suc n) (values.Map None) h = omega arith
levels (suc n) (values.Map (Some ms)) h =
    omega (arith, members_at_most (suc n) ms (all_from _ _ (λ m p. (member_level n (levels n) m.0 p.0, member_level n (levels n) m.1 p.1)) ms h.1))
levels (suc n) (values.ContractInstance i) h = storage_level n (levels n) i.executable i.storage h.1
levels (suc n) _ h = omega arith

pub depth_at_most : (v : ScVal) → scval_format.fits v → value_depth v ≤ 100
unfolding scval_format
depth_at_most v h = omega (arith, levels 99 v h)
