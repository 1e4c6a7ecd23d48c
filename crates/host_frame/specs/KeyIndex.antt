-- Where a key stands among the members of a map (own).
use Rattle.std.specs.Prelude.{◌≡◌, ℕ, List, [], ◌∷◌, take, drop, true}
use Rattle.std.specs.List.{AllByRecursion}
use Rattle.std.specs.Ordering.{is_lt}
use Rattle.std.specs.declared.cmp.Ordering.TheVariants.{Equal}
use Rattle.value_types.specs.Datum.{Datum, members_of}
use Rattle.value_types.specs.Order.{datum_cmp}
use Rattle.host_spec.specs.Hosted.{is_below}
use Rattle.host_spec.specs.MapRows.{Member}

-- each of these keys is below another
abbrev pub AreBelow : Datum → List Member → Type 0
AreBelow k ms = AllByRecursion (λ m. is_lt (datum_cmp m.0 k) ≡ true) ms

-- the first of these keys is another
abbrev pub IsFirst : Datum → List Member → Type 0
IsFirst k [] = ⊥
IsFirst k (m ∷ ms) = datum_cmp k m.0 ≡ Equal

-- the key is the one at this index
pub record IsThere (k : Datum) (ms : List Member) (i : ℕ) : Type 0 where
  pub below : AreBelow k (take i ms)
  pub first : IsFirst k (drop i ms)

-- the key would stand at this index
pub record IsGap (k : Datum) (ms : List Member) (i : ℕ) : Type 0 where
  pub below : AreBelow k (take i ms)
  pub above : is_below k (members_of (drop i ms)) ≡ true
