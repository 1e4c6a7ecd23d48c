-- Arguments as lists of values.
use Rattle.std.proofs.Common.{◌≡◌, List, [], ◌∷◌, refl, sym, ap, ap₂, ◌∙◌}
use Rattle.std.specs.Prelude.{map}
use Rattle.value_types.specs.Datum.{Datum}
use Rattle.value_types.specs.Views.{scval, datums}
use Rattle.value_types.proofs.Lemmas.{scval-datum, datum-scval}
use Rattle.value_types.specs.declared.value.ScVal.{ScVal}

pub values_back : (xs : List ScVal) → map scval (datums xs) ≡ xs
values_back [] = refl
values_back (x ∷ xs) = ap₂ (λ (y : ScVal) (ys : List ScVal). y ∷ ys) (scval-datum x) (values_back xs)

pub data_back : (ds : List Datum) → datums (map scval ds) ≡ ds
data_back [] = refl
data_back (d ∷ ds) = ap₂ (λ (y : Datum) (ys : List Datum). y ∷ ys) (datum-scval d) (data_back ds)

pub given_back : (xs : List ScVal) (ds : List Datum) → datums xs ≡ ds → xs ≡ map scval ds
given_back xs ds e = sym (values_back xs) ∙ ap (map scval) e
