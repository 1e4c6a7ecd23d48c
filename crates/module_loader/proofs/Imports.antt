-- The rows of a linked module's imports.
use Rattle.std.proofs.Common.{◌≡◌, ℕ, zero, suc, ◌+◌, ◌<◌, true, List, [], ◌∷◌, ◌++◌, length, get_or, take, map, Option, Some, None, refl, sym, ap, ap₂, ◌∙◌, arith}
use Rattle.std.specs.Prelude.{slice_get, is_some}
use Rattle.std.specs.List.{AllByRecursion}
use Rattle.std.proofs.lemmas.List.{map_more, map-append}
use Rattle.std.proofs.lemmas.Option.{slice_get_read}
use Rattle.wasm_spec.specs.declared.module.Import.{Import}
use Rattle.wasm_spec.specs.declared.module.Module.{Module}
use Rattle.wasm_spec.specs.Typing.{◌>>=◌}
use Rattle.host_interface.specs.Rows.{Row, host_rows}
use Rattle.module_spec.specs.Linking.{ImportLinked, IsFirstUnlinked, import_row}
use Rattle.wasm_check.proofs.Lemmas.{same_import}

-- the row of an index, from the rows in their order
pub row_found : {A : Type 0} (g : Import → Option Row) (f : A → Row) (is : List Import) (xs : List A) (k : ℕ) (x : A) → map g is ≡ map Some (map f xs) → k < length is → x ≡ get_or xs k x → (slice_get is k >>= g) ≡ Some (f x)
row_found g f [] xs k x e lt at = absurd (omega arith)
row_found g f (i ∷ is) [] k x e lt at = cc
row_found g f (i ∷ is) (y ∷ ys) zero x e lt at = let here : g i ≡ Some (f y) = cc in here ∙ ap (λ z. Some (f z)) (sym at)
row_found g f (i ∷ is) (y ∷ ys) (suc k) x e lt at = let rest : map g is ≡ map Some (map f ys) = cc in row_found g f is ys k x rest (omega arith) at

-- one row more
pub rows_more : {A : Type 0} (g : Import → Option Row) (f : A → Row) (is : List Import) (xs : List A) (k : ℕ) (i : Import) (x : A) → k < length is → i ≡ get_or is k i → g i ≡ Some (f x)
    → map g (take k is) ≡ map Some (map f xs) → map g (take (k + 1) is) ≡ map Some (map f (xs ++ x ∷ []))
rows_more g f is xs k i x lt at e h =
    map_more g is k i lt ∙ ap₂ (λ (l : List (Option Row)) (o : Option Row). l ++ o ∷ []) h (ap g (sym at) ∙ e)
    ∙ sym (ap (map Some) (map-append f xs (x ∷ [])) ∙ map-append Some (map f xs) (f x ∷ []))

-- imports that have rows are linked
pub all_linked : (m : Module) (is : List Import) (rows : List Row) → map (import_row host_rows m) is ≡ map Some rows → AllByRecursion (ImportLinked host_rows m) is
all_linked m [] rows e = tt
all_linked m (i ∷ is) [] e = cc
all_linked m (i ∷ is) (row ∷ rows) e =
    let here : import_row host_rows m i ≡ Some row = cc in
    let rest : map (import_row host_rows m) is ≡ map Some rows = cc in
    ((same_import host_rows m i).back (ap is_some here), all_linked m is rows rest)

has_none : (o : Option Row) → o ≡ None → is_some o ≡ true → ⊥
has_none None e t = cc
has_none (Some r) e t = cc

-- the first import without a row
pub first_unlinked : (m : Module) (k : ℕ) (i : Import) (rows : List Row) → k < length m.imports → i ≡ get_or m.imports k i → import_row host_rows m i ≡ None → map (import_row host_rows m) (take k m.imports) ≡ map Some rows
    → IsFirstUnlinked host_rows m k
first_unlinked m k i rows lt at none before =
    (i, slice_get_read m.imports (length m.imports) k i refl lt at, λ linked. has_none (import_row host_rows m i) none ((same_import host_rows m i).on linked), all_linked m (take k m.imports) rows before)
