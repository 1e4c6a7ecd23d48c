-- The words of a call of an import are as many as its arguments.
use Rattle.std.proofs.Common.{◌≡◌, ℕ, zero, suc, Bool, true, false, List, [], ◌∷◌, ◌++◌, length, map, Option, Some, None, refl, sym, ap, ◌∙◌, subst, slice_get}
use Rattle.std.specs.Prelude.{if◌then◌else◌, option_map}
use Rattle.std.proofs.lemmas.List.{length-replicate}
use Rattle.std.proofs.lemmas.Option.{slice_get-map}
use Rattle.std.specs.List.{AllByRecursion}
use Rattle.wasm_spec.specs.declared.types.ValueType.TheVariants.{I64}
use Rattle.wasm_spec.specs.declared.types.FuncType.{FuncType}
use Rattle.wasm_spec.specs.declared.module.Import.{Import}
use Rattle.wasm_spec.specs.declared.module.Module.{Module}
use Rattle.wasm_spec.specs.Meaning.{NamesImport}
use Rattle.wasm_spec.specs.Typing.{◌>>=◌, function_type}
use Rattle.wasm_run.specs.Suspended.{EventNames}
use Rattle.wasm_run.specs.declared.instance.Event.{Event}
use Rattle.wasm_run.specs.declared.instance.Event.TheVariants as event
use Rattle.host_interface.specs.Rows.{Row, host_rows}
use Rattle.module_spec.specs.Linking.{find_row, typed_row, import_row, matches}
use Rattle.wasm_check.proofs.Lemmas.{found_is}
use Rattle.module_spec.specs.Loading.{row_at}
use Rattle.host_spec.specs.Indices.{arguments_of}

abbrev HasKinds : Row → Type 0
HasKinds row = row.arguments ≡ arguments_of row.import

all_have : AllByRecursion HasKinds host_rows
all_have = (refl, (refl, (refl, (refl, (refl, (refl, (refl, (refl, (refl, (refl, (refl, (refl, (refl, (refl, (refl, (refl, (refl, (refl, (refl, (refl, (refl, (refl, (refl, (refl, (refl, (refl, (refl, (refl, (refl, (refl, (refl, (refl, (refl, (refl, (refl, (refl, (refl, (refl, (refl, (refl, (refl, (refl, (refl, (refl, (refl, (refl, (refl, (refl, (refl, (refl, (refl, (refl, (refl, (refl, (refl, (refl, (refl, (refl, (refl, (refl, (refl, (refl, (refl, (refl, (refl, (refl, (refl, (refl, (refl, (refl, (refl, (refl, (refl, (refl, (refl, (refl, (refl, (refl, (refl, (refl, (refl, (refl, (refl, (refl, (refl, (refl, (refl, (refl, (refl, (refl, (refl, (refl, (refl, (refl, tt))))))))))))))))))))))))))))))))))))))))))))))))))))))))))))))))))))))))))))))))))))))))))))))

by_match : (r row : Row) (o : Option Row) (b : Bool) → HasKinds r → (o ≡ Some row → HasKinds row) → (if b then Some r else o) ≡ Some row → HasKinds row
by_match r row o true h later e = let same : r ≡ row = cc in subst HasKinds same h
by_match r row o false h later e = later e

found_has : (rows : List Row) (i : Import) (t : FuncType) (row : Row) → AllByRecursion HasKinds rows → find_row rows i t ≡ Some row → HasKinds row
found_has [] i t row h e = cc
found_has (r ∷ rows) i t row h e = by_match r row (find_row rows i t) (matches i t r) h.0 (found_has rows i t row h.1) e

front : {A : Type 0} (xs ys : List A) (n : ℕ) (x : A) → slice_get xs n ≡ Some x → slice_get (xs ++ ys) n ≡ Some x
front [] ys n x e = cc
front (y ∷ xs) ys zero x e = e
front (y ∷ xs) ys (suc n) x e = front xs ys n x e

-- the type of an import is that of its index
import_type : (m : Module) (f : ℕ) (i : Import) → slice_get m.imports f ≡ Some i → function_type m f ≡ slice_get m.types i.type_index
import_type m f i e =
    let index : slice_get (map (λ (x : Import). x.type_index) m.imports) f ≡ Some i.type_index = slice_get-map (λ (x : Import). x.type_index) m.imports f ∙ ap (option_map (λ (x : Import). x.type_index)) e in
    ap (λ o. o >>= slice_get m.types) (front (map (λ (x : Import). x.type_index) m.imports) _ f i.type_index index)

by_type : (m : Module) (f : ℕ) (words : List ℕ) (i : Import) (row : Row) (o : Option FuncType) → slice_get m.types i.type_index ≡ o → function_type m f ≡ slice_get m.types i.type_index → typed_row host_rows i o ≡ Some row
    → NamesImport m f words → length words ≡ length (arguments_of row.import)
by_type m f words i row None types own e names = cc
by_type m f words i row (Some t) types own e names =
    let same : names.1.0 ≡ t = (let s : Some names.1.0 ≡ Some t = sym names.1.1 ∙ own ∙ types in cc) in
    let is = found_is i t host_rows row e in
    names.1.2 ∙ ap (λ (x : FuncType). length x.params) same ∙ ap length is.2 ∙ length-replicate (length row.arguments) I64 ∙ ap length (found_has host_rows i t row all_have e)

by_import : (m : Module) (f : ℕ) (words : List ℕ) (row : Row) (o : Option Import) → slice_get m.imports f ≡ o → (o >>= import_row host_rows m) ≡ Some row → NamesImport m f words
    → length words ≡ length (arguments_of row.import)
by_import m f words row None at e names = cc
by_import m f words row (Some i) at e names = by_type m f words i row (slice_get m.types i.type_index) refl (import_type m f i at) e names

pub arity_is : (m : Module) (f : ℕ) (words : List ℕ) (row : Row) → NamesImport m f words → row_at m f ≡ Some row → length words ≡ length (arguments_of row.import)
arity_is m f words row names e = by_import m f words row (slice_get m.imports f) refl e names

-- the same of a call that an event names
pub event_arity : (m source : Module) (e : Event) (f : ℕ) (words : List ℕ) (row : Row) → e ≡ event.HostCall f words → EventNames source e → source ≡ m → row_at m f ≡ Some row
    → length words ≡ length (arguments_of row.import)
event_arity m source e f words row is names same at = arity_is m f words row (subst (λ x. NamesImport x f words) same (subst (EventNames source) is names)) at
