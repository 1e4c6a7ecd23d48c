-- Names of exports, no two of which may be equal.
use Rattle.std.specs.BTreeSet.{BTreeSet, contains}
use Rattle.std.specs.List.{list_any}
use Rattle.std.specs.Str.{bytes_eq}
use Rattle.std.proofs.Common.{◌≡◌, ℕ, ◌<◌, Bool, true, false, not, ◌||◌, ◌&&◌, List, [], ◌∷◌, length, get_or, take, map, Bor, refl, sym, ap, ap₂, ◌∙◌}
use Rattle.list_laws.specs.Twice.{stand_twice}
use Rattle.list_laws.proofs.Lemmas.{Holds, found_twice, order}
use Rattle.wasm_spec.specs.declared.module.Export.{Export}
use Rattle.module_spec.specs.Outside.{is_new, exports_differ}

abbrev pub name_of : Export → List ℕ
name_of export = export.name

abbrev pub names_of : List Export → List (List ℕ)
names_of exports = map name_of exports

not_or : (a b : Bool) → not (a || b) ≡ (not a && not b)
not_or true b = refl
not_or false b = refl

new_names : (name : List ℕ) (es : List Export) → is_new name es ≡ not (list_any (bytes_eq name) (names_of es))
new_names name [] = refl
new_names name (e ∷ es) = ap (λ (b : Bool). not (bytes_eq name e.name) && b) (new_names name es) ∙ sym (not_or (bytes_eq name e.name) (list_any (bytes_eq name) (names_of es)))

pub differ_names : (es : List Export) → exports_differ es ≡ not (stand_twice (names_of es))
differ_names [] = refl
differ_names (e ∷ es) = ap₂ (λ (a b : Bool). a && b) (new_names e.name es) (differ_names es) ∙ sym (not_or (list_any (bytes_eq e.name) (names_of es)) (stand_twice (names_of es)))

-- the name is in the set of the names before it
pub repeated_name : (es : List Export) (i : ℕ) (e : Export) (seen : BTreeSet (Bor (List ℕ))) (k : Bor (List ℕ)) (added : Bool) → i < length es → e ≡ get_or es i e
    → Holds seen (names_of (take i es)) → k.now ≡ e.name → added ≡ not (contains order seen k) → added ≡ false → false ≡ exports_differ es
repeated_name es i e seen k added lt is holds text a b = sym (differ_names es ∙ ap (λ (c : Bool). not c) (found_twice name_of es i e seen k added lt is holds text a b))
