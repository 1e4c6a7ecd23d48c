-- An import has a row exactly if it is one of the host's imports.
use Rattle.std.proofs.Common.{◌≡◌, ℕ, inl, inr, ⊎_elim, Bool, true, false, ◌||◌, cond, List, [], ◌∷◌, length, replicate, Option, Some, None, refl, sym, ap, ap₂, ◌∙◌, subst, suc, zero}
use Rattle.std.specs.Prelude.{◌==◌, ◌&&◌, slice_get, is_some, if◌then◌else◌}
use Rattle.std.specs.Cmp.Lexicographic.{nat_list_eq_equiv}
use Rattle.std.specs.List.{find, list_all, list_any, AllByRecursion}
use Rattle.std.specs.Str.{bytes_eq}
use Rattle.list_laws.specs.Twice.{stand_twice}
use Rattle.host_interface.specs.Named.{is_named}
use Rattle.host_interface.specs.Order.{names_of}
use Rattle.host_interface.specs.Rows.{Row, host_rows}
use Rattle.std.proofs.lemmas.Bool.{eqb-true, eq-eqb}
use Rattle.std.proofs.lemmas.Slice.Eq.{bytes_eq-Decides}
use Rattle.wasm_spec.specs.declared.types.ValueType.{ValueType}
use Rattle.wasm_spec.specs.declared.types.ValueType.TheVariants.{I64}
use Rattle.wasm_spec.specs.declared.types.FuncType.{FuncType}
use Rattle.wasm_spec.specs.declared.module.Import.{Import}
use Rattle.wasm_spec.specs.declared.module.Module.{Module}
use Rattle.module_spec.specs.Check.{same_type}
use Rattle.module_spec.specs.Linking.{SomeOf, IsHostImport, ImportLinked, one_i64, type_matches, matches, with_type, find_row, typed_row, import_ok}
use Rattle.wasm_check.proofs.OutsideLaws.{Same, same_and, same_all, same_type_true, same_type_refl}
use Rattle.wasm_check.proofs.Passed.{and_true, both_true}

same_bytes : (a b : List ℕ) → Same (bytes_eq a b) (a ≡ b)
same_bytes a b = let d = bytes_eq-Decides a b in record { back = d.0; on = d.1 }

-- so many values of 64 bits

params_back : (n : ℕ) (ts : List ValueType) → length ts ≡ n → AllByRecursion (λ p. p ≡ I64) ts → ts ≡ replicate n I64
params_back zero [] l h = refl
params_back zero (t ∷ ts) l h = cc
params_back (suc n) [] l h = cc
params_back (suc n) (t ∷ ts) l h = let k : length ts ≡ n = cc in ap₂ (λ (x : ValueType) (xs : List ValueType). x ∷ xs) h.0 (params_back n ts k h.1)

all_replicate : (n : ℕ) → AllByRecursion (λ p. p ≡ I64) (replicate n I64)
all_replicate zero = tt
all_replicate (suc n) = (refl, all_replicate n)

count_replicate : (n : ℕ) → length (replicate n I64) ≡ n
count_replicate zero = refl
count_replicate (suc n) = ap suc (count_replicate n)

same_is : (t : ValueType) → Same (same_type t I64) (t ≡ I64)
same_is t = record { back = same_type_true t I64; on = λ e. ap (λ x. same_type x I64) e ∙ same_type_refl I64 }

same_one : (ts : List ValueType) → Same (one_i64 ts) (ts ≡ I64 ∷ [])
same_one [] = record { back = λ (e : false ≡ true). cc; on = λ (e : [] ≡ I64 ∷ []). cc }
same_one (t ∷ []) = record { back = λ e. ap (λ x. x ∷ []) (same_type_true t I64 e); on = λ e. let k : t ≡ I64 = head t e in (same_is t).on k }
  where
    head : (t : ValueType) → t ∷ [] ≡ I64 ∷ [] → t ≡ I64
    head t e = cc
same_one (t ∷ u ∷ ts) = record { back = λ (e : false ≡ true). cc; on = λ (e : t ∷ u ∷ ts ≡ I64 ∷ []). cc }

same_signature : (n : ℕ) (t : FuncType) → Same (type_matches n t) ((t.params ≡ replicate n I64) × (t.results ≡ I64 ∷ []))
same_signature n t = record { back = back; on = on }
  where
    back : type_matches n t ≡ true → (t.params ≡ replicate n I64) × (t.results ≡ I64 ∷ [])
    back e =
        let h = and_true (length t.params == n) (list_all (λ p. same_type p I64) t.params && one_i64 t.results) e in
        let k = and_true (list_all (λ p. same_type p I64) t.params) (one_i64 t.results) h.1 in
        (params_back n t.params (eqb-true (length t.params) n h.0) ((same_all same_is t.params).back k.0), (same_one t.results).back k.1)

    on : (t.params ≡ replicate n I64) × (t.results ≡ I64 ∷ []) → type_matches n t ≡ true
    on h =
        both_true (length t.params == n) (list_all (λ p. same_type p I64) t.params && one_i64 t.results) (eq-eqb (length t.params) n (ap length h.0 ∙ count_replicate n))
        (both_true (list_all (λ p. same_type p I64) t.params) (one_i64 t.results) ((same_all same_is t.params).on (subst (AllByRecursion (λ p. p ≡ I64)) (sym h.0) (all_replicate n))) ((same_one t.results).on h.1))

same_row : (i : Import) (t : FuncType) (row : Row) → Same (matches i t row) (IsHostImport i t row)
same_row i t row = flat (same_and (same_bytes i.module row.letter) (same_and (same_bytes i.name row.name) (same_signature (length row.arguments) t)))
  where
    flat : {b : Bool} {P Q R S : Type 0} → Same b (P × (Q × (R × S))) → Same b (P × Q × R × S)
    flat s = record { back = λ e. let h = s.back e in (h.0, h.1.0, h.1.1.0, h.1.1.1); on = λ h. s.on (h.0, (h.1, (h.2, h.3))) }

-- the row that is found

search_back : (i : Import) (t : FuncType) (row : Row) (rows : List Row) (b : Bool) → matches i t row ≡ b → (is_some (find_row rows i t) ≡ true → SomeOf (IsHostImport i t) rows)
    → is_some (if b then Some row else find_row rows i t) ≡ true → SomeOf (IsHostImport i t) (row ∷ rows)
search_back i t row rows true m later e = inl ((same_row i t row).back m)
search_back i t row rows false m later e = inr (later e)

search_on : (o : Option Row) (row : Row) (b : Bool) → is_some o ≡ true → is_some (if b then Some row else o) ≡ true
search_on o row true e = refl
search_on o row false e = e

same_search : (i : Import) (t : FuncType) (rows : List Row) → Same (is_some (find_row rows i t)) (SomeOf (IsHostImport i t) rows)
same_search i t [] = record { back = λ (e : false ≡ true). cc; on = λ h. absurd h }
same_search i t (row ∷ rows) =
    let later = same_search i t rows in
    record {
      back = λ e. search_back i t row rows (matches i t row) refl later.back e;
      on = λ h. ⊎_elim (λ q. rw ((same_row i t row).on q) refl) (λ q. search_on (find_row rows i t) row (matches i t row) (later.on q)) h;
    }

found_at : (i : Import) (t : FuncType) (r : Row) (o : Option Row) (row : Row) (b : Bool) → matches i t r ≡ b → (o ≡ Some row → IsHostImport i t row) → (if b then Some r else o) ≡ Some row → IsHostImport i t row
found_at i t r o row true m later e = let same : r ≡ row = cc in subst (IsHostImport i t) same ((same_row i t r).back m)
found_at i t r o row false m later e = later e

-- the row that is found is the import's
pub found_is : (i : Import) (t : FuncType) (rows : List Row) (row : Row) → find_row rows i t ≡ Some row → IsHostImport i t row
found_is i t [] row e = cc
found_is i t (r ∷ rows) row e = found_at i t r (find_row rows i t) row (matches i t r) refl (found_is i t rows row) e

same_typed : (rows : List Row) (i : Import) (o : Option FuncType) → Same (is_some (typed_row rows i o)) ((t : FuncType) × (o ≡ Some t) × SomeOf (IsHostImport i t) rows)
same_typed rows i None = record { back = λ (e : false ≡ true). cc; on = λ h. let e = h.1 in never_some h.0 e }
  where
    never_some : (t : FuncType) → None ≡ Some t → false ≡ true
    never_some t e = cc
same_typed rows i (Some u) = record { back = λ e. (u, refl, (same_search i u rows).back e); on = λ h. (same_search i u rows).on (subst (λ t. SomeOf (IsHostImport i t) rows) (sym (some_is u h.0 h.1)) h.2) }
  where
    some_is : (u t : FuncType) → Some u ≡ Some t → u ≡ t
    some_is u t e = cc

pub same_import : (rows : List Row) (m : Module) (i : Import) → Same (import_ok rows m i) (ImportLinked rows m i)
same_import rows m i = same_typed rows i (slice_get m.types i.type_index)

-- ---- the row of the name

both_false : (a b : Bool) → (a || b) ≡ false → (a ≡ false) × (b ≡ false)
both_false false false e = (refl, refl)
both_false false true e = cc
both_false true b e = cc

and_false : (a : Bool) → (a && false) ≡ false
and_false true = refl
and_false false = refl

and_assoc : (a b c : Bool) → ((a && b) && c) ≡ (a && (b && c))
and_assoc true b c = refl
and_assoc false b c = refl

-- a row matches if it has the import's name, and its type
named_and_typed : (i : Import) (t : FuncType) (row : Row) → matches i t row ≡ (is_named i.module i.name row && type_matches (length row.arguments) t)
named_and_typed i t row =
    ap₂ (λ (a b : Bool). a && (b && type_matches (length row.arguments) t)) (nat_list_eq_equiv.symm i.module row.letter) (nat_list_eq_equiv.symm i.name row.name)
    ∙ sym (and_assoc (bytes_eq row.letter i.module) (bytes_eq row.name i.name) (type_matches (length row.arguments) t))

none_of_name : (i : Import) (t : FuncType) (rows : List Row) → list_any (bytes_eq i.name) (names_of rows) ≡ false → find_row rows i t ≡ None
none_of_name i t [] e = refl
none_of_name i t (row ∷ rows) e =
    let h = both_false (bytes_eq i.name row.name) (list_any (bytes_eq i.name) (names_of rows)) e in
    let other : matches i t row ≡ false = ap (λ (b : Bool). bytes_eq i.module row.letter && (b && type_matches (length row.arguments) t)) h.0 ∙ and_false (bytes_eq i.module row.letter) in
    ap (λ (b : Bool). if b then Some row else find_row rows i t) other ∙ none_of_name i t rows h.1

by_head : (i : Import) (t : FuncType) (row : Row) (rows : List Row) (b : Bool) → is_named i.module i.name row ≡ b → list_any (bytes_eq row.name) (names_of rows) ≡ false
    → find_row rows i t ≡ with_type (find (is_named i.module i.name) rows) t → find_row (row ∷ rows) i t ≡ with_type (find (is_named i.module i.name) (row ∷ rows)) t
by_head i t row rows true named none later =
    let typed : matches i t row ≡ type_matches (length row.arguments) t = named_and_typed i t row ∙ ap (λ (b : Bool). b && type_matches (length row.arguments) t) named in
    let same : row.name ≡ i.name = (same_bytes row.name i.name).back (and_true (bytes_eq row.letter i.module) (bytes_eq row.name i.name) named).1 in
    let last : find_row rows i t ≡ None = none_of_name i t rows (subst (λ n. list_any (bytes_eq n) (names_of rows) ≡ false) same none) in
    ap₂ (λ (b : Bool) (o : Option Row). if b then Some row else o) typed last
    ∙ sym (ap (λ (b : Bool). with_type (cond b (Some row) (find (is_named i.module i.name) rows)) t) named)
by_head i t row rows false named none later =
    let other : matches i t row ≡ false = named_and_typed i t row ∙ ap (λ (b : Bool). b && type_matches (length row.arguments) t) named in
    ap (λ (b : Bool). if b then Some row else find_row rows i t) other ∙ later
    ∙ sym (ap (λ (b : Bool). with_type (cond b (Some row) (find (is_named i.module i.name) rows)) t) named)

-- the first row whose host import it is, is the row of its name, if that has the type
by_name : (i : Import) (t : FuncType) (rows : List Row) → stand_twice (names_of rows) ≡ false → find_row rows i t ≡ with_type (find (is_named i.module i.name) rows) t
by_name i t [] distinct = refl
by_name i t (row ∷ rows) distinct =
    let h = both_false (list_any (bytes_eq row.name) (names_of rows)) (stand_twice (names_of rows)) distinct in
    by_head i t row rows (is_named i.module i.name row) refl h.0 (by_name i t rows h.1)

pub host_by_name : (i : Import) (t : FuncType) → find_row host_rows i t ≡ with_type (find (is_named i.module i.name) host_rows) t
host_by_name i t = by_name i t host_rows refl
