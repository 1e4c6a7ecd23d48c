-- The tests of the rules outside bodies are passed exactly where the rules hold.
use Rattle.std.proofs.Common.{◌≡◌, ◌≢◌, ℕ, ◌+◌, ◌^◌, ◌<◌, ◌≤◌, Bool, true, false, List, [], ◌∷◌, length, map, Option, Some, None, refl, sym, ap, ap₂, ◌∙◌, subst, length-append}
use Rattle.std.specs.Prelude.{◌&&◌, not, nat_le, nat_lt, IfSome}
use Rattle.std.specs.List.{list_all, AllByRecursion}
use Rattle.std.specs.Str.{bytes_eq}
use Rattle.std.proofs.lemmas.Bool.{ltb-true, lt-ltb, leb-true, le-leb, not-true}
use Rattle.std.proofs.lemmas.List.{length-map}
use Rattle.std.proofs.lemmas.Slice.Eq.{bytes_eq-Decides}
use Rattle.wasm_spec.specs.declared.types.ValueType.{ValueType}
use Rattle.wasm_spec.specs.declared.types.ValueType.TheVariants.{I32, I64}
use Rattle.wasm_spec.specs.declared.types.FuncType.{FuncType}
use Rattle.wasm_spec.specs.declared.types.ResizableLimits.{ResizableLimits}
use Rattle.wasm_spec.specs.declared.types.TableType.{TableType}
use Rattle.wasm_spec.specs.declared.module.Import.{Import}
use Rattle.wasm_spec.specs.declared.module.Function.{Function}
use Rattle.wasm_spec.specs.declared.module.Global.{Global}
use Rattle.wasm_spec.specs.declared.module.Export.{Export}
use Rattle.wasm_spec.specs.declared.module.Element.{Element}
use Rattle.wasm_spec.specs.declared.module.Data.{Data}
use Rattle.wasm_spec.specs.declared.module.Module.{Module}
use Rattle.wasm_spec.specs.Typing.{TypeValid, LimitsValid, TableValid, MemoryValid, GlobalValid, ElementValid, DataValid, ExportValid, AreDistinct, OutsideValid, function_indices, constant_type, count_of, MOST_PAGES, MOST_ELEMENTS}
use Rattle.wasm_spec.specs.Binary.{type_indices}
use Rattle.module_spec.specs.Check.{same_type}
use Rattle.module_spec.specs.Outside.{is_type, max_ok, limits_ok, element_ok, data_ok, types_ok, sizes_ok, values_ok, rules_ok, is_new, exports_differ}
use Rattle.wasm_check.proofs.Passed.{and_true, both_true, all_back, all_on}

-- two ways to say the same
pub record Same (b : Bool) (P : Type 0) : Type 0 where
  pub back : b ≡ true → P
  pub on : P → b ≡ true

pub same_and : {a b : Bool} {P Q : Type 0} → Same a P → Same b Q → Same (a && b) (P × Q)
same_and {a} {b} p q = record { back = λ e. let h = and_true a b e in (p.back h.0, q.back h.1); on = λ h. both_true a b (p.on h.0) (q.on h.1) }

pub same_all : {A : Type 0} {p : A → Bool} {P : A → Type 0} → ((x : A) → Same (p x) (P x)) → (xs : List A) → Same (list_all p xs) (AllByRecursion P xs)
same_all {A} {p} {P} each xs = record { back = all_back p P (λ x. (each x).back) xs; on = all_on p P (λ x. (each x).on) xs }

same_lt : (a b : ℕ) → Same (nat_lt a b) (a < b)
same_lt a b = record { back = ltb-true a b; on = lt-ltb a b }

same_le : (a b : ℕ) → Same (nat_le a b) (a ≤ b)
same_le a b = record { back = leb-true a b; on = le-leb a b }

pub same_type_true : (t u : ValueType) → same_type t u ≡ true → t ≡ u
same_type_true I32 I32 e = refl
same_type_true I32 I64 e = cc
same_type_true I64 I32 e = cc
same_type_true I64 I64 e = refl

pub same_type_refl : (t : ValueType) → same_type t t ≡ true
same_type_refl I32 = refl
same_type_refl I64 = refl

same_is_type : (o : Option ValueType) (t : ValueType) → Same (is_type o t) (o ≡ Some t)
same_is_type None t = record { back = λ (e : false ≡ true). cc; on = λ (e : None ≡ Some t). cc }
same_is_type (Some u) t = record { back = λ e. ap Some (same_type_true u t e); on = λ e. let k : u ≡ t = some_is u t e in ap (λ x. same_type x t) k ∙ same_type_refl t }
  where
    some_is : (u t : ValueType) → Some u ≡ Some t → u ≡ t
    some_is u t e = cc

same_max : (min most : ℕ) (o : Option ℕ) → Same (max_ok min most o) (IfSome o (λ n. (min ≤ n) × (n ≤ most)))
same_max min most None = record { back = λ _. tt; on = λ _. refl }
same_max min most (Some n) = same_and (same_le min n) (same_le n most)

same_limits : (bound most : ℕ) (l : ResizableLimits) → Same (limits_ok bound most l) (LimitsValid bound most l)
same_limits bound most l = same_and (same_le l.min bound) (same_max l.min most l.max)

-- how many functions there are
pub indices_length : (m : Module) → length (function_indices m) ≡ length m.imports + length m.functions
indices_length m =
    length-append (map (λ (i : Import). i.type_index) m.imports) (type_indices m.functions)
    ∙ ap₂ (λ (a b : ℕ). a + b) (length-map m.imports (λ (i : Import). i.type_index)) (length-map m.functions (λ (f : Function). f.type_index))

same_below : (a b c : ℕ) → b ≡ c → Same (nat_lt a c) (a < b)
same_below a b c e = record { back = λ h. subst (λ n. a < n) (sym e) (ltb-true a c h); on = λ h. lt-ltb a c (subst (λ n. a < n) e h) }

same_element : (m : Module) (e : Element) → Same (element_ok m e) (ElementValid m e)
same_element m e = flat (same_and (same_lt e.table (length m.tables)) (same_and (same_is_type (constant_type m.globals e.offset) I32) (same_all (λ f. same_below f (length (function_indices m)) (length m.imports + length m.functions) (indices_length m)) e.functions)))
  where
    flat : {b : Bool} {P Q R : Type 0} → Same b (P × (Q × R)) → Same b (P × Q × R)
    flat s = record { back = λ e. let h = s.back e in (h.0, h.1.0, h.1.1); on = λ h. s.on (h.0, (h.1, h.2)) }

same_data : (m : Module) (d : Data) → Same (data_ok m d) (DataValid m d)
same_data m d = same_and (same_lt d.memory (length m.memories)) (same_is_type (constant_type m.globals d.offset) I32)

-- names

same_new : (name : List ℕ) (es : List Export) → Same (is_new name es) (AllByRecursion (λ y. name ≢ y) (map (λ (e : Export). e.name) es))
same_new name [] = record { back = λ _. tt; on = λ _. refl }
same_new name (e ∷ es) =
    let d = bytes_eq-Decides name e.name in
    let r = same_new name es in
    same_and (record { back = λ q p. absurd (differ (bytes_eq name e.name) (not-true (bytes_eq name e.name) q) (d.1 p)); on = λ ne. equal (bytes_eq name e.name) (λ q. ne (d.0 q)) }) r
  where
    differ : (b : Bool) → b ≡ false → b ≡ true → ⊥
    differ b e f = cc

    equal : (b : Bool) → (b ≡ true → ⊥) → not b ≡ true
    equal true ne = absurd (ne refl)
    equal false ne = refl

same_names : (es : List Export) → Same (exports_differ es) (AreDistinct (map (λ (e : Export). e.name) es))
same_names [] = record { back = λ _. tt; on = λ _. refl }
same_names (e ∷ es) = same_and (same_new e.name es) (same_names es)

-- all of them

same_types : (m : Module) → Same (types_ok m) (AllByRecursion TypeValid m.types × (AllByRecursion (λ (i : Import). i.type_index < length m.types) m.imports × AllByRecursion (λ (f : Function). f.type_index < length m.types) m.functions))
same_types m = same_and (same_all (λ (t : FuncType). same_le (length t.results) 1) m.types) (same_and (same_all (λ (i : Import). same_lt i.type_index (length m.types)) m.imports) (same_all (λ (f : Function). same_lt f.type_index (length m.types)) m.functions))

same_sizes : (m : Module) → Same (sizes_ok m) ((length (function_indices m) < 2 ^ 32) × ((length m.tables ≤ 1) × (AllByRecursion TableValid m.tables × ((length m.memories ≤ 1) × AllByRecursion MemoryValid m.memories))))
same_sizes m =
    same_and (few (indices_length m))
    (same_and (same_le (length m.tables) 1) (same_and (same_all (λ (t : TableType). same_limits MOST_ELEMENTS (2 ^ 32) t.limits) m.tables) (same_and (same_le (length m.memories) 1) (same_all (λ (l : ResizableLimits). same_limits MOST_PAGES (2 ^ 16) l) m.memories))))
  where
    few : {a b : ℕ} → a ≡ b → Same (nat_lt b (2 ^ 32)) (a < 2 ^ 32)
    few {a} {b} e = record { back = λ h. subst (λ n. n < 2 ^ 32) (sym e) (ltb-true b (2 ^ 32) h); on = λ h. lt-ltb b (2 ^ 32) (subst (λ n. n < 2 ^ 32) e h) }

same_values : (m : Module) → Same (values_ok m) (AllByRecursion GlobalValid m.globals × (AllByRecursion (ElementValid m) m.elements × (AllByRecursion (DataValid m) m.data × AllByRecursion (ExportValid m) m.exports)))
same_values m =
    same_and (same_all (λ (g : Global). same_is_type (constant_type [] g.init) g.value_type) m.globals)
    (same_and (same_all (same_element m) m.elements) (same_and (same_all (same_data m) m.data) (same_all (λ (e : Export). same_lt e.index (count_of m e.kind)) m.exports)))

pub outside_back : (m : Module) → rules_ok m ≡ true → exports_differ m.exports ≡ true → OutsideValid m
outside_back m e d =
    let r = (same_and (same_types m) (same_and (same_sizes m) (same_values m))).back e in
    record {
      few_functions = r.1.0.0;
      types = r.0.0;
      imports = r.0.1.0;
      functions = r.0.1.1;
      one_table = r.1.0.1.0;
      tables = r.1.0.1.1.0;
      one_memory = r.1.0.1.1.1.0;
      memories = r.1.0.1.1.1.1;
      globals = r.1.1.0;
      elements = r.1.1.1.0;
      data_ = r.1.1.1.1.0;
      exports = r.1.1.1.1.1;
      names = (same_names m.exports).back d;
    }

pub outside_on : (m : Module) → OutsideValid m → (rules_ok m ≡ true) × (exports_differ m.exports ≡ true)
outside_on m v = (
  (same_and (same_types m) (same_and (same_sizes m) (same_values m))).on
      ((v.types, (v.imports, v.functions)), ((v.few_functions, (v.one_table, (v.tables, (v.one_memory, v.memories)))), (v.globals, (v.elements, (v.data_, v.exports))))),
  (same_names m.exports).on v.names,
)
