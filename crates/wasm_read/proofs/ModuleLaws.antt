-- What is read is spelled so, and what is spelled so is read: the parts of modules, sections and modules.
use Rattle.std.proofs.Common.{◌≡◌, ℕ, zero, suc, ◌^◌, ◌<◌, ◌≤◌, inl, inr, ⊎_elim, Bool, true, false, List, [], ◌∷◌, ◌++◌, length, Option, Some, None, refl, sym, ap, ap₂, ◌∙◌, subst, arith, append_assoc, length-append}
use Rattle.std.specs.Prelude.{nat_lt, ◌==◌, if◌then◌else◌}
use Rattle.std.proofs.lemmas.Bool.{eqb-true, eq-eqb, ltb-true, lt-ltb}
use Rattle.wasm_spec.specs.Typing.{◌>>=◌}
use Rattle.wasm_spec.specs.declared.types.FuncType.{FuncType}
use Rattle.wasm_spec.specs.declared.types.TableType.{TableType}
use Rattle.wasm_spec.specs.declared.module.Import.{Import}
use Rattle.wasm_spec.specs.declared.module.Locals.{Locals}
use Rattle.wasm_spec.specs.declared.module.Function.{Function}
use Rattle.wasm_spec.specs.declared.module.Global.{Global}
use Rattle.wasm_spec.specs.declared.module.Export.{Export}
use Rattle.wasm_spec.specs.declared.module.Element.{Element}
use Rattle.wasm_spec.specs.declared.module.Data.{Data}
use Rattle.wasm_spec.specs.declared.module.Module.{Module}
use Rattle.wasm_spec.specs.Code.{Code}
use Rattle.wasm_spec.specs.Opcodes.{value_type_of, mutability_of, export_kind_of}
use Rattle.wasm_spec.specs.Binary.{Spelling, ◌⊗◌, Sized, IsVector, IsValueType, IsFuncType, IsImport, IsU32, IsTable, IsLimits, IsGlobal, IsExport, IsElement, IsData, IsLocals, locals_count, IsFunc, IsExpr, IsCustomContent, AreCustoms, IsSection, MAGIC, type_indices, funcs, ModuleBytes}
use Rattle.wasm_read.specs.Reading.{Reader, both_at, expect, expect_all, vector_at, name_at, whole, sized_at, value_type_at, func_type, func_type_at, table_of, table_at, expr_at, import_of, import_at, global_of, global_at, export_of, export_at, element_of, element_at, data_of, data_at, locals_of, locals_at, if_fewer, func_at, custom_at, customs_from, customs_at, section_behind, section_at, Funcs, Sections, sections_at, function_of, functions_of, module_of, module_at}
use Rattle.wasm_read.proofs.Laws.{Reads, ReadsAll, bind_some, passed, some_is, append_nil, whole_is, reads_single, reads_behind, reads_both, reads_via, reads_u32, reads_vector, reads_bytes, reads_name, reads_sized, sized_of, expect_is, expect_again}
use Rattle.wasm_read.proofs.OpLaws.{reads_limits, skip}
use Rattle.wasm_read.proofs.CodeLaws.{reads_expr}

-- parts

reads_value_type : Reads IsValueType value_type_at
reads_value_type = reads_single value_type_of

reads_func_type : Reads IsFuncType func_type_at
unfolding func_type_at
reads_func_type = reads_via func_type (λ (t : FuncType). (t.params, t.results)) (λ _. refl) (λ _. refl) (reads_behind 0x60 (reads_both (reads_vector reads_value_type) (reads_vector reads_value_type)))

reads_table : Reads IsTable table_at
unfolding table_at
reads_table = reads_via table_of (λ (t : TableType). t.limits) (λ _. refl) (λ _. refl) (reads_behind 0x70 reads_limits)

reads_import : Reads IsImport import_at
unfolding import_at
reads_import = reads_via import_of (λ (i : Import). (i.module, (i.name, i.type_index))) (λ _. refl) (λ _. refl) (reads_both reads_name (reads_both reads_name (reads_behind 0x00 reads_u32)))

reads_global : Reads IsGlobal global_at
unfolding global_at
reads_global = reads_via global_of (λ (g : Global). (g.value_type, (g.mutability, g.init))) (λ _. refl) (λ _. refl) (reads_both reads_value_type (reads_both (reads_single mutability_of) reads_expr))

reads_export : Reads IsExport export_at
unfolding export_at
reads_export = reads_via export_of (λ (e : Export). (e.name, (e.kind, e.index))) (λ _. refl) (λ _. refl) (reads_both reads_name (reads_both (reads_single export_kind_of) reads_u32))

reads_element : Reads IsElement element_at
unfolding element_at
reads_element = reads_via element_of (λ (e : Element). (e.table, (e.offset, e.functions))) (λ _. refl) (λ _. refl) (reads_both reads_u32 (reads_both reads_expr (reads_vector reads_u32)))

reads_data : Reads IsData data_at
unfolding data_at
reads_data = reads_via data_of (λ (d : Data). (d.memory, (d.offset, d.bytes))) (λ _. refl) (λ _. refl) (reads_both reads_u32 (reads_both reads_expr reads_bytes))

reads_locals : Reads IsLocals locals_at
unfolding locals_at
reads_locals = reads_via locals_of (λ (l : Locals). (l.count, l.value_type)) (λ _. refl) (λ _. refl) (reads_both reads_u32 reads_value_type)

reads_func : Reads IsFunc func_at
unfolding func_at
reads_func = record { takes = takes; again = again }
  where
    parts : Reads (IsVector IsLocals ⊗ IsExpr) (both_at (vector_at locals_at) expr_at)
    parts = reads_both (reads_vector reads_locals) reads_expr

    takes : (bs : List ℕ) (y : (List Locals × Code) × List ℕ) → func_at bs ≡ Some y → (a : List ℕ) × (bs ≡ a ++ y.1) × IsFunc y.0 a
    takes bs y e =
        let i = bind_some (both_at (vector_at locals_at) expr_at bs) (λ f. if_fewer f.0 >>= λ g. Some (g, f.1)) y e in
        let j = bind_some (if_fewer i.0.0) (λ g. Some (g, i.0.1)) y i.2 in
        let p = passed (nat_lt (locals_count i.0.0.0) (2 ^ 32)) (Some i.0.0) j.0 j.1 in
        let same : i.0.0 ≡ j.0 = some_is _ _ p.1 in
        let k : (i.0.0, i.0.1) ≡ y = ap (λ f. (f, i.0.1)) same ∙ some_is _ _ j.2 in
        let t = parts.takes bs i.0 i.1 in
        subst (λ (y : (List Locals × Code) × List ℕ). (a : List ℕ) × (bs ≡ a ++ y.1) × IsFunc y.0 a) k (t.0, t.1, (ltb-true (locals_count i.0.0.0) (2 ^ 32) p.0, t.2))

    again : (x : List Locals × Code) (a rest : List ℕ) → IsFunc x a → func_at (a ++ rest) ≡ Some (x, rest)
    again x a rest h =
        ap (λ o. o >>= λ f. if_fewer f.0 >>= λ g. Some (g, f.1)) (parts.again x a rest h.1)
        ∙ ap (λ (b : Bool). (if b then Some x else None) >>= λ g. Some (g, rest)) (lt-ltb (locals_count x.0) (2 ^ 32) h.0)

-- custom sections

reads_custom : ReadsAll IsCustomContent custom_at
unfolding custom_at
reads_custom = record { takes = takes; again = again }
  where
    takes : (bs : List ℕ) (y : List ℕ × List ℕ) → custom_at bs ≡ Some y → (a : List ℕ) × (bs ≡ a ++ y.1) × IsCustomContent y.0 a
    takes bs y e =
        let i = bind_some (name_at bs) (λ x. Some (x.0, [])) y e in
        let k : (i.0.0, []) ≡ y = some_is _ _ i.2 in
        let t = reads_name.takes bs i.0 i.1 in
        subst (λ (y : List ℕ × List ℕ). (a : List ℕ) × (bs ≡ a ++ y.1) × IsCustomContent y.0 a) k (bs, sym (append_nil bs), (t.0, i.0.1, t.1, t.2))

    again : (x a : List ℕ) → IsCustomContent x a → custom_at a ≡ Some (x, [])
    again x a h = ap custom_at h.2 ∙ ap (λ o. o >>= λ x. Some (x.0, [])) (reads_name.again x h.0 h.1 h.3)

-- the bytes begin with one above k, or there are none
abbrev Above : ℕ → List ℕ → Type 0
Above k [] = Unit {0}
Above k (b ∷ bs) = k < b

lower : (j k : ℕ) (bs : List ℕ) → j ≤ k → Above k bs → Above j bs
lower j k [] le h = tt
lower j k (b ∷ bs) le h = omega arith

pub custom_sized : Reads (Sized IsCustomContent) (sized_at custom_at)
custom_sized = sized_of reads_custom

-- custom sections, and the bytes after them
abbrev CustomsTake : List ℕ → List ℕ → Type 0
CustomsTake bs rest = (names : List (List ℕ)) × (a : List ℕ) × (bs ≡ a ++ rest) × AreCustoms names a × Above 0 rest

customs_take : (n : ℕ) (bs rest : List ℕ) → customs_from n bs ≡ Some rest → CustomsTake bs rest
customs_take zero bs rest e = cc
customs_take (suc n) [] rest e = subst (CustomsTake []) (some_is _ _ e) ([], [], refl, refl, tt)
customs_take (suc n) (b ∷ bs) rest e = go (customs_take n) (b == 0x00) refl e
  where
    go : ((bs rest : List ℕ) → customs_from n bs ≡ Some rest → CustomsTake bs rest) → (t : Bool) → (b == 0x00) ≡ t → (if t then (sized_at custom_at bs >>= λ c. customs_from n c.1) else Some (b ∷ bs)) ≡ Some rest → CustomsTake (b ∷ bs) rest
    go others true q e =
        let i = bind_some (sized_at custom_at bs) (λ c. customs_from n c.1) rest e in
        let t = custom_sized.takes bs i.0 i.1 in
        let u = others i.0.1 rest i.2 in (
          i.0.0 ∷ u.0,
          0x00 ∷ (t.0 ++ u.1),
          ap (λ v. v ∷ bs) (eqb-true b 0x00 q) ∙ ap (λ l. 0x00 ∷ l) (t.1 ∙ ap (λ l. t.0 ++ l) u.2 ∙ sym (append_assoc t.0 u.1 rest)),
          (0x00 ∷ t.0, u.1, refl, (t.0, refl, t.2), u.3),
          u.4,
        )
    go others false q e =
        let ne : b ≡ 0 → ⊥ = λ z. let w = eq-eqb b 0x00 z in cc in
        subst (CustomsTake (b ∷ bs)) (some_is _ _ e) ([], [], refl, refl, omega (arith, ne))

customs_stop : (n : ℕ) (rest : List ℕ) → Above 0 rest → customs_from (suc n) rest ≡ Some rest
customs_stop n [] h = refl
customs_stop n (b ∷ bs) h = skip b 0x00 _ _ (λ q. omega arith)

customs_again : (n : ℕ) (names : List (List ℕ)) (a rest : List ℕ) → AreCustoms names a → Above 0 rest → length a < n → customs_from n (a ++ rest) ≡ Some rest
customs_again zero names a rest h up lt = absurd (omega arith)
customs_again (suc n) [] a rest h up lt = ap (λ l. customs_from (suc n) (l ++ rest)) h ∙ customs_stop n rest up
customs_again (suc n) (x ∷ xs) a rest h up lt =
    let one = h.3 in
    let spelled : a ++ rest ≡ 0x00 ∷ (one.0 ++ (h.1 ++ rest)) = ap (λ l. l ++ rest) h.2 ∙ append_assoc h.0 h.1 rest ∙ ap (λ l. l ++ (h.1 ++ rest)) one.1 in
    ap (customs_from (suc n)) spelled
    ∙ ap (λ o. o >>= λ c. customs_from n c.1) (custom_sized.again x one.0 (h.1 ++ rest) one.2)
    ∙ customs_again n xs h.1 rest h.4 up (omega (arith, ap length h.2, length-append h.0 h.1, ap length one.1))

customs_all : (names : List (List ℕ)) (a rest : List ℕ) → AreCustoms names a → Above 0 rest → customs_at (a ++ rest) ≡ Some rest
unfolding customs_at
customs_all names a rest h up = customs_again (suc (length (a ++ rest))) names a rest h up (omega (arith, length-append a rest))

customs_found : (bs rest : List ℕ) → customs_at bs ≡ Some rest → CustomsTake bs rest
unfolding customs_at
customs_found bs rest e = customs_take (suc (length bs)) bs rest e

-- sections

record ReadsSection {A : Type 0} (k : ℕ) (P : Spelling A) (read : Reader A) : Type 0 where
  pub takes : (bs : List ℕ) (y : A × List ℕ) → read bs ≡ Some y → (a : List ℕ) × (bs ≡ a ++ y.1) × P y.0 a
  pub again : (x : A) (a rest : List ℕ) → P x a → Above k rest → read (a ++ rest) ≡ Some (x, rest)
  pub prefix : (x : A) (a rest : List ℕ) (j : ℕ) → P x a → Above k rest → j < k → Above j (a ++ rest)

reads_section : {A : Type 0} (k : ℕ) {P : Spelling A} {read : Reader A} → 0 < k → Reads P read → ReadsSection k (IsSection k P) (section_at k read)
unfolding section_at
reads_section {A} k {P} {read} pos r = record { takes = takes; again = again; prefix = prefix }
  where
    content : Reads (Sized (IsVector P)) (sized_at (vector_at read))
    content = reads_sized (reads_vector r)

    Takes : List ℕ → List A × List ℕ → Type 0
    Takes bs y = (a : List ℕ) × (bs ≡ a ++ y.1) × IsSection k P y.0 a

    behind : (b : ℕ) (bs : List ℕ) (y : List A × List ℕ) → b ≡ k → section_behind read bs ≡ Some y → Takes (b ∷ bs) y
    behind b bs y q e =
        let i = bind_some (sized_at (vector_at read) bs) (λ x. customs_at x.1 >>= λ after. Some (x.0, after)) y e in
        let j = bind_some (customs_at i.0.1) (λ after. Some (i.0.0, after)) y i.2 in
        let s : (i.0.0, j.0) ≡ y = some_is _ _ j.2 in
        let t = content.takes bs i.0 i.1 in
        let u = customs_found i.0.1 j.0 j.1 in
        subst (Takes (b ∷ bs)) s (
          k ∷ (t.0 ++ u.1),
          ap (λ v. v ∷ bs) q ∙ ap (λ l. k ∷ l) (t.1 ∙ ap (λ l. t.0 ++ l) u.2 ∙ sym (append_assoc t.0 u.1 j.0)),
          inr (u.0, (t.0 ++ u.1, refl, (t.0, u.1, refl, t.2, u.3))),
        )

    takes : (bs : List ℕ) (y : List A × List ℕ) → section_at k read bs ≡ Some y → Takes bs y
    takes [] y e = subst (Takes []) (some_is _ _ e) ([], refl, inl (refl, refl))
    takes (b ∷ bs) y e = go (b == k) refl e
      where
        go : (t : Bool) → (b == k) ≡ t → (if t then section_behind read bs else Some ([], b ∷ bs)) ≡ Some y → Takes (b ∷ bs) y
        go true q e = behind b bs y (eqb-true b k q) e
        go false q e = subst (Takes (b ∷ bs)) (some_is _ _ e) ([], refl, inl (refl, refl))

    absent : (rest : List ℕ) → Above k rest → section_at k read rest ≡ Some ([], rest)
    absent [] up = refl
    absent (b ∷ bs) up = skip b k _ _ (λ q. omega arith)

    again : (xs : List A) (a rest : List ℕ) → IsSection k P xs a → Above k rest → section_at k read (a ++ rest) ≡ Some (xs, rest)
    again xs a rest h up =
        ⊎_elim
        (λ (q : (xs ≡ []) × (a ≡ [])). ap (λ l. section_at k read (l ++ rest)) q.1 ∙ absent rest up ∙ ap (λ x. Some (x, rest)) (sym q.0))
        (λ q.
        let body = q.1.2 in
        let spelled : a ++ rest ≡ k ∷ (body.0 ++ (body.1 ++ rest)) = ap (λ l. l ++ rest) q.1.1 ∙ ap (λ l. k ∷ (l ++ rest)) body.2 ∙ ap (λ l. k ∷ l) (append_assoc body.0 body.1 rest) in
        ap (section_at k read) spelled
        ∙ ap (λ (b : Bool). if b then section_behind read (body.0 ++ (body.1 ++ rest)) else Some ([], k ∷ (body.0 ++ (body.1 ++ rest)))) (eq-eqb k k refl)
        ∙ ap (λ o. o >>= λ x. customs_at x.1 >>= λ after. Some (x.0, after)) (content.again xs body.0 (body.1 ++ rest) body.3)
        ∙ ap (λ o. o >>= λ after. Some (xs, after)) (customs_all q.0 body.1 rest body.4 (lower 0 k rest (omega arith) up)))
        h

    prefix : (xs : List A) (a rest : List ℕ) (j : ℕ) → IsSection k P xs a → Above k rest → j < k → Above j (a ++ rest)
    prefix xs a rest j h up lt =
        ⊎_elim
        (λ (q : (xs ≡ []) × (a ≡ [])). subst (λ l. Above j (l ++ rest)) (sym q.1) (lower j k rest (omega arith) up))
        (λ q. subst (λ l. Above j (l ++ rest)) (sym q.1.1) lt)
        h

-- sections to the end of the bytes, of which the first has the number k or a higher one
record ReadsRest {A : Type 0} (k : ℕ) (P : Spelling A) (read : Reader A) : Type 0 where
  pub takes : (bs : List ℕ) (y : A × List ℕ) → read bs ≡ Some y → (a : List ℕ) × (bs ≡ a ++ y.1) × P y.0 a
  pub again : (x : A) (a : List ℕ) → P x a → read a ≡ Some (x, [])
  pub prefix : (x : A) (a : List ℕ) (j : ℕ) → P x a → j < k → Above j a

last_section : {A : Type 0} (k : ℕ) {P : Spelling A} {read : Reader A} → ReadsSection k P read → ReadsRest k P read
last_section {A} k {P} {read} r = record { takes = r.takes; again = again; prefix = prefix }
  where
    again : (x : A) (a : List ℕ) → P x a → read a ≡ Some (x, [])
    again x a h = ap read (sym (append_nil a)) ∙ r.again x a [] h tt

    prefix : (x : A) (a : List ℕ) (j : ℕ) → P x a → j < k → Above j a
    prefix x a j h lt = subst (Above j) (append_nil a) (r.prefix x a [] j h tt lt)

then_rest : {A B : Type 0} (j k : ℕ) {P : Spelling A} {Q : Spelling B} {p : Reader A} {q : Reader B} → j < k → ReadsSection j P p → ReadsRest k Q q → ReadsRest j (P ⊗ Q) (both_at p q)
then_rest {A} {B} j k {P} {Q} {p} {q} jk r s = record { takes = takes; again = again; prefix = prefix }
  where
    takes : (bs : List ℕ) (y : (A × B) × List ℕ) → both_at p q bs ≡ Some y → (a : List ℕ) × (bs ≡ a ++ y.1) × (P ⊗ Q) y.0 a
    takes bs y e =
        let i = bind_some (p bs) (λ x. q x.1 >>= λ y. Some ((x.0, y.0), y.1)) y e in
        let m = bind_some (q i.0.1) (λ y. Some ((i.0.0, y.0), y.1)) y i.2 in
        let k : ((i.0.0, m.0.0), m.0.1) ≡ y = some_is _ _ m.2 in
        let t = r.takes bs i.0 i.1 in
        let u = s.takes i.0.1 m.0 m.1 in
        subst (λ (y : (A × B) × List ℕ). (a : List ℕ) × (bs ≡ a ++ y.1) × (P ⊗ Q) y.0 a) k
        (t.0 ++ u.0, t.1 ∙ ap (λ l. t.0 ++ l) u.1 ∙ sym (append_assoc t.0 u.0 m.0.1), (t.0, u.0, refl, t.2, u.2))

    again : (x : A × B) (a : List ℕ) → (P ⊗ Q) x a → both_at p q a ≡ Some (x, [])
    again x a h =
        ap (both_at p q) h.2
        ∙ ap (λ o. o >>= λ x. q x.1 >>= λ y. Some ((x.0, y.0), y.1)) (r.again x.0 h.0 h.1 h.3 (s.prefix x.1 h.1 j h.4 jk))
        ∙ ap (λ o. o >>= λ y. Some ((x.0, y.0), y.1)) (s.again x.1 h.1 h.4)

    prefix : (x : A × B) (a : List ℕ) (i : ℕ) → (P ⊗ Q) x a → i < j → Above i a
    prefix x a i h lt = subst (Above i) (sym h.2) (r.prefix x.0 h.0 h.1 i h.3 (s.prefix x.1 h.1 j h.4 jk) lt)

abbrev AreSections : Spelling Sections
AreSections =
    IsSection 1 IsFuncType ⊗ IsSection 2 IsImport ⊗ IsSection 3 IsU32 ⊗ IsSection 4 IsTable ⊗ IsSection 5 IsLimits ⊗ IsSection 6 IsGlobal ⊗ IsSection 7 IsExport ⊗ IsSection 9 IsElement
    ⊗ IsSection 10 (Sized IsFunc) ⊗ IsSection 11 IsData

reads_sections : ReadsRest 1 AreSections sections_at
unfolding sections_at
reads_sections =
    then_rest 1 2 (omega arith) (reads_section 1 (omega arith) reads_func_type)
    (then_rest 2 3 (omega arith) (reads_section 2 (omega arith) reads_import)
    (then_rest 3 4 (omega arith) (reads_section 3 (omega arith) reads_u32)
    (then_rest 4 5 (omega arith) (reads_section 4 (omega arith) reads_table)
    (then_rest 5 6 (omega arith) (reads_section 5 (omega arith) reads_limits)
    (then_rest 6 7 (omega arith) (reads_section 6 (omega arith) reads_global)
    (then_rest 7 9 (omega arith) (reads_section 7 (omega arith) reads_export)
    (then_rest 9 10 (omega arith) (reads_section 9 (omega arith) reads_element)
    (then_rest 10 11 (omega arith) (reads_section 10 (omega arith) (reads_sized reads_func))
    (last_section 11 (reads_section 11 (omega arith) reads_data))))))))))

-- modules

functions_are : (ts : List ℕ) (fs : Funcs) (xs : List Function) → functions_of ts fs ≡ Some xs → (ts ≡ type_indices xs) × (fs ≡ funcs xs)
functions_are [] [] xs e = let k : [] ≡ xs = some_is _ _ e in (ap type_indices k, ap funcs k)
functions_are [] (f ∷ fs) xs e = cc
functions_are (t ∷ ts) [] xs e = cc
functions_are (t ∷ ts) (f ∷ fs) xs e =
    let i = bind_some (functions_of ts fs) (λ xs. Some (function_of t f ∷ xs)) xs e in
    let k : function_of t f ∷ i.0 ≡ xs = some_is _ _ i.2 in
    let h = functions_are ts fs i.0 i.1 in
    (ap (λ l. t ∷ l) h.0 ∙ ap type_indices k, ap (λ l. f ∷ l) h.1 ∙ ap funcs k)

functions_again : (xs : List Function) → functions_of (type_indices xs) (funcs xs) ≡ Some xs
functions_again [] = refl
functions_again (x ∷ xs) = ap (λ o. o >>= λ xs. Some (x ∷ xs)) (functions_again xs)

expect_all_is : (ks bs rest : List ℕ) → expect_all ks bs ≡ Some rest → bs ≡ ks ++ rest
expect_all_is [] bs rest e = some_is _ _ e
expect_all_is (k ∷ ks) bs rest e =
    let i = bind_some (expect k bs) (expect_all ks) rest e in
    expect_is k bs i.0 i.1 ∙ ap (λ l. k ∷ l) (expect_all_is ks i.0 rest i.2)

expect_all_again : (ks rest : List ℕ) → expect_all ks (ks ++ rest) ≡ Some rest
expect_all_again [] rest = refl
expect_all_again (k ∷ ks) rest = ap (λ o. o >>= expect_all ks) (expect_again k (ks ++ rest)) ∙ expect_all_again ks rest

-- what the sections of a module hold
abbrev sections_of : Module → Sections
sections_of m = (m.types, (m.imports, (type_indices m.functions, (m.tables, (m.memories, (m.globals, (m.exports, (m.elements, (funcs m.functions, m.data)))))))))

sections_same : (x : Sections) (fs : List Function) → x.1.1.0 ≡ type_indices fs → x.1.1.1.1.1.1.1.1.0 ≡ funcs fs → x ≡ sections_of (module_of x fs)
sections_same x fs e f =
    ap₂ (λ (ts : List ℕ) (cs : Funcs). (x.0, (x.1.0, (ts, (x.1.1.1.0, (x.1.1.1.1.0, (x.1.1.1.1.1.0, (x.1.1.1.1.1.1.0, (x.1.1.1.1.1.1.1.0, (cs, x.1.1.1.1.1.1.1.1.1)))))))))) e f

pub module_takes : (bs : List ℕ) (m : Module) → module_at bs ≡ Some m → ModuleBytes m bs
unfolding module_at
module_takes bs m e =
    let x1 = bind_some (expect_all MAGIC bs >>= customs_at >>= sections_at >>= whole) (λ x. functions_of x.1.1.0 x.1.1.1.1.1.1.1.1.0 >>= λ fs. Some (module_of x fs)) m e in
    let x2 = bind_some (expect_all MAGIC bs >>= customs_at >>= sections_at) whole x1.0 x1.1 in
    let x3 = bind_some (expect_all MAGIC bs >>= customs_at) sections_at x2.0 x2.1 in
    let x4 = bind_some (expect_all MAGIC bs) customs_at x3.0 x3.1 in
    let fs = bind_some (functions_of x1.0.1.1.0 x1.0.1.1.1.1.1.1.1.1.0) (λ fs. Some (module_of x1.0 fs)) m x1.2 in
    let k : module_of x1.0 fs.0 ≡ m = some_is _ _ fs.2 in
    let f = functions_are x1.0.1.1.0 x1.0.1.1.1.1.1.1.1.1.0 fs.0 fs.1 in
    let c = customs_found x4.0 x3.0 x4.2 in
    let t = reads_sections.takes x3.0 x2.0 x3.2 in
    let w = whole_is x2.0 x1.0 x2.2 in
    let all : t.0 ≡ x3.0 = sym (t.1 ∙ ap (λ l. t.0 ++ l) w.1 ∙ append_nil t.0) in
    let same : x2.0.0 ≡ sections_of (module_of x1.0 fs.0) = w.0 ∙ sections_same x1.0 fs.0 f.0 f.1 in
    let read : AreSections (sections_of (module_of x1.0 fs.0)) x3.0 = subst (λ l. AreSections (sections_of (module_of x1.0 fs.0)) l) all (subst (λ (x : Sections). AreSections x t.0) same t.2) in
    subst (λ (m : Module). ModuleBytes m bs) k (c.0, x4.0, expect_all_is MAGIC bs x4.0 x4.1, (c.1, x3.0, c.2, c.3, read))

pub module_again : (bs : List ℕ) (m : Module) → ModuleBytes m bs → module_at bs ≡ Some m
unfolding module_at
module_again bs m h =
    let s = h.3 in
    let finish : Sections → Option Module = λ x. functions_of x.1.1.0 x.1.1.1.1.1.1.1.1.0 >>= λ fs. Some (module_of x fs) in
    ap (λ l. expect_all MAGIC l >>= customs_at >>= sections_at >>= whole >>= finish) h.2
    ∙ ap (λ o. o >>= customs_at >>= sections_at >>= whole >>= finish) (expect_all_again MAGIC h.1)
    ∙ ap (λ l. customs_at l >>= sections_at >>= whole >>= finish) s.2
    ∙ ap (λ o. o >>= sections_at >>= whole >>= finish) (customs_all h.0 s.0 s.1 s.3 (reads_sections.prefix (sections_of m) s.1 0 s.4 (omega arith)))
    ∙ ap (λ o. o >>= whole >>= finish) (reads_sections.again (sections_of m) s.1 s.4)
    ∙ ap (λ o. o >>= λ fs. Some (module_of (sections_of m) fs)) (functions_again m.functions)
