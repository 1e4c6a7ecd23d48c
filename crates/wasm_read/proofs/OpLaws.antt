-- What is read is spelled so, and what is spelled so is read: instructions without blocks.
use Rattle.std.proofs.Common.{◌≡◌, ℕ, ◌<◌, ◌≤◌, Bool, true, false, List, [], ◌∷◌, ◌++◌, Option, Some, None, refl, sym, ap, ◌∙◌, subst, arith, append_assoc}
use Rattle.std.specs.Prelude.{nat_lt, ◌==◌, if◌then◌else◌}
use Rattle.std.proofs.lemmas.Bool.{eqb-true, ltb-true, lt-ltb, ltb-false, le-ltb}
use Rattle.wasm_spec.specs.Typing.{◌>>=◌}
use Rattle.wasm_spec.specs.declared.types.ResizableLimits.{ResizableLimits}
use Rattle.wasm_spec.specs.declared.instructions.MemArg.{MemArg}
use Rattle.wasm_spec.specs.declared.instructions.LoadKind.{LoadKind}
use Rattle.wasm_spec.specs.declared.instructions.StoreKind.{StoreKind}
use Rattle.wasm_spec.specs.declared.instructions.Numeric.{Numeric}
use Rattle.wasm_spec.specs.declared.instructions.Plain.{Plain}
use Rattle.wasm_spec.specs.declared.instructions.Plain.TheVariants as op
use Rattle.wasm_spec.specs.declared.instructions.Control.{Control}
use Rattle.wasm_spec.specs.declared.instructions.Control.TheVariants as jump
use Rattle.wasm_spec.specs.Opcodes.{load_of, store_of, numeric_of}
use Rattle.wasm_spec.specs.Binary.{Spelling, Behind, ◌⊗◌, IsU32, IsInteger, IsVector, IsLimits, IsLimitsOf, IsMemArg, IsPlain, IsControl}
use Rattle.wasm_read.specs.declared.head.Head.{Head}
use Rattle.wasm_read.specs.declared.head.Head.TheVariants as head
use Rattle.wasm_read.specs.Reading.{Reader, via_at, u32_at, limits, limits_at, mem_arg, mem_arg_at, zero_at, parametric_at, variable_at, memory_at, numeric_at, plain_at, control_at, head_of}
use Rattle.wasm_read.proofs.Laws.{Reads, bind_some, some_is, behind_is, reads_u32, reads_integer, reads_both, reads_vector, reads_via}

-- tests on the way to a result

pub at_test : {A R : Type 0} (b k : ℕ) (x rest : Option A) (y : A) → (b ≡ k → x ≡ Some y → R) → (rest ≡ Some y → R) → (if b == k then x else rest) ≡ Some y → R
at_test {A} {R} b k x rest y here other e = go (b == k) refl e
  where
    go : (t : Bool) → (b == k) ≡ t → (if t then x else rest) ≡ Some y → R
    go true q e = here (eqb-true b k q) e
    go false q e = other e

pub below_test : {A R : Type 0} (b k : ℕ) (x rest : Option A) (y : A) → (b < k → x ≡ Some y → R) → (k ≤ b → rest ≡ Some y → R) → (if nat_lt b k then x else rest) ≡ Some y → R
below_test {A} {R} b k x rest y here other e = go (nat_lt b k) refl e
  where
    go : (t : Bool) → nat_lt b k ≡ t → (if t then x else rest) ≡ Some y → R
    go true q e = here (ltb-true b k q) e
    go false q e = other (ltb-false b k q) e

not_same : (b k : ℕ) → (b ≡ k → ⊥) → (b == k) ≡ false
not_same b k ne = go (b == k) refl
  where
    go : (t : Bool) → (b == k) ≡ t → t ≡ false
    go true q = absurd (ne (eqb-true b k q))
    go false q = refl

pub skip : {A : Type 0} (b k : ℕ) (x rest : A) → (b ≡ k → ⊥) → (if b == k then x else rest) ≡ rest
skip b k x rest ne = ap (λ (t : Bool). if t then x else rest) (not_same b k ne)

pub below : {A : Type 0} (b k : ℕ) (x rest : A) → b < k → (if nat_lt b k then x else rest) ≡ x
below b k x rest lt = ap (λ (t : Bool). if t then x else rest) (lt-ltb b k lt)

pub above : {A : Type 0} (b k : ℕ) (x rest : A) → k ≤ b → (if nat_lt b k then x else rest) ≡ rest
above b k x rest le = ap (λ (t : Bool). if t then x else rest) (le-ltb b k le)

-- what stands behind an opcode b spells the value together with it
abbrev pub Behinds : {B : Type 0} → Spelling B → ℕ → List ℕ → B × List ℕ → Type 0
Behinds Q b bs y = (a : List ℕ) × (bs ≡ a ++ y.1) × Q y.0 (b ∷ a)

via_taken : {A B : Type 0} {P : Spelling A} {read : Reader A} (r : Reads P read) (Q : Spelling B) (make : A → B) (b : ℕ) → ((x : A) (l : List ℕ) → P x l → Q (make x) (b ∷ l)) → (bs : List ℕ) (y : B × List ℕ) → via_at make read bs ≡ Some y → Behinds Q b bs y
via_taken {read = read} r Q make b is bs y e =
    let i = bind_some (read bs) (λ x. Some (make x.0, x.1)) y e in
    let k : (make i.0.0, i.0.1) ≡ y = some_is _ _ i.2 in
    let t = r.takes bs i.0 i.1 in
    subst (Behinds Q b bs) k (t.0, t.1, is i.0.0 t.0 t.2)

bare_taken : {B : Type 0} (Q : Spelling B) (z : B) (b : ℕ) → Q z (b ∷ []) → (bs : List ℕ) (y : B × List ℕ) → Some (z, bs) ≡ Some y → Behinds Q b bs y
bare_taken Q z b is bs y e = subst (Behinds Q b bs) (some_is _ _ e) ([], refl, is)

zero_taken : {B : Type 0} (Q : Spelling B) (z : B) (b : ℕ) → Q z (b ∷ 0x00 ∷ []) → (bs : List ℕ) (y : B × List ℕ) → zero_at z bs ≡ Some y → Behinds Q b bs y
zero_taken Q z b is bs y e =
    let i = behind_is 0x00 (λ bs. Some (z, bs)) bs y e in
    let k : (z, i.0) ≡ y = some_is _ _ i.2 in
    subst (Behinds Q b bs) k (0x00 ∷ [], i.1, is)

pub via_again : {A B : Type 0} {P : Spelling A} {read : Reader A} (r : Reads P read) (make : A → B) (x : A) (l rest : List ℕ) → P x l → via_at make read (l ++ rest) ≡ Some (make x, rest)
via_again r make x l rest h = ap (λ o. o >>= λ x. Some (make x.0, x.1)) (r.again x l rest h)

-- a byte and what follows it
first : {A : Type 0} (P : Spelling A) (x : A) (b k : ℕ) (l : List ℕ) → b ≡ k → P x l → Behind k P x (b ∷ l)
first P x b k l e h = (l, ap (λ v. v ∷ l) e, h)

alone : (b k : ℕ) → b ≡ k → b ∷ [] ≡ k ∷ []
alone b k e = ap (λ v. v ∷ []) e

-- limits

pub reads_limits : Reads IsLimits limits_at
unfolding limits_at
reads_limits = record { takes = takes; again = again }
  where
    takes : (bs : List ℕ) (y : ResizableLimits × List ℕ) → limits_at bs ≡ Some y → (a : List ℕ) × (bs ≡ a ++ y.1) × IsLimits y.0 a
    takes [] y e = cc
    takes (b ∷ bs) y e =
        let t : Behinds IsLimits b bs y =
        at_test b 0x00 _ _ y (λ q. via_taken reads_u32 IsLimits (λ min. limits min None) b (λ x l. first IsU32 x b 0x00 l q) bs y)
        (at_test b 0x01 _ _ y (λ q. via_taken (reads_both reads_u32 reads_u32) IsLimits (λ (x : ℕ × ℕ). limits x.0 (Some x.1)) b (λ x l. first (IsU32 ⊗ IsU32) x b 0x01 l q) bs y) (λ (e : None ≡ Some y). cc)) e in
        (b ∷ t.0, ap (λ l. b ∷ l) t.1, t.2)

    again_of : (min : ℕ) (most : Option ℕ) (a rest : List ℕ) → IsLimitsOf min most a → limits_at (a ++ rest) ≡ Some (limits min most, rest)
    again_of min None a rest h = ap limits_at (ap (λ l. l ++ rest) h.1) ∙ via_again reads_u32 (λ min. limits min None) min h.0 rest h.2
    again_of min (Some most) a rest h = ap limits_at (ap (λ l. l ++ rest) h.1) ∙ via_again (reads_both reads_u32 reads_u32) (λ (x : ℕ × ℕ). limits x.0 (Some x.1)) (min, most) h.0 rest h.2

    again : (x : ResizableLimits) (a rest : List ℕ) → IsLimits x a → limits_at (a ++ rest) ≡ Some (x, rest)
    again x a rest h = again_of x.min x.max a rest h

pub reads_mem_arg : Reads IsMemArg mem_arg_at
unfolding mem_arg_at
reads_mem_arg = reads_via mem_arg (λ (m : MemArg). (m.align, m.offset)) (λ _. refl) (λ _. refl) (reads_both reads_u32 reads_u32)

-- opcodes

bound : {A : Type 0} (low high b k : ℕ) (x rest : Option A) (y : A) → low ≤ k → k < high → (rest ≡ Some y → (low ≤ b) × (b < high)) → (if b == k then x else rest) ≡ Some y → (low ≤ b) × (b < high)
bound low high b k x rest y lo hi other e = at_test b k x rest y (λ q _. (omega arith, omega arith)) other e

load_bound : (b : ℕ) (l : LoadKind) → load_of b ≡ Some l → (0x28 ≤ b) × (b < 0x36)
load_bound b l e =
    bound 0x28 0x36 b 0x28 _ _ l (omega arith) (omega arith) (
    bound 0x28 0x36 b 0x29 _ _ l (omega arith) (omega arith) (
    bound 0x28 0x36 b 0x2C _ _ l (omega arith) (omega arith) (
    bound 0x28 0x36 b 0x2D _ _ l (omega arith) (omega arith) (
    bound 0x28 0x36 b 0x2E _ _ l (omega arith) (omega arith) (
    bound 0x28 0x36 b 0x2F _ _ l (omega arith) (omega arith) (
    bound 0x28 0x36 b 0x30 _ _ l (omega arith) (omega arith) (
    bound 0x28 0x36 b 0x31 _ _ l (omega arith) (omega arith) (
    bound 0x28 0x36 b 0x32 _ _ l (omega arith) (omega arith) (
    bound 0x28 0x36 b 0x33 _ _ l (omega arith) (omega arith) (
    bound 0x28 0x36 b 0x34 _ _ l (omega arith) (omega arith) (
    bound 0x28 0x36 b 0x35 _ _ l (omega arith) (omega arith) (λ (e : None ≡ Some l). cc)))))))))))) e

store_bound : (b : ℕ) (s : StoreKind) → store_of b ≡ Some s → (0x36 ≤ b) × (b < 0x3F)
store_bound b s e =
    bound 0x36 0x3F b 0x36 _ _ s (omega arith) (omega arith) (
    bound 0x36 0x3F b 0x37 _ _ s (omega arith) (omega arith) (
    bound 0x36 0x3F b 0x3A _ _ s (omega arith) (omega arith) (
    bound 0x36 0x3F b 0x3B _ _ s (omega arith) (omega arith) (
    bound 0x36 0x3F b 0x3C _ _ s (omega arith) (omega arith) (
    bound 0x36 0x3F b 0x3D _ _ s (omega arith) (omega arith) (
    bound 0x36 0x3F b 0x3E _ _ s (omega arith) (omega arith) (λ (e : None ≡ Some s). cc))))))) e

numeric_bound : (b : ℕ) (o : Numeric) → numeric_of b ≡ Some o → 0x45 ≤ b
numeric_bound b o e = below_test b 0x45 None _ o (λ _ (e : None ≡ Some o). cc) (λ le _. le) e

-- plain instructions

parametric_takes : (b : ℕ) (bs : List ℕ) (y : Plain × List ℕ) → parametric_at b bs ≡ Some y → Behinds IsPlain b bs y
unfolding parametric_at
parametric_takes b bs y e =
    at_test b 0x01 _ _ y (λ q. bare_taken IsPlain op.Nop b (alone b 0x01 q) bs y)
    (at_test b 0x1A _ _ y (λ q. bare_taken IsPlain op.Drop b (alone b 0x1A q) bs y)
    (at_test b 0x1B _ _ y (λ q. bare_taken IsPlain op.Select b (alone b 0x1B q) bs y) (λ (e : None ≡ Some y). cc))) e

variable_takes : (b : ℕ) (bs : List ℕ) (y : Plain × List ℕ) → variable_at b bs ≡ Some y → Behinds IsPlain b bs y
unfolding variable_at
variable_takes b bs y e =
    at_test b 0x20 _ _ y (λ q. via_taken reads_u32 IsPlain op.LocalGet b (λ x l. first IsU32 x b 0x20 l q) bs y)
    (at_test b 0x21 _ _ y (λ q. via_taken reads_u32 IsPlain op.LocalSet b (λ x l. first IsU32 x b 0x21 l q) bs y)
    (at_test b 0x22 _ _ y (λ q. via_taken reads_u32 IsPlain op.LocalTee b (λ x l. first IsU32 x b 0x22 l q) bs y)
    (at_test b 0x23 _ _ y (λ q. via_taken reads_u32 IsPlain op.GlobalGet b (λ x l. first IsU32 x b 0x23 l q) bs y)
    (at_test b 0x24 _ _ y (λ q. via_taken reads_u32 IsPlain op.GlobalSet b (λ x l. first IsU32 x b 0x24 l q) bs y) (λ (e : None ≡ Some y). cc))))) e

memory_takes : (b : ℕ) (bs : List ℕ) (y : Plain × List ℕ) → memory_at b bs ≡ Some y → Behinds IsPlain b bs y
unfolding memory_at
memory_takes b bs y e =
    below_test b 0x36 _ _ y (λ _ e.
    let i = bind_some (load_of b) (λ l. via_at (op.Load l) mem_arg_at bs) y e in
    via_taken reads_mem_arg IsPlain (op.Load i.0) b (λ x l h. (b, i.1, first IsMemArg x b b l refl h)) bs y i.2)
    (λ _. below_test b 0x3F _ _ y (λ _ e.
    let i = bind_some (store_of b) (λ s. via_at (op.Store s) mem_arg_at bs) y e in
    via_taken reads_mem_arg IsPlain (op.Store i.0) b (λ x l h. (b, i.1, first IsMemArg x b b l refl h)) bs y i.2)
    (λ _. at_test b 0x3F _ _ y (λ q. zero_taken IsPlain op.MemorySize b (ap (λ v. v ∷ 0x00 ∷ []) q) bs y)
    (at_test b 0x40 _ _ y (λ q. zero_taken IsPlain op.MemoryGrow b (ap (λ v. v ∷ 0x00 ∷ []) q) bs y) (λ (e : None ≡ Some y). cc)))) e

numeric_takes : (b : ℕ) (bs : List ℕ) (y : Plain × List ℕ) → numeric_at b bs ≡ Some y → Behinds IsPlain b bs y
unfolding numeric_at
numeric_takes b bs y e =
    at_test b 0x41 _ _ y (λ q. via_taken (reads_integer 32) IsPlain op.I32Const b (λ x l. first (IsInteger 32) x b 0x41 l q) bs y)
    (at_test b 0x42 _ _ y (λ q. via_taken (reads_integer 64) IsPlain op.I64Const b (λ x l. first (IsInteger 64) x b 0x42 l q) bs y)
    (λ e.
    let i = bind_some (numeric_of b) (λ o. Some (op.Numeric o, bs)) y e in
    bare_taken IsPlain (op.Numeric i.0) b (b, refl, i.1) bs y i.2)) e

pub plain_takes : (b : ℕ) (bs : List ℕ) (y : Plain × List ℕ) → plain_at b bs ≡ Some y → Behinds IsPlain b bs y
unfolding plain_at
plain_takes b bs y e =
    below_test b 0x20 _ _ y (λ _. parametric_takes b bs y)
    (λ _. below_test b 0x28 _ _ y (λ _. variable_takes b bs y)
    (λ _. below_test b 0x41 _ _ y (λ _. memory_takes b bs y) (λ _. numeric_takes b bs y))) e

high_plain : (b : ℕ) → 0x12 ≤ b → head_of b ≡ head.Plain
high_plain b le =
    skip b 0x01 _ _ (λ q. omega arith) ∙ skip b 0x02 _ _ (λ q. omega arith) ∙ skip b 0x03 _ _ (λ q. omega arith) ∙ skip b 0x04 _ _ (λ q. omega arith)
    ∙ skip b 0x05 _ _ (λ q. omega arith) ∙ skip b 0x0B _ _ (λ q. omega arith) ∙ above b 0x12 _ _ le

-- an opcode of this head, and what stands behind it
abbrev pub Begins : {B : Type 0} → Head → (ℕ → Reader B) → List ℕ → List ℕ → B → Type 0
Begins h read a rest x = (b : ℕ) × (l : List ℕ) × (a ≡ b ∷ l) × (head_of b ≡ h) × (read b (l ++ rest) ≡ Some (x, rest))

load_again : (b : ℕ) (l : LoadKind) (m : MemArg) (a rest : List ℕ) → load_of b ≡ Some l → IsMemArg m a → plain_at b (a ++ rest) ≡ Some (op.Load l m, rest)
unfolding plain_at memory_at
load_again b l m a rest e h =
    let k = load_bound b l e in
    above b 0x20 _ _ (omega (arith, k)) ∙ above b 0x28 _ _ k.0 ∙ below b 0x41 _ _ (omega (arith, k)) ∙ below b 0x36 _ _ k.1
    ∙ ap (λ o. o >>= λ l. via_at (op.Load l) mem_arg_at (a ++ rest)) e ∙ via_again reads_mem_arg (op.Load l) m a rest h

store_again : (b : ℕ) (s : StoreKind) (m : MemArg) (a rest : List ℕ) → store_of b ≡ Some s → IsMemArg m a → plain_at b (a ++ rest) ≡ Some (op.Store s m, rest)
unfolding plain_at memory_at
store_again b s m a rest e h =
    let k = store_bound b s e in
    above b 0x20 _ _ (omega (arith, k)) ∙ above b 0x28 _ _ (omega (arith, k)) ∙ below b 0x41 _ _ (omega (arith, k)) ∙ above b 0x36 _ _ k.0 ∙ below b 0x3F _ _ k.1
    ∙ ap (λ o. o >>= λ s. via_at (op.Store s) mem_arg_at (a ++ rest)) e ∙ via_again reads_mem_arg (op.Store s) m a rest h

numeric_again : (b : ℕ) (o : Numeric) (rest : List ℕ) → numeric_of b ≡ Some o → plain_at b rest ≡ Some (op.Numeric o, rest)
unfolding plain_at numeric_at
numeric_again b o rest e =
    let k = numeric_bound b o e in
    above b 0x20 _ _ (omega arith) ∙ above b 0x28 _ _ (omega arith) ∙ above b 0x41 _ _ (omega arith) ∙ skip b 0x41 _ _ (λ q. omega arith) ∙ skip b 0x42 _ _ (λ q. omega arith)
    ∙ ap (λ p. p >>= λ o. Some (op.Numeric o, rest)) e

pub plain_again : (p : Plain) (a rest : List ℕ) → IsPlain p a → Begins head.Plain plain_at a rest p
unfolding plain_at parametric_at variable_at memory_at numeric_at
plain_again op.Nop a rest h = (0x01, [], h, refl, refl)
plain_again op.Drop a rest h = (0x1A, [], h, refl, refl)
plain_again op.Select a rest h = (0x1B, [], h, refl, refl)
plain_again (op.LocalGet i) a rest h = (0x20, h.0, h.1, refl, via_again reads_u32 op.LocalGet i h.0 rest h.2)
plain_again (op.LocalSet i) a rest h = (0x21, h.0, h.1, refl, via_again reads_u32 op.LocalSet i h.0 rest h.2)
plain_again (op.LocalTee i) a rest h = (0x22, h.0, h.1, refl, via_again reads_u32 op.LocalTee i h.0 rest h.2)
plain_again (op.GlobalGet i) a rest h = (0x23, h.0, h.1, refl, via_again reads_u32 op.GlobalGet i h.0 rest h.2)
plain_again (op.GlobalSet i) a rest h = (0x24, h.0, h.1, refl, via_again reads_u32 op.GlobalSet i h.0 rest h.2)
plain_again (op.Load l m) a rest h = let k = load_bound h.0 l h.1 in (h.0, h.2.0, h.2.1, high_plain h.0 (omega (arith, k)), load_again h.0 l m h.2.0 rest h.1 h.2.2)
plain_again (op.Store s m) a rest h = let k = store_bound h.0 s h.1 in (h.0, h.2.0, h.2.1, high_plain h.0 (omega (arith, k)), store_again h.0 s m h.2.0 rest h.1 h.2.2)
plain_again op.MemorySize a rest h = (0x3F, 0x00 ∷ [], h, refl, refl)
plain_again op.MemoryGrow a rest h = (0x40, 0x00 ∷ [], h, refl, refl)
plain_again (op.I32Const n) a rest h = (0x41, h.0, h.1, refl, via_again (reads_integer 32) op.I32Const n h.0 rest h.2)
plain_again (op.I64Const n) a rest h = (0x42, h.0, h.1, refl, via_again (reads_integer 64) op.I64Const n h.0 rest h.2)
plain_again (op.Numeric o) a rest h = let k = numeric_bound h.0 o h.2 in (h.0, [], h.1, high_plain h.0 (omega arith), numeric_again h.0 o rest h.2)

-- control instructions

pub control_takes : (b : ℕ) (bs : List ℕ) (y : Control × List ℕ) → control_at b bs ≡ Some y → Behinds IsControl b bs y
unfolding control_at
control_takes b bs y e =
    at_test b 0x00 _ _ y (λ q. bare_taken IsControl jump.Unreachable b (alone b 0x00 q) bs y)
    (at_test b 0x0C _ _ y (λ q. via_taken reads_u32 IsControl jump.Br b (λ x l. first IsU32 x b 0x0C l q) bs y)
    (at_test b 0x0D _ _ y (λ q. via_taken reads_u32 IsControl jump.BrIf b (λ x l. first IsU32 x b 0x0D l q) bs y)
    (at_test b 0x0E _ _ y (λ q. via_taken (reads_both (reads_vector reads_u32) reads_u32) IsControl (λ (x : List ℕ × ℕ). jump.BrTable x.0 x.1) b (λ x l. first (IsVector IsU32 ⊗ IsU32) x b 0x0E l q) bs y)
    (at_test b 0x0F _ _ y (λ q. bare_taken IsControl jump.Return b (alone b 0x0F q) bs y)
    (at_test b 0x10 _ _ y (λ q. via_taken reads_u32 IsControl jump.Call b (λ x l. first IsU32 x b 0x10 l q) bs y)
    (at_test b 0x11 _ _ y indirect (λ (e : None ≡ Some y). cc))))))) e
  where
    indirect : b ≡ 0x11 → (u32_at bs >>= λ t. zero_at (jump.CallIndirect t.0) t.1) ≡ Some y → Behinds IsControl b bs y
    indirect q e =
        let i = bind_some (u32_at bs) (λ t. zero_at (jump.CallIndirect t.0) t.1) y e in
        let t = reads_u32.takes bs i.0 i.1 in
        let z = behind_is 0x00 (λ bs. Some (jump.CallIndirect i.0.0, bs)) i.0.1 y i.2 in
        let k : (jump.CallIndirect i.0.0, z.0) ≡ y = some_is _ _ z.2 in
        subst (Behinds IsControl b bs) k
        (t.0 ++ (0x00 ∷ []), t.1 ∙ ap (λ l. t.0 ++ l) z.1 ∙ sym (append_assoc t.0 (0x00 ∷ []) z.0), (t.0, ap (λ v. v ∷ (t.0 ++ (0x00 ∷ []))) q, t.2))

pub control_again : (k : Control) (a rest : List ℕ) → IsControl k a → Begins head.Control control_at a rest k
unfolding control_at
control_again jump.Unreachable a rest h = (0x00, [], h, refl, refl)
control_again (jump.Br l) a rest h = (0x0C, h.0, h.1, refl, via_again reads_u32 jump.Br l h.0 rest h.2)
control_again (jump.BrIf l) a rest h = (0x0D, h.0, h.1, refl, via_again reads_u32 jump.BrIf l h.0 rest h.2)
control_again (jump.BrTable ls l) a rest h = (0x0E, h.0, h.1, refl, via_again (reads_both (reads_vector reads_u32) reads_u32) (λ (x : List ℕ × ℕ). jump.BrTable x.0 x.1) (ls, l) h.0 rest h.2)
control_again jump.Return a rest h = (0x0F, [], h, refl, refl)
control_again (jump.Call f) a rest h = (0x10, h.0, h.1, refl, via_again reads_u32 jump.Call f h.0 rest h.2)
control_again (jump.CallIndirect t) a rest h = (
  0x11,
  h.0 ++ (0x00 ∷ []),
  h.1,
  refl,
  ap (control_at 0x11) (append_assoc h.0 (0x00 ∷ []) rest) ∙ ap (λ o. o >>= λ t. zero_at (jump.CallIndirect t.0) t.1) (reads_u32.again t h.0 (0x00 ∷ rest) h.2),
)
