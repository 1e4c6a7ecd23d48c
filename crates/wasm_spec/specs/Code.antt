-- Code as a tree: the model of a sequence of instructions (core section 2.4).
use Rattle.std.specs.Prelude.{◌≡◌, ℕ, suc, ◌+◌, Option}
use Rattle.std.proofs.Common.{refl, ap, ap₂, ◌∙◌}
use Rattle.std.specs.Coded.{Coded, coded_option}
use base.Stored.{Gv, gnum, gcons}
use Rattle.wasm_spec.specs.declared.types.ValueType.{ValueType}
use Rattle.wasm_spec.specs.declared.instructions.Plain.{Plain}
use Rattle.wasm_spec.specs.declared.instructions.Control.{Control}
use Rattle.wasm_spec.specs.contracts.types.ValueType as value_types
use Rattle.wasm_spec.specs.contracts.instructions.Plain as plains
use Rattle.wasm_spec.specs.contracts.instructions.Control as controls

-- the result type of a block: one value or none (core section 5.3.2 has no other block types)
abbrev pub BlockType : Type 0
BlockType = Option ValueType

-- Each instruction has the code after it as its last argument.
pub data Code : Type 0 where
  end : Code
  plain : Plain → Code → Code
  control : Control → Code → Code
  block : BlockType → Code → Code → Code
  loop : BlockType → Code → Code → Code
  choose : BlockType → Code → Code → Code → Code

-- the number of instructions, nested ones included
abbrev pub size_of : Code → ℕ
size_of end = 0
size_of (plain p rest) = suc (size_of rest)
size_of (control k rest) = suc (size_of rest)
size_of (block t body rest) = suc (suc (size_of body) + size_of rest)
size_of (loop t body rest) = suc (suc (size_of body) + size_of rest)
size_of (choose t taken other rest) = suc (suc (size_of taken) + suc (size_of other) + size_of rest)

-- An injective code for Code as a tree of numbers, which the type Body cites as a ghost member.

abbrev pub coded_block_type : Coded BlockType
coded_block_type = coded_option value_types.the_row.coded

abbrev pub coded_plain : Coded Plain
coded_plain = plains.the_row.coded

abbrev pub coded_control : Coded Control
coded_control = controls.the_row.coded

abbrev pub stored : Code → Gv
stored end = gnum 0
stored (plain p rest) = gcons (gnum 1) (gcons (coded_plain.code p) (stored rest))
stored (control k rest) = gcons (gnum 2) (gcons (coded_control.code k) (stored rest))
stored (block t body rest) = gcons (gnum 3) (gcons (coded_block_type.code t) (gcons (stored body) (stored rest)))
stored (loop t body rest) = gcons (gnum 4) (gcons (coded_block_type.code t) (gcons (stored body) (stored rest)))
stored (choose t taken other rest) =
    gcons (gnum 5) (gcons (coded_block_type.code t) (gcons (stored taken) (gcons (stored other) (stored rest))))

pub stored-inj : (x y : Code) → stored x ≡ stored y → x ≡ y
stored-inj end end e = refl
stored-inj (plain p x) (plain q y) e =
    let h : coded_plain.code p ≡ coded_plain.code q = cc in
    let r : stored x ≡ stored y = cc in
    ap₂ plain (coded_plain.inj p q h) (stored-inj x y r)
stored-inj (control p x) (control q y) e =
    let h : coded_control.code p ≡ coded_control.code q = cc in
    let r : stored x ≡ stored y = cc in
    ap₂ control (coded_control.inj p q h) (stored-inj x y r)
stored-inj (block s a x) (block t b y) e =
    let h : coded_block_type.code s ≡ coded_block_type.code t = cc in
    let g : stored a ≡ stored b = cc in
    let r : stored x ≡ stored y = cc in
    ap (λ (k : BlockType). block k a x) (coded_block_type.inj s t h) ∙ ap₂ (block t) (stored-inj a b g) (stored-inj x y r)
stored-inj (loop s a x) (loop t b y) e =
    let h : coded_block_type.code s ≡ coded_block_type.code t = cc in
    let g : stored a ≡ stored b = cc in
    let r : stored x ≡ stored y = cc in
    ap (λ (k : BlockType). loop k a x) (coded_block_type.inj s t h) ∙ ap₂ (loop t) (stored-inj a b g) (stored-inj x y r)
stored-inj (choose s a c x) (choose t b d y) e =
    let h : coded_block_type.code s ≡ coded_block_type.code t = cc in
    let g : stored a ≡ stored b = cc in
    let f : stored c ≡ stored d = cc in
    let r : stored x ≡ stored y = cc in
    ap (λ (k : BlockType). choose k a c x) (coded_block_type.inj s t h) ∙ ap (λ (k : Code). choose t k c x) (stored-inj a b g)
    ∙ ap₂ (choose t b) (stored-inj c d f) (stored-inj x y r)
stored-inj _ _ e = cc

abbrev pub coded_code : Coded Code
coded_code = record { code = stored; inj = stored-inj }
