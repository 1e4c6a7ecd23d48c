-- Validation of code as a function on the known operand types. Behind a jump the stack is polymorphic (core section 3.3).
use Rattle.std.specs.Prelude.{ℕ, nat_lt, Bool, true, false, List, [], ◌∷◌, length, reverse, Option, Some, None, slice_get}
use Rattle.std.specs.Prelude.{if◌then◌else◌}
use Rattle.std.specs.List.{list_all}
use Rattle.wasm_spec.specs.declared.types.ValueType.{ValueType}
use Rattle.wasm_spec.specs.declared.types.ValueType.TheVariants.{I32, I64}
use Rattle.wasm_spec.specs.declared.types.FuncType.{FuncType}
use Rattle.wasm_spec.specs.declared.types.Signature.{Signature}
use Rattle.wasm_spec.specs.declared.instructions.Plain.{Plain}
use Rattle.wasm_spec.specs.declared.instructions.Plain.TheVariants as op
use Rattle.wasm_spec.specs.declared.instructions.Control.{Control}
use Rattle.wasm_spec.specs.declared.instructions.Control.TheVariants as jump
use Rattle.wasm_spec.specs.declared.module.Module.{Module}
use Rattle.wasm_spec.specs.Code.{Code, end, plain, control, block, loop, choose, BlockType}
use Rattle.wasm_spec.specs.Typing.{◌>>=◌, Context, inside, signature_of, taken_types, label, result_of, function_type}

-- the types of the topmost operands, as far as they are known; under them there are no others, or any
pub record Shape : Type 0 where
  pub known : List (Option ValueType)
  pub any : Bool

abbrev pub shape : List (Option ValueType) → Bool → Shape
shape known any = record { known = known; any = any }

-- no operands
abbrev pub nothing : Shape
nothing = shape [] false

-- the polymorphic stack behind a jump or a trap
abbrev pub anything : Shape
anything = shape [] true

abbrev pub push : Option ValueType → Shape → Shape
push o s = shape (o ∷ s.known) s.any

abbrev pub push_result : BlockType → Shape → Shape
push_result None s = s
push_result (Some t) s = push (Some t) s

abbrev pub same_type : ValueType → ValueType → Bool
same_type I32 I32 = true
same_type I32 I64 = false
same_type I64 I32 = false
same_type I64 I64 = true

-- whether an operand may have the type
abbrev pub may_be : Option ValueType → ValueType → Bool
may_be None t = true
may_be (Some u) t = same_type u t

-- pops one operand, with its type if that is known
abbrev pub pop_from : List (Option ValueType) → Bool → Option (Option ValueType × Shape)
pop_from [] false = None
pop_from [] true = Some (None, anything)
pop_from (o ∷ known) any = Some (o, shape known any)

abbrev pub pop_any : Shape → Option (Option ValueType × Shape)
pop_any s = pop_from s.known s.any

-- pops one operand of the type
abbrev pub pop : ValueType → Shape → Option Shape
pop t s = pop_any s >>= λ x. if may_be x.0 t then Some x.1 else None

abbrev pub pops : List ValueType → Shape → Option Shape
pops [] s = Some s
pops (t ∷ ts) s = pop t s >>= pops ts

abbrev pub pop_result : BlockType → Shape → Option Shape
pop_result None s = Some s
pop_result (Some t) s = pop t s

abbrev pub is_empty : Shape → Option Shape
is_empty s = empty_known s.known s
  where
    empty_known : List (Option ValueType) → Shape → Option Shape
    empty_known [] s = Some s
    empty_known (o ∷ known) s = None

-- at a block's end the operands are its result and no others
abbrev pub ends : BlockType → Shape → Option Shape
ends r s = pop_result r s >>= is_empty

-- the type of an operand that is one of two; none if the two have different types
abbrev pub either : Option ValueType → Option ValueType → Option (Option ValueType)
either None b = Some b
either (Some a) None = Some (Some a)
either (Some a) (Some b) = if same_type a b then Some (Some a) else None

abbrev pub check_select : Shape → Option Shape
check_select s = pop I32 s >>= λ s. pop_any s >>= λ x. pop_any x.1 >>= λ y. either x.0 y.0 >>= λ o. Some (push o y.1)

abbrev pub check_signature : Signature → Shape → Option Shape
check_signature g s = pops (taken_types g.takes) s >>= λ s. Some (push_result g.gives s)

abbrev pub check_by_signature : Context → Plain → Shape → Option Shape
check_by_signature c p s = signature_of c p >>= λ g. check_signature g s

abbrev pub check_plain : Context → Plain → Shape → Option Shape
check_plain c op.Drop s = pop_any s >>= λ x. Some x.1
check_plain c op.Select s = check_select s
check_plain c p s = check_by_signature c p s

abbrev pub same_label : BlockType → Option BlockType → Bool
same_label r None = false
same_label None (Some None) = true
same_label None (Some (Some u)) = false
same_label (Some t) (Some None) = false
same_label (Some t) (Some (Some u)) = same_type t u

abbrev pub check_call : FuncType → Shape → Option Shape
check_call t s = pops (reverse t.params) s >>= λ s. Some (push_result (result_of t) s)

abbrev pub check_table : List BlockType → List ℕ → BlockType → Shape → Option Shape
check_table labels ls r s = pop I32 s >>= λ s. pop_result r s >>= λ _. if list_all (λ k. same_label r (slice_get labels k)) ls
    then Some anything else None

abbrev pub check_indirect : Module → ℕ → Shape → Option Shape
check_indirect m i s =
    if nat_lt 0 (length m.tables) then (slice_get m.types i >>= λ t. pop I32 s >>= λ s. check_call t s) else None

abbrev pub check_control : Context → Control → Shape → Option Shape
check_control c jump.Unreachable s = Some anything
check_control c (jump.Br l) s = label c l >>= λ r. pop_result r s >>= λ _. Some anything
check_control c (jump.BrIf l) s = label c l >>= λ r. pop I32 s >>= λ s. pop_result r s >>= λ s. Some (push_result r s)
check_control c (jump.BrTable ls l) s = label c l >>= λ r. check_table c.labels ls r s
check_control c jump.Return s = pop_result c.result s >>= λ _. Some anything
check_control c (jump.Call f) s = function_type c.module_ f >>= λ t. check_call t s
check_control c (jump.CallIndirect i) s = check_indirect c.module_ i s

abbrev pub check_code : Context → Code → Shape → Option Shape
check_code c end s = Some s
check_code c (plain p rest) s = check_plain c p s >>= check_code c rest
check_code c (control k rest) s = check_control c k s >>= check_code c rest
check_code c (block r body rest) s = check_code (inside r c) body nothing >>= ends r >>= λ _. check_code c rest (push_result r s)
check_code c (loop r body rest) s =
    check_code (inside None c) body nothing >>= ends r >>= λ _. check_code c rest (push_result r s)
check_code c (choose r taken other rest) s =
    pop I32 s >>= λ s. check_code (inside r c) taken nothing >>= ends r >>= λ _. check_code
    (inside r c) other nothing >>= ends r >>= λ _. check_code c rest (push_result r s)

-- validation of a block's body, from an empty stack to the block's result
abbrev pub body_check : Context → BlockType → Code → Option Shape
body_check c r x = check_code c x nothing >>= ends r
