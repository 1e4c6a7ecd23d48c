-- The execution of code and of calls (core section 4.4).
use Rattle.std.specs.Prelude.{◌≡◌, ◌<◌, ℕ, zero, suc, ◌-◌, ◌^◌, ◌&&◌, List, [], ◌∷◌, ◌++◌, length, map, reverse, Bool, true}
use Rattle.std.specs.Prelude.{false, Option, Some, None, is_some, slice_get}
use Rattle.budget_meter.specs.Meter.{Meter}
use Rattle.wasm_spec.specs.declared.types.ValueType.{ValueType}
use Rattle.wasm_spec.specs.declared.types.ValueType.TheVariants.{I32, I64}
use Rattle.wasm_spec.specs.declared.types.FuncType.{FuncType}
use Rattle.wasm_spec.specs.declared.values.Value.{Value}
use Rattle.wasm_spec.specs.declared.values.Value.TheVariants as value
use Rattle.wasm_spec.specs.declared.values.TrapKind.TheVariants.{Unreachable, OutOfBounds, IndirectType, EmptyElement, CallDepth}
use Rattle.wasm_spec.specs.declared.instructions.Control.{Control}
use Rattle.wasm_spec.specs.declared.instructions.Control.TheVariants as jump
use Rattle.wasm_spec.specs.declared.module.Function.{Function}
use Rattle.wasm_spec.specs.declared.module.Module.{Module}
use Rattle.wasm_spec.specs.Code.{Code, end, plain, control, block, loop, choose, BlockType}
use Rattle.wasm_spec.specs.Typing.{function_type, result_of, local_types}
use Rattle.wasm_spec.specs.Stores.{number_of, zero_of, answered, pop, Store, with_bytes}
use Rattle.wasm_spec.specs.Effects.{effect_of}
use Rattle.wasm_spec.specs.Runs.{State, Run, Normal, Branch, Return, Trap, Spent, Stuck, Ask, executed, effect_run, then_do}
use Rattle.wasm_spec.specs.Runs.{carried, whole, onto, leave, turns}

-- function types are compared by structure, not by index (2.3.3, 4.4.5)

abbrev pub same_type : ValueType → ValueType → Bool
same_type I32 I32 = true
same_type I32 I64 = false
same_type I64 I32 = false
same_type I64 I64 = true

abbrev pub same_types : List ValueType → List ValueType → Bool
same_types [] [] = true
same_types [] (u ∷ us) = false
same_types (t ∷ ts) [] = false
same_types (t ∷ ts) (u ∷ us) = same_type t u && same_types ts us

abbrev pub same_function_type : FuncType → FuncType → Bool
same_function_type t u = same_types t.params u.params && same_types t.results u.results

-- control instructions (4.4.5)

-- the run of a call, by the function's index
abbrev pub Calls : Type 0
Calls = ℕ → List Value → State → Run

-- a if the number is 0, else b
abbrev pub at_zero : {A : Type 0} → ℕ → A → A → A
at_zero zero a b = a
at_zero (suc n) a b = b

-- the label that br_table selects for an operand
abbrev pub label_for : List ℕ → ℕ → ℕ → ℕ
label_for [] other n = other
label_for (l ∷ ls) other zero = l
label_for (l ∷ ls) other (suc n) = label_for ls other n

abbrev pub matching_call : Bool → Calls → Calls
matching_call false calls f ops s = Trap IndirectType s.meter
matching_call true calls f ops s = calls f ops s

-- the call of a function that has this type, if it equals the wanted type
abbrev pub typed_call : Calls → FuncType → Option FuncType → Calls
typed_call calls wanted None f ops s = Stuck
typed_call calls wanted (Some t) f ops s = matching_call (same_function_type wanted t) calls f ops s

-- the call of a table element
abbrev pub element_call : Module → Calls → FuncType → Option (Option ℕ) → List Value → State → Run
element_call m calls wanted None ops s = Trap OutOfBounds s.meter
element_call m calls wanted (Some None) ops s = Trap EmptyElement s.meter
element_call m calls wanted (Some (Some f)) ops s = typed_call calls wanted (function_type m f) f ops s

abbrev pub indirect_call : Module → Calls → Option FuncType → ℕ → List Value → State → Run
indirect_call m calls None n ops s = Stuck
indirect_call m calls (Some wanted) n ops s = element_call m calls wanted (slice_get s.store.table n) ops s

abbrev pub control_run : Module → Calls → Control → List Value → State → Run
control_run m calls jump.Unreachable ops s = Trap Unreachable s.meter
control_run m calls (jump.Br l) ops s = Branch l ops s
control_run m calls (jump.BrIf l) ops s = pop Stuck I32 ops (λ n ops. at_zero n (Normal ops s) (Branch l ops s))
control_run m calls (jump.BrTable ls l) ops s = pop Stuck I32 ops (λ n ops. Branch (label_for ls l n) ops s)
control_run m calls jump.Return ops s = Return ops s
control_run m calls (jump.Call f) ops s = calls f ops s
control_run m calls (jump.CallIndirect t) ops s = pop Stuck I32 ops (λ n ops. indirect_call m calls (slice_get m.types t) n ops s)

-- Each instruction is counted and charged when it is reached, and a loop instruction only before its first iteration.
abbrev pub exec : Module → Calls → Code → List Value → State → Run
exec m calls end ops s = Normal ops s
exec m calls (plain p rest) ops s =
    executed Spent s (λ s. then_do (effect_run (effect_of p ops s.locals s.store) s) (exec m calls rest))
exec m calls (control k rest) ops s = executed Spent s (λ s. then_do (control_run m calls k ops s) (exec m calls rest))
exec m calls (block t body rest) ops s =
    executed Spent s (λ s. then_do (leave t ops (exec m calls body [] s)) (exec m calls rest))
exec m calls (loop t body rest) ops s =
    executed Spent s (λ s. then_do (leave t ops (turns (suc s.left) (exec m calls body []) s)) (exec m calls rest))
exec m calls (choose t taken other rest) ops s =
    executed Spent s
    (λ s. pop Stuck I32 ops
    (λ n ops. then_do (leave t ops (at_zero n (exec m calls other [] s) (exec m calls taken [] s))) (exec m calls rest)))

-- calls (4.4.7)

-- the n topmost operands, the first pushed first, and the operands below them
abbrev pub arguments : ℕ → List Value → List Value → Option (List Value × List Value)
arguments zero args ops = Some (args, ops)
arguments (suc n) args [] = None
arguments (suc n) args (v ∷ ops) = arguments n (v ∷ args) ops

abbrev pub with_arguments : Option (List Value × List Value) → (List Value → List Value → Run) → Run
with_arguments None go = Stuck
with_arguments (Some a) go = go a.0 a.1

-- the caller's state after a call: its own locals again
abbrev pub back_in : State → State → State
back_in caller s = record s { locals = caller.locals }

-- the run of a call, from the run of the function's body
abbrev pub finish : BlockType → List Value → State → Run → Run
finish t under caller (Normal ops s) = onto under (back_in caller s) (whole t ops)
finish t under caller (Branch zero ops s) = onto under (back_in caller s) (carried t ops)
finish t under caller (Branch (suc k) ops s) = Stuck
finish t under caller (Return ops s) = onto under (back_in caller s) (carried t ops)
finish t under caller (Trap kind meter) = Trap kind meter
finish t under caller (Spent meter) = Spent meter
finish t under caller Stuck = Stuck
finish t under caller (Ask f args memory meter on) = Ask f args memory meter (λ v bytes b. finish t under caller (on v bytes b))

abbrev pub start_locals : Function → List Value → List Value
start_locals f args = args ++ map zero_of (local_types f.locals)

-- the call of a function that the module defines
abbrev pub enter : Module → Calls → Function → FuncType → List Value → State → Run
enter m calls f t ops s = with_arguments (arguments (length t.params) [] ops) (λ args under.
    finish (result_of t) under s (exec m calls f.body [] (record s { locals = start_locals f args })))

-- the same call when the nesting limit is reached
abbrev pub too_deep : Function → FuncType → List Value → State → Run
too_deep f t ops s = with_arguments (arguments (length t.params) [] ops) (λ args under. Trap CallDepth s.meter)

-- the call of an import: the host returns an answer, the memory's bytes and the budget
abbrev pub ask : FuncType → Calls
ask t f ops s = with_arguments (arguments (length t.params) [] ops) (λ args under.
    Ask f (map number_of args) s.store.memory.bytes s.meter
    (λ v bytes b. Normal (answered (result_of t) v ++ under) (record s { store = with_bytes bytes s.store; meter = b })))

abbrev pub own_call : Option Function → (Function → FuncType → List Value → State → Run) → FuncType → List Value → State → Run
own_call None go t ops s = Stuck
own_call (Some f) go t ops s = go f t ops s

abbrev pub is_import : Module → ℕ → Bool
is_import m f = is_some (slice_get m.imports f)

-- an import of the module, with as many arguments as it has parameters
abbrev pub NamesImport : Module → ℕ → List ℕ → Type 0
NamesImport m f args = (f < length m.imports) × ((t : FuncType) × (function_type m f ≡ Some t) × (length args ≡ length t.params))

-- the call of a function of the type: an import, or a function that the module defines
abbrev pub any_call : Module → (Function → FuncType → List Value → State → Run) → Bool → Option FuncType → Calls
any_call m go imported None f ops s = Stuck
any_call m go true (Some t) f ops s = ask t f ops s
any_call m go false (Some t) f ops s = own_call (slice_get m.functions (f - length m.imports)) go t ops s

-- the call of a function, while the module's own functions may be nested so many calls deep
abbrev pub call_of : Module → ℕ → Calls
call_of m zero f ops s = any_call m too_deep (is_import m f) (function_type m f) f ops s
call_of m (suc room) f ops s = any_call m (enter m (call_of m room)) (is_import m f) (function_type m f) f ops s

-- the most nested calls (a limit of this host)
unfoldable pub MOST_CALLS : ℕ
MOST_CALLS = 512

-- the state in which a run starts
abbrev pub beginning : Store → Meter → State
beginning store meter = record { locals = []; store = store; left = 2 ^ 64 - 1; meter = meter }

-- The run of a function of the module with arguments of 64 bits. This call counts as the first nested one. If the function is an
-- import, the run starts with its Ask.
abbrev pub meaning : Module → ℕ → List ℕ → Store → Meter → Run
meaning m f args store meter = call_of m MOST_CALLS f (reverse (map value.I64 args)) (beginning store meter)
