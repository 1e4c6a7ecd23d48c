use Rattle.wasm_spec.specs.declared.values.Value.{Value}
use Rattle.std.proofs.Common.{◌≡◌, IsSome, List, [], ◌-◌, Result, Ok, Err, IfOk, OnOk, take, drop, sym, ap, subst, ◌∙◌, Some, arith}
use Rattle.std.specs.Prelude.{reverse}
use Rattle.wasm_spec.specs.Meaning.{arguments}
use Rattle.wasm_machine.proofs.Stack.{arguments_length, arguments_view}
use Rattle.wasm_machine.proofs.operands.Operands.take_arguments.Goals as goal

pub overflow_sub-rest : goal.overflow_sub-rest
overflow_sub-rest c =
    let some = subst (λ (l : List Value). IsSome (arguments c.args.count [] l)) (sym c.self.view_is) c.requires in
    omega (arith, arguments_length c.self.inside.values.items c.args.count some, c.len.ensures, c.self.inside.values.ok.0)

if_ok : {T E : Type 0} (r : Result T E) (P R : T → Type 0) (Q : Type 0) → IfOk r P → OnOk r Q → ((t : T) → P t → Q → R t) → IfOk r R
if_ok (Ok x) P R Q p q f = f x p q
if_ok (Err e) P R Q p q f = tt

pub returns : goal.returns
returns c =
    let xs = c.self.inside.values.items in
    let i = c.len.result - c.args.count in
    let some = subst (λ (l : List Value). IsSome (arguments c.args.count [] l)) (sym c.self.view_is) c.requires in
    let all = ap (arguments c.args.count []) (sym c.self.view_is) ∙ arguments_view xs c.args.count i (omega (arith, c.len.ensures, c.self.inside.values.ok.0)) some in
    if_ok c.split_off.result (λ t. t.items ≡ drop i xs) _ (c.split_off.new.self.items ≡ take i xs) c.split_off.ensures.tail c.split_off.ensures.items
    (λ t tail prefix. all ∙ ap (λ (l : List Value). Some (l, reverse (take i xs))) (sym tail) ∙ ap (λ (l : List Value). Some (t.items, reverse l)) (sym prefix))
