use Rattle.std.proofs.Common.{◌≡◌, ◌+◌, true, false, length, Some, sym, ap, ap₂, ◌∙◌}
use Rattle.std.specs.Prelude.{nat_le, slice_get, option_copied}
use Rattle.wasm_spec.specs.Binary.{locals_count}
use Rattle.wasm_spec.specs.Typing.{MOST_LOCALS}
use Rattle.wasm_check.proofs.FunctionLaws.{judged, many_locals}
use Rattle.wasm_check.proofs.module.check_function.Goals as goal

pub returns-then-are_few : goal.returns-then-are_few
returns-then-are_few c =
    let t = c.in_ok-func_type.func_type.now in
    let known : slice_get c.args.module.now.types c.args.function.now.type_index ≡ Some t = sym c.type_at.ensures ∙ ap option_copied c.in_ok-func_type.ensures.ok_part in
    let few : nat_le (length t.params + locals_count c.args.function.now.locals) MOST_LOCALS ≡ true =
    ap₂ (λ ps ls. nat_le (length ps + locals_count ls) MOST_LOCALS) (sym c.as_slice.ensures) (sym c.as_slice-2.ensures) ∙ sym c.are_few.ensures ∙ c.if-are_few.true in
    judged c.args.module.now c.args.function.now t c.check_function_body.result known few c.check_function_body.ensures

pub returns-else-are_few : goal.returns-else-are_few
returns-else-are_few c =
    let t = c.in_ok-func_type.func_type.now in
    let known : slice_get c.args.module.now.types c.args.function.now.type_index ≡ Some t = sym c.type_at.ensures ∙ ap option_copied c.in_ok-func_type.ensures.ok_part in
    let many : nat_le (length t.params + locals_count c.args.function.now.locals) MOST_LOCALS ≡ false =
    ap₂ (λ ps ls. nat_le (length ps + locals_count ls) MOST_LOCALS) (sym c.as_slice.ensures) (sym c.as_slice-2.ensures) ∙ sym c.are_few.ensures ∙ c.if-are_few.false in
    many_locals c.args.module.now c.args.function.now t known many
