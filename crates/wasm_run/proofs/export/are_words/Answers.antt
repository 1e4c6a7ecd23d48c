use Rattle.std.proofs.Common.{◌+◌, Bool, sym, refl, ap, ◌∙◌, drop, ◌-◌}
use Rattle.std.specs.Prelude.{◌&&◌, replicate}
use Rattle.wasm_spec.specs.declared.types.ValueType.TheVariants.{I64}
use Rattle.wasm_spec.specs.Meaning.{same_types}
use Rattle.wasm_run.proofs.Walks.{words_differ, words_at}
use Rattle.wasm_run.proofs.export.are_words.Goals as goal

pub returns-then-types-count : goal.returns-then-types-count
returns-then-types-count c = sym (words_differ c.args.types.now c.args.count c.if-types-count.true)

pub returns-then-not-is_word : goal.returns-then-not-is_word
returns-then-not-is_word c =
    let i = c.loop-value_type.value_type-index in
    let rest = same_types (drop (i + 1) c.args.types.now) (replicate (c.args.count - (i + 1)) I64) in
    sym (c.loop-value_type.invariant ∙ words_at c.args.types.now i (i + 1) c.args.count _ c.loop-value_type-test.true c.if-types-count.false refl ∙ ap (λ (b : Bool). b && rest) (sym c.is_word.ensures ∙ c.if-not-is_word.true))

pub loop-value_type-preserved : goal.loop-value_type-preserved
loop-value_type-preserved c =
    let i = c.loop-value_type.value_type-index in
    let rest = same_types (drop (i + 1) c.args.types.now) (replicate (c.args.count - (i + 1)) I64) in
    c.loop-value_type.invariant ∙ words_at c.args.types.now i (i + 1) c.args.count _ c.loop-value_type-test.true c.if-types-count.false refl ∙ ap (λ (b : Bool). b && rest) (sym c.is_word.ensures ∙ c.if-not-is_word.false)
