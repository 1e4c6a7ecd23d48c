use Rattle.std.proofs.Common.{◌≡◌, ◌+◌, Some, refl, sym, ap, ◌∙◌, arith}
use Rattle.std.specs.Option.{option_map}
use Rattle.value_types.specs.Views.{datum}
use Rattle.value_types.specs.declared.value.ScVal.{ScVal}
use Rattle.host_spec.specs.VecRows.{meanings, words_in}
use Rattle.host_spec.specs.Words.{meaning}
use Rattle.host_frame.specs.Held.{held}
use Rattle.host_frame.specs.declared.held.Held.{Held}
use Rattle.collection_calls.specs.Within.{is_within}
use Rattle.collection_calls.proofs.SizeLaws.{fit_behind, fit_start, fit_next, fit_end}
use Rattle.collection_calls.proofs.WordLaws.{meant_stops}
use Rattle.collection_calls.proofs.from_memory.are_within.Goals as goal

pub loop-i-init : goal.loop-i-init
loop-i-init c = record { found = fit_start c.args.values.now (words_in c.args.count c.args.bytes.now); small = omega arith }

pub returns-in_err-value : goal.returns-in_err-value
returns-in_err-value c =
    meant_stops (λ (h : Held). datum (held h)) _ (fit_behind c.loop-i.sum) c.args.count c.loop-i.i c.args.bytes.now c.args.values.now c.word_at.result
    (option_map is_within (meanings c.args.values.now (words_in c.args.count c.args.bytes.now)))
    c.from_residual.result c.in_err-value.field-0.0 c.from_residual.ensures.1 c.loop-i-test.true c.word_at.ensures c.loop-i.invariant.found c.in_err-value.ensures.found

pub loop-i-preserved : goal.loop-i-preserved
loop-i-preserved c =
    let means : meaning c.args.values.now c.word_at.result ≡ Some (datum c.get.result.now) = c.in_ok-value.ensures.found ∙ ap (λ (v : ScVal). Some (datum v)) (sym c.get.ensures) in record {
      found = c.loop-i.invariant.found
          ∙ fit_next c.args.count c.loop-i.i (c.loop-i.i + 1) c.loop-i.sum c.grown-sum.result c.args.bytes.now c.args.values.now c.word_at.result (datum c.get.result.now) refl c.loop-i-test.true c.word_at.ensures means c.grown-sum.ensures.sum;
      small = c.grown-sum.ensures.small;
    }

pub returns : goal.returns
returns c = c.loop-i.invariant.found ∙ fit_end c.args.count c.loop-i.i c.loop-i.sum c.args.bytes.now c.args.values.now (omega (arith, c.loop-i-test.false))
