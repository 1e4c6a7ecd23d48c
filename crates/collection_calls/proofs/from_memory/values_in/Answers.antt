use Rattle.std.proofs.Common.{◌+◌, List, ◌++◌, length, drop, refl, sym, ap, subst, ◌∙◌, arith}
use Rattle.std.proofs.lemmas.List.{length_push}
use Rattle.value_types.specs.Datum.{Datum}
use Rattle.value_types.specs.Views.{datum, datums}
use Rattle.value_types.specs.declared.value.ScVal.{ScVal}
use Rattle.host_spec.specs.VecRows.{meanings, words_in}
use Rattle.host_frame.specs.Made.{AreMade}
use Rattle.collection_calls.proofs.VecLaws.{push_datum, push_made}
use Rattle.collection_calls.proofs.WordLaws.{meant_after, meant_stops, meant_next}
use Rattle.collection_calls.proofs.from_memory.values_in.Goals as goal

pub returns-in_err-owned-clause-found : goal.returns-in_err-owned-clause-found
returns-in_err-owned-clause-found c =
    meant_stops datum _ (λ (es : List Datum). datums c.loop-i.made.items ++ es) c.args.count c.loop-i.i c.args.bytes.now c.args.values.now c.word_at.result (meanings c.args.values.now (words_in c.args.count c.args.bytes.now))
    c.from_residual-in_err-owned.result c.in_err-owned.field-0.0 c.from_residual-in_err-owned.ensures.1 c.loop-i-test.true c.word_at.ensures c.loop-i.invariant.found c.in_err-owned.ensures.found

pub loop-i-preserved : goal.loop-i-preserved
loop-i-preserved c =
    let pushed = c.in_ok-push.ensures.items in
    let i = c.loop-i.invariant in record {
      found = i.found
          ∙ meant_next c.args.count c.loop-i.i (c.loop-i.i + 1) c.args.bytes.now (datums c.loop-i.made.items) c.args.values.now c.word_at.result _ refl c.loop-i-test.true c.word_at.ensures c.in_ok-owned.ensures.found
          ∙ ap (λ (ds : List Datum). meant_after ds c.args.values.now (drop (c.loop-i.i + 1) (words_in c.args.count c.args.bytes.now))) (sym (ap datums pushed ∙ push_datum c.loop-i.made.items _));
      made = subst (λ (vs : List ScVal). AreMade (datums vs)) (sym pushed) (push_made c.loop-i.made.items _ i.made c.in_ok-owned.ensures.made);
      count = omega (arith, ap length pushed, length_push c.loop-i.made.items c.in_ok-owned.field-0, i.count);
    }
