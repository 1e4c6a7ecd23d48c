use Rattle.std.proofs.Common.{◌≡◌, Some}
use Rattle.value_types.specs.Views.{datums}
use Rattle.host_spec.specs.VecRows.{meanings, words_in}
use Rattle.object_store.specs.Shown.{shown_of}
use Rattle.collection_calls.proofs.SizeLaws.{says_vec}
use Rattle.collection_calls.proofs.from_memory.show_words.Goals as goal

pub returns-clause-does : goal.returns-clause-does
returns-clause-does c = λ memory.
    let found : meanings (shown_of c.args.objects.now c.args.shown.now) (words_in c.args.count c.args.bytes.now) ≡ Some (datums c.in_ok-items.items.items) = (let v = c.new-values.ensures in let f = c.in_ok-items.ensures.found in cc) in
    says_vec c.give.result _ (datums c.in_ok-items.items.items) _ _ _ found c.in_ok-vec.ensures.value (c.give.ensures.does memory)
