use Rattle.std.proofs.Common.{arith}
use Rattle.value_types.specs.Datum.{void}
use Rattle.value_types.specs.Views.{datums}
use Rattle.object_store.specs.Shown.{shown_of}
use Rattle.host_spec.specs.Acts.{state}
use Rattle.host_spec.specs.Answers.{value}
use Rattle.host_spec.specs.LinearMemory.{writes}
use Rattle.host_spec.specs.VecRows.{all_given, words_bytes}
use Rattle.host_frame.specs.Answered.{answer_of}
use Rattle.host_frame.proofs.Lemmas.{datums_length, then_exit}
use Rattle.collection_calls.proofs.MemoryLaws.{given_length}
use Rattle.collection_calls.proofs.to_memory.unpack.Goals as goal

pub returns-in_err-words-clause-does : goal.returns-in_err-words-clause-does
returns-in_err-words-clause-does c =
    then_exit _ answer_of (all_given (datums c.args.items.items) (state (shown_of c.args.objects.now c.args.shown.now) c.args.memory.now c.args.budget.now)) (λ words. writes c.args.to (words_bytes words) (value void))
    (state (shown_of c.give_each.new.objects c.give_each.new.shown) c.args.memory.now c.give_each.new.budget) c.from_residual.result c.in_err-words.field-0.0 c.from_residual.ensures.1 (c.in_err-words.ensures.does c.args.memory.now)

pub write_words-requires : goal.write_words-requires
write_words-requires c =
    let n = given_length (datums c.args.items.items) _ _ _ (c.in_ok-words.ensures.does c.args.memory.now) in
    omega (arith, n, datums_length c.args.items.items, c.requires.room)

pub returns-clause-does : goal.returns-clause-does
returns-clause-does c = rw (c.in_ok-words.ensures.does c.args.memory.now, c.write_words.ensures, c.void.ensures.value) (let e = c.deref.ensures in cc)
