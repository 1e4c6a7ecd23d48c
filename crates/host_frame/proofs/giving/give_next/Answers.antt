use Rattle.std.proofs.Common.{ℕ, [], ◌∷◌, ◌++◌, refl}
use Rattle.value_types.specs.Views.{datum}
use Rattle.object_store.specs.Shown.{shown_of}
use Rattle.host_spec.specs.Acts.{state, gives}
use Rattle.host_spec.specs.Answers.{given, value}
use Rattle.host_frame.proofs.Acting.{then_exit}
use Rattle.host_frame.proofs.giving.give_next.Goals as goal

pub returns-in_err-word-clause-does : goal.returns-in_err-word-clause-does
returns-in_err-word-clause-does c memory =
    then_exit (λ (n : ℕ). n) _ (given (value (datum c.args.item)) (state (shown_of c.args.objects.now c.args.shown.now) memory c.args.budget.now)) (λ word. gives (c.args.words.items ++ word ∷ []))
    (state (shown_of c.give.new.objects c.give.new.shown) memory c.give.new.budget) c.from_residual.result c.in_err-word.field-0.0 c.from_residual.ensures.1 (c.in_err-word.ensures.does memory)

pub returns-clause-does : goal.returns-clause-does
returns-clause-does c memory = rw (c.in_ok-word.ensures.does memory, c.in_ok-push.ensures.items) refl
