use Rattle.host_spec.specs.Indices.{arguments_of}
use Rattle.host_spec.specs.ValueFunctions.{value_rule, value_function}
use Rattle.host_values.proofs.Steps.{call_stops, call_goes_on, call_made}
use Rattle.host_values.proofs.call.shown_answer.Goals as goal

pub returns-in_err-made-clause-does : goal.returns-in_err-made-clause-does
unfolding value_function
returns-in_err-made-clause-does c =
    call_stops (arguments_of c.args.import) (value_rule c.args.import) c.args.words.now _ _ c.from_residual.result c.in_err-made.field-0.0 c.from_residual.ensures.1 c.in_err-made.ensures.answers

pub returns-clause-does : goal.returns-clause-does
unfolding value_function
returns-clause-does c =
    call_goes_on (arguments_of c.args.import) (value_rule c.args.import) c.args.words.now _ _ _ c.in_ok-made.made c.give.result c.in_ok-made.ensures.answers (c.give.ensures.does c.answer.new.memory)

pub give-requires-clause-made : goal.give-requires-clause-made
give-requires-clause-made c = call_made (arguments_of c.args.import) (value_rule c.args.import) c.args.words.now _ _ c.in_ok-made.made c.in_ok-made.ensures.answers
