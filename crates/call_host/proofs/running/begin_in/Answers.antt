use Rattle.std.proofs.Common.{List, subst, ◌∙◌}
use Rattle.value_types.specs.Datum.{Datum}
use Rattle.host_ledger.specs.Worlds.{called_args}
use Rattle.object_store.specs.Shown.{shown_of}
use Rattle.wasm_spec.specs.declared.module.Module.{Module}
use Rattle.call_spec.specs.Outcomes.{quiet, Says}
use Rattle.call_host.specs.Framed.{argument_words}
use Rattle.call_host.proofs.Beginning.{words_of}
use Rattle.call_host.proofs.running.begin_in.Goals as goal

pub returns-clause-does : goal.returns-clause-does
returns-clause-does g c w i j =
    subst (λ (m : Module). Says c.argument_words.result words_of (argument_words m.memories (called_args c.args.ledger.now.frame.function) w)
    (quiet w (λ trace. record w { frame = record w.frame { shown = shown_of c.argument_words.new.objects c.argument_words.new.shown }; trace = trace; meter = c.argument_words.new.budget })))
    (c.module.ensures.«module» ∙ c.valid.ensures.«module»)
    (subst (λ (ds : List Datum). Says c.argument_words.result words_of (argument_words c.module.result.now.memories ds w)
    (quiet w (λ trace. record w { frame = record w.frame { shown = shown_of c.argument_words.new.objects c.argument_words.new.shown }; trace = trace; meter = c.argument_words.new.budget })))
    c.args_of.ensures.args (c.argument_words.ensures.does w i j))
