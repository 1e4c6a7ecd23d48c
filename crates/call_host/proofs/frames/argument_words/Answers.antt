use Rattle.std.proofs.Common.{◌≡◌, List, subst}
use Rattle.value_types.specs.Views.{datums}
use Rattle.value_types.specs.declared.value.ScVal.{ScVal}
use Rattle.object_store.specs.Shown.{shown_of}
use Rattle.call_spec.specs.World.{World}
use Rattle.call_spec.specs.Outcomes.{quiet, Says}
use Rattle.call_host.specs.Framed.{argument_words}
use Rattle.call_host.proofs.Counting.{counted}
use Rattle.call_host.proofs.Beginning.{words_of, words_shown, words_stopped}
use Rattle.call_host.proofs.frames.argument_words.Goals as goal

pub returns-in-Ok-clone_args-clause-does : goal.returns-in-Ok-clone_args-clause-does
returns-in-Ok-clone_args-clause-does c =
    subst (λ (vs : List ScVal). (w : World) → w.frame.shown ≡ shown_of c.args.objects.now c.args.shown.now → w.meter ≡ c.args.budget.now → Says c.show_args.result words_of (argument_words c.args.module.now.memories (datums vs) w)
    (quiet w (λ trace. record w { frame = record w.frame { shown = shown_of c.show_args.new.objects c.show_args.new.shown }; trace = trace; meter = c.show_args.new.budget }))) c.in-Ok-clone_args.ensures.ok
    (words_shown c.args.budget.now c.charge_run.new.budget c.show_args.new.budget (shown_of c.args.objects.now c.args.shown.now) (shown_of c.show_args.new.objects c.show_args.new.shown) c.args.module.now.memories
    (datums c.in-Ok-clone_args.args.items) c.show_args.result c.in-Ok.ensures.does c.show_args.ensures.does)

pub returns-in-Err-clause-does : goal.returns-in-Err-clause-does
returns-in-Err-clause-does c =
    words_stopped c.in-Err.error c.args.budget.now c.charge_run.new.budget (shown_of c.args.objects.now c.args.shown.now) c.args.module.now.memories (datums c.args.args.now) c.in-Err.ensures.does

pub returns-in-Ok-clone_args-clause-count : goal.returns-in-Ok-clone_args-clause-count
returns-in-Ok-clone_args-clause-count c =
    counted c.show_args.result c.args.module.now.memories (datums c.args.args.now) (shown_of c.args.objects.now c.args.shown.now) (shown_of c.show_args.new.objects c.show_args.new.shown) c.args.budget.now c.show_args.new.budget
    (returns-in-Ok-clone_args-clause-does c)
