use Rattle.std.specs.List.{AllByRecursion}
use Rattle.std.specs.Option.{IfSome, IfNone}
use Rattle.std.proofs.Common.{◌≡◌, List, Option, All, map, sym, ap, subst, ◌∙◌}
use Rattle.ledger_spec.specs.LedgerMap.{key_bytes}
use Rattle.ledger_types.specs.Key.{key_format}
use Rattle.tx_xdr.specs.Stages.{stages_of}
use Rattle.stage_runs.specs.Conflicts.{IsFirstConflict}
use Rattle.stage_runs.specs.Runs.{Stage, clusters_in, start, HasNoConflict}
use Rattle.apply_spec.specs.Enforced.{enforced}
use Rattle.apply_spec.specs.Runs.{running_header}
use Rattle.set_steps.specs.declared.conflict.SetConflict.{SetConflict}
use Rattle.set_steps.specs.declared.stages.SetStage.{SetStage}
use Rattle.set_steps.specs.Stages.{clusters_of, IsSpelled}
use Rattle.set_steps.proofs.Lemmas.{clusters_listed, listed_spelled}
use Rattle.set_place.specs.Places.{met_at}
use Rattle.set_place.proofs.set.reach.Goals as goal

pub first_in_turn-requires : goal.first_in_turn-requires
first_in_turn-requires c =
    subst (λ (ss : List SetStage). All IsSpelled ss) (sym c.deref.ensures.value)
    (listed_spelled c.args.set.now c.in_ok-stages.stages.items c.requires.fits c.in_ok-stages.ensures)

pub returns-in-Some-clause-refused : goal.returns-in-Some-clause-refused
returns-in-Some-clause-refused c =
    let lent = c.deref.result.now in
    let conflict = c.in-Some.conflict in
    let same : clusters_of lent ≡ map clusters_in (stages_of c.args.set.now) =
    ap clusters_of c.deref.ensures.value ∙ clusters_listed c.in_ok-stages.stages.items (stages_of c.args.set.now) c.in_ok-stages.ensures in
    let first : IsFirstConflict (clusters_of lent) conflict.stage conflict.found.a conflict.found.b (key_bytes conflict.found.key.now) =
    subst (λ (o : Option SetConflict). IfSome o (λ k. IsFirstConflict (clusters_of lent) k.stage k.found.a k.found.b (key_bytes k.found.key.now))) c.in-Some.is c.in_ok-conflict.ensures.some in
    let fits : key_format.fits conflict.found.key.now =
    subst (λ (o : Option SetConflict). IfSome o (λ k. key_format.fits k.found.key.now)) c.in-Some.is c.in_ok-conflict.ensures.key in
    (subst (λ (ss : List Stage). IsFirstConflict ss conflict.stage conflict.found.a conflict.found.b (key_bytes conflict.found.key.now)) same first, fits)

pub reach_in_stages-requires-clause-fits : goal.reach_in_stages-requires-clause-fits
reach_in_stages-requires-clause-fits c =
    subst (λ (ss : List SetStage). All IsSpelled ss) (sym c.deref-2.ensures.value)
    (listed_spelled c.args.set.now c.in_ok-stages.stages.items c.requires.fits c.in_ok-stages.ensures)

pub returns-clause-free : goal.returns-clause-free
returns-clause-free c =
    let lent = c.deref.result.now in
    let same : clusters_of lent ≡ map clusters_in (stages_of c.args.set.now) =
    ap clusters_of c.deref.ensures.value ∙ clusters_listed c.in_ok-stages.stages.items (stages_of c.args.set.now) c.in_ok-stages.ensures in
    let free : AllByRecursion HasNoConflict (clusters_of lent) =
    subst (λ (o : Option SetConflict). IfNone o (AllByRecursion HasNoConflict (clusters_of lent))) c.in_default.is c.in_ok-conflict.ensures.none in
    subst (λ (ss : List Stage). AllByRecursion HasNoConflict ss) same free

pub returns-clause-met : goal.returns-clause-met
returns-clause-met c =
    let step = enforced (running_header c.args.ledger.header c.args.close_time) c.args.verdicts.now in
    let same : clusters_of c.deref-2.result.now ≡ map clusters_in (stages_of c.args.set.now) =
    ap clusters_of c.deref-2.ensures.value ∙ clusters_listed c.in_ok-stages.stages.items (stages_of c.args.set.now) c.in_ok-stages.ensures in
    c.reached_on.ensures.met ∙ c.in_ok-envelope.ensures.met
    ∙ ap (λ (ss : List Stage). met_at step (start c.args.ledger.entries) ss c.args.place) same
