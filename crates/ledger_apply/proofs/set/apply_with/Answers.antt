use Rattle.std.specs.List.{AllByRecursion}
use Rattle.std.specs.Option.{IfSome, IfNone}
use Rattle.std.proofs.Common.{◌≡◌, List, Option, All, map, refl, sym, ap, subst, ◌∙◌}
use Rattle.ledger_spec.specs.LedgerMap.{key_bytes}
use Rattle.ledger_types.specs.Key.{key_format}
use Rattle.tx_xdr.specs.Stages.{stages_of}
use Rattle.tx_xdr.specs.declared.set.TxSet.{TxSet}
use Rattle.stage_runs.specs.Conflicts.{IsFirstConflict}
use Rattle.stage_runs.specs.Runs.{Stage, clusters_in, HasNoConflict}
use Rattle.set_steps.specs.declared.conflict.SetConflict.{SetConflict}
use Rattle.set_steps.specs.declared.stages.SetStage.{SetStage}
use Rattle.ledger_apply.specs.Final.{IsApplied, IsLogged}
use Rattle.set_steps.specs.Stages.{clusters_of, stage_of, IsSpelled}
use Rattle.set_steps.proofs.Lemmas.{clusters_listed, listed_spelled}
use Rattle.ledger_apply.proofs.set.apply_with.Goals as goal

-- The stages that are lent are those of the set.
clusters_lent : (set : TxSet) (lent listed : List SetStage) → lent ≡ listed → map stage_of listed ≡ stages_of set
    → clusters_of lent ≡ map clusters_in (stages_of set)
clusters_lent set lent listed is listed_are = ap clusters_of is ∙ clusters_listed listed (stages_of set) listed_are

pub first_conflict-requires-clause-spelled : goal.first_conflict-requires-clause-spelled
first_conflict-requires-clause-spelled g c κs within =
    subst (λ (ss : List SetStage). All IsSpelled ss) (sym c.deref.ensures.value) (listed_spelled c.args.set.now c.in_ok-stages.stages.items c.requires.fits c.in_ok-stages.ensures)

pub returns-in-Some-clause-conflict : goal.returns-in-Some-clause-conflict
returns-in-Some-clause-conflict g c =
    let lent = c.deref.result.now in
    let conflict = c.in-Some.conflict in
    let same = clusters_lent c.args.set.now lent c.in_ok-stages.stages.items c.deref.ensures.value c.in_ok-stages.ensures in
    let first : IsFirstConflict (clusters_of lent) conflict.stage conflict.found.a conflict.found.b (key_bytes conflict.found.key.now) =
    subst (λ (o : Option SetConflict). IfSome o (λ k. IsFirstConflict (clusters_of lent) k.stage k.found.a k.found.b (key_bytes k.found.key.now))) c.in-Some.is c.in_ok-conflict.ensures.some in
    let fits : key_format.fits conflict.found.key.now =
    subst (λ (o : Option SetConflict). IfSome o (λ k. key_format.fits k.found.key.now)) c.in-Some.is c.in_ok-conflict.ensures.key in
    (subst (λ (ss : List Stage). IsFirstConflict ss conflict.stage conflict.found.a conflict.found.b (key_bytes conflict.found.key.now)) same first, refl, fits)

pub run_on-requires-clause-fits : goal.run_on-requires-clause-fits
run_on-requires-clause-fits g c κs within =
    subst (λ (ss : List SetStage). All IsSpelled ss) (sym c.deref-2.ensures.value) (listed_spelled c.args.set.now c.in_ok-stages.stages.items c.requires.fits c.in_ok-stages.ensures)

pub run_on-requires-clause-free : goal.run_on-requires-clause-free
run_on-requires-clause-free g c κs within =
    let free : AllByRecursion HasNoConflict (clusters_of c.deref.result.now) =
    subst (λ (o : Option SetConflict). IfNone o (AllByRecursion HasNoConflict (clusters_of c.deref.result.now))) c.in_default.is c.in_ok-conflict.ensures.none in
    subst (λ (ss : List SetStage). AllByRecursion HasNoConflict (clusters_of ss)) (c.deref.ensures.value ∙ sym c.deref-2.ensures.value) free

pub returns-clause-free : goal.returns-clause-free
returns-clause-free g c =
    let lent = c.deref.result.now in
    let same = clusters_lent c.args.set.now lent c.in_ok-stages.stages.items c.deref.ensures.value c.in_ok-stages.ensures in
    let free : AllByRecursion HasNoConflict (clusters_of lent) =
    subst (λ (o : Option SetConflict). IfNone o (AllByRecursion HasNoConflict (clusters_of lent))) c.in_default.is c.in_ok-conflict.ensures.none in
    subst (λ (ss : List Stage). AllByRecursion HasNoConflict ss) same free

pub returns-clause-applied : goal.returns-clause-applied
returns-clause-applied g c =
    let same = clusters_lent c.args.set.now c.deref-2.result.now c.in_ok-stages.stages.items c.deref-2.ensures.value c.in_ok-stages.ensures in
    subst (λ (ss : List Stage). IsApplied c.args.ledger c.args.verdicts.now ss c.args.close_time c.in_ok-applied.applied.0) same
    c.in_ok-applied.ensures.applied

pub returns-clause-log : goal.returns-clause-log
returns-clause-log g c =
    let same = clusters_lent c.args.set.now c.deref-2.result.now c.in_ok-stages.stages.items c.deref-2.ensures.value c.in_ok-stages.ensures in
    let made = c.in_ok-applied.applied in
    subst (λ (ss : List Stage). IsLogged c.args.logs c.args.ledger c.args.verdicts.now ss c.args.close_time made.0 made.1) same
    c.in_ok-applied.ensures.log
