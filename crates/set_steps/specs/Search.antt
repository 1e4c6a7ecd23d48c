-- The search of a set's stages for conflicts (own).
use Rattle.std.specs.Prelude.{◌≡◌, IfOk, IfSome, IfNone}
use Rattle.ledger_spec.specs.LedgerMap.{key_bytes}
use Rattle.ledger_types.specs.Key.{key_format}
use Rattle.stage_runs.specs.Runs.{clusters_in, HasNoConflict}
use Rattle.stage_runs.specs.Conflicts.{IsLeastConflict}
use Rattle.set_steps.specs.Stages.{stage_of}
use Rattle.set_steps.specs.declared.search.StageSearch.{StageSearch}

-- What was found in the stage is its least conflict, or that it has none, unless memory ran out.
pub record IsAnswered (search : StageSearch) : Type 0 where
  pub some : IfOk search.found
      (λ o. IfSome o (λ f. IsLeastConflict (clusters_in (stage_of search.stage)) f.a f.b (key_bytes f.key.now)))
  pub none : IfOk search.found (λ o. IfNone o (HasNoConflict (clusters_in (stage_of search.stage))))
  pub key : IfOk search.found (λ o. IfSome o (λ f. key_format.fits f.key.now))

-- The stage was searched.
pub record IsSearched (before after : StageSearch) : Type 0 where
  pub same : after.stage ≡ before.stage
  pub answered : IsAnswered after
