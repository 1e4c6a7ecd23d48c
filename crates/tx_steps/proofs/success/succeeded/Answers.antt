use Rattle.std.specs.List.{AllByRecursion}
use Rattle.std.proofs.Common.{◌≡◌, [], ◌∷◌, List, All, Some, sym, ap, subst, ◌∙◌}
use Rattle.std.proofs.lemmas.List.Elements.{recursion_from_All}
use Rattle.sha2.specs.Sha256.{sha256}
use Rattle.value_types.specs.Hash.{hash_of}
use Rattle.value_types.specs.declared.hash.Hash.{Hash}
use Rattle.ledger_types.specs.Key.{key_format}
use Rattle.ledger_types.specs.declared.key.LedgerKey.{LedgerKey}
use Rattle.invoke_types.specs.Success.{success_format}
use Rattle.tx_results.specs.declared.operation.InvokeResult.TheVariants as invokes
use Rattle.tx_results.specs.declared.operation.InnerResult.TheVariants.{Invoke}
use Rattle.tx_results.specs.declared.operation.OperationResult.{OperationResult}
use Rattle.tx_results.specs.declared.operation.OperationResult.TheVariants.{Inner}
use Rattle.tx_results.specs.declared.results.TransactionOutcome.TheVariants.{Success}
use Rattle.stage_runs.specs.Whole.{changes_of, extensions_of}
use Rattle.stage_runs.specs.declared.Change.{Change}
use Rattle.stage_runs.specs.declared.Extension.{Extension}
use Rattle.tx_steps.specs.Changed.{longer_in, Leads}
use Rattle.tx_steps.specs.Effects.{CanChange}
use Rattle.tx_steps.specs.Outcomes.{Ended}
use Rattle.tx_steps.proofs.ByKey.{longer_is, longer_spelled}
use Rattle.tx_steps.proofs.Effects.{call_done_can}
use Rattle.tx_steps.proofs.success.succeeded.Goals as goal

abbrev only : Hash → List OperationResult
only hash = Inner (Invoke (invokes.Success hash)) ∷ []

pub returns-clause-done : goal.returns-clause-done
returns-clause-done g c new are =
    let old = g.G.Ground.map c.args.ground.now in
    let footprint = c.args.footprint.now in
    let es = c.in_ok-changed.changed.entries in
    let leads : Leads old new es = c.in_ok-changed.ensures.leads old new are in
    let results : c.in_ok-results.results ≡ only (hash_of (sha256 (success_format.spell c.args.success))) = c.in_ok-results.ensures ∙ ap only c.in_ok-hash.ensures.value in
    let changes : c.from_vec.result ≡ changes_of new footprint.read_write =
    c.from_vec.ensures ∙ c.in_ok-changes.ensures.changes new leads ∙ ap (λ (keys : List LedgerKey). changes_of new keys) c.as_slice.ensures in
    let extensions : c.from_vec-2.result ≡ extensions_of old new footprint.read_only =
    c.from_vec-2.ensures ∙ c.in_ok-extensions.ensures ∙ ap (λ (keys : List LedgerKey). longer_in old es keys) c.as_slice-2.ensures
    ∙ longer_is old es new footprint.read_only (recursion_from_All key_format.fits footprint.read_only c.requires.read_only) leads in
    λ i. let e : Ended = record { outcome = Success (results i); success = Some c.args.success; changes = changes i; extensions = extensions i; used = c.args.used } in e

pub returns-clause-can : goal.returns-clause-can
returns-clause-can g c =
    let old = g.G.Ground.map c.args.ground.now in
    let es = c.in_ok-changed.changed.entries in
    let footprint = c.args.footprint.now in
    let found : c.from_vec-2.result ≡ longer_in old es footprint.read_only =
    c.from_vec-2.ensures ∙ c.in_ok-extensions.ensures ∙ ap (λ (keys : List LedgerKey). longer_in old es keys) c.as_slice-2.ensures in
    call_done_can c.in_ok-results.results c.in_ok-hash.hash c.args.success c.from_vec.result c.from_vec-2.result c.args.used c.in_ok-results.ensures c.in_ok-hash.ensures.fits c.requires.success
    (subst (λ (cs : List Change). All CanChange cs) (sym c.from_vec.ensures) c.in_ok-changes.ensures.can)
    (subst (λ (xs : List Extension). AllByRecursion (λ e. key_format.fits e.key) xs) (sym found)
    (longer_spelled old es footprint.read_only (recursion_from_All key_format.fits footprint.read_only c.requires.read_only)))
