-- The arguments of a host function are those of its work.
use Rattle.std.proofs.Common.{◌≡◌, List, All, Result, Err, Some, None, refl, sym, ap, subst, ◌∙◌}
use Rattle.std.proofs.lemmas.List.Elements.{All-weaker}
use Rattle.budget_meter.specs.Meter.{Meter}
use Rattle.value_types.specs.Datum.{Datum}
use Rattle.value_types.specs.Formats.{scval_format}
use Rattle.value_types.specs.Views.{datums}
use Rattle.value_types.specs.declared.value.ScVal.{ScVal}
use Rattle.host_spec.specs.declared.error.ValueErr.{ValueErr}
use Rattle.host_frame.proofs.Lemmas.{spelled_bounded}
use Rattle.call_spec.specs.Entering.{entering}
use Rattle.call_spec.specs.WholeRuns.{arguments_in}
use Rattle.contract_call.specs.Entering.{IsEncodable, Passes, Enters}
use Rattle.tx_steps.specs.Jobs.{work_in, values_in}
use Rattle.tx_steps.specs.declared.job.Job.{Job}
use Rattle.tx_steps.specs.declared.job.Job.TheVariants as jobs

same_arguments : (job : Job) → arguments_in (work_in job) ≡ datums (values_in job)
same_arguments (jobs.Call contract function args) = refl
same_arguments (jobs.Upload code) = refl
same_arguments (jobs.Create deployer code salt None) = refl
same_arguments (jobs.Create deployer code salt (Some args)) = refl

module _ (job : Job) (vs : List ScVal) (before later : Meter) (are : vs ≡ values_in job) where
  these : datums vs ≡ arguments_in (work_in job)
  these = ap datums are ∙ sym (same_arguments job)

  pub passed_arguments : Passes {A = Datum} (entering (datums vs)) before later → Passes {A = Datum} (entering (arguments_in (work_in job))) before later
  passed_arguments h = subst (λ (ds : List Datum). Passes {A = Datum} (entering ds) before later) these h

  pub stopped_arguments : (e : ValueErr) → (let r : Result (Unit {0}) ValueErr = Err e in Enters {A = Datum} r (entering (datums vs)) before later)
      → let r : Result (Unit {0}) ValueErr = Err e in Enters {A = Datum} r (entering (arguments_in (work_in job))) before later
  stopped_arguments e h = subst (λ (ds : List Datum). let r : Result (Unit {0}) ValueErr = Err e in Enters {A = Datum} r (entering ds) before later) these h

  pub encodable_arguments : All scval_format.fits (values_in job) → All IsEncodable vs
  encodable_arguments spelled =
      All-weaker scval_format.fits IsEncodable spelled_bounded vs (subst (λ (xs : List ScVal). All scval_format.fits xs) (sym are) spelled)
