-- What a host function does, as the code names it (own).
use Rattle.std.specs.Prelude.{◌<◌, ◌^◌, ℕ, List, [], Option, Some, None, All, length}
use Rattle.std.specs.Borrow.{Bor}
use Rattle.std.specs.Option.{option_map}
use Rattle.value_types.specs.Datum.{Datum}
use Rattle.value_types.specs.Formats.{scval_format}
use Rattle.value_types.specs.Views.{datums}
use Rattle.value_types.specs.declared.value.ScVal.{ScVal}
use Rattle.call_spec.specs.WholeRuns.{Work, calling, uploading, creating}
use Rattle.tx_steps.specs.declared.job.Job.{Job}
use Rattle.tx_steps.specs.declared.job.Job.TheVariants as jobs

-- borrowed values
abbrev pub datums_in : Bor (List ScVal) → List Datum
datums_in values = datums values.now

abbrev pub work_in : Job → Work
work_in (jobs.Call contract function args) = calling contract function.now (datums args.now)
work_in (jobs.Upload code) = uploading code.now
work_in (jobs.Create deployer code salt args) =
    creating (record { deployer = deployer; code = code; salt = salt; args = option_map datums_in args })

-- the arguments of a constructor, if it is given any
abbrev pub values_lent : Option (Bor (List ScVal)) → List ScVal
values_lent None = []
values_lent (Some values) = values.now

-- the arguments of a call or of a constructor
abbrev pub values_in : Job → List ScVal
values_in (jobs.Call contract function args) = args.now
values_in (jobs.Upload code) = []
values_in (jobs.Create deployer code salt args) = values_lent args

-- the code of an upload
abbrev pub code_in : Job → List ℕ
code_in (jobs.Call contract function args) = []
code_in (jobs.Upload code) = code.now
code_in (jobs.Create deployer code salt args) = []

-- what a host function within its XDR format does
pub record IsSpelled (job : Job) : Type 0 where
  pub values : All scval_format.fits (values_in job)
  pub code : length (code_in job) < 2 ^ 32
