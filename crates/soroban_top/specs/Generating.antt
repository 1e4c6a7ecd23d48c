-- The files and the line of `gen` (own).
use Rattle.std.specs.Prelude.{ℕ, List, [], ◌∷◌, ◌++◌, codes, decimal}
use Rattle.command_words.specs.declared.request.GenRequest.{GenRequest}
use Rattle.set_generator.specs.GeneratedFiles.{generated_files}
use Rattle.set_generator.specs.declared.files.Generated.{Generated}
use Rattle.command_io.specs.Product.{File, Job, Made, file}

-- the line about a set with this many transactions and stages
abbrev pub made_line : ℕ → ℕ → List ℕ
made_line transactions stages =
    codes "made " ++ decimal transactions ++ codes " transactions in " ++ decimal stages ++ codes " stages\n"

abbrev pub job : File → List ℕ → Job
job file bytes = record { file = file; bytes = bytes }

-- The set is stored, then the ledger, then the verdicts. Then the line is printed.
abbrev pub made_files : GenRequest → Generated → Made
made_files g made = record {
  stores = job (file 0 g.set) made.set ∷ job (file 1 g.ledger) made.ledger ∷ job (file 2 g.verdicts) made.verdicts ∷ [];
  lines = made_line g.count made.stages;
}

-- the files that are drawn from the seed
unfoldable pub generated : GenRequest → Made
generated g = made_files g (generated_files g.count g.seed)
