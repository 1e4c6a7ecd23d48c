-- The code's values as plain data (own).
use Rattle.std.specs.Prelude.{List, map}
use Rattle.command_io.specs.Product.{File, Job, Made}
use Rattle.command_io.specs.declared.product.FileArg.{FileArg}
use Rattle.command_io.specs.declared.product.OutputFile.{OutputFile}
use Rattle.command_io.specs.declared.product.Product.{Product}

abbrev pub file_of : FileArg → File
file_of f = record { option = f.option; name = f.name.now }

abbrev pub job_of : OutputFile → Job
job_of s = record { file = file_of s.file; bytes = s.bytes.items }

abbrev pub jobs_of : List OutputFile → List Job
jobs_of = map job_of

-- the files that are stored
abbrev pub targets_of : List OutputFile → List File
targets_of = map (λ (s : OutputFile). file_of s.file)

abbrev pub made_of : Product → Made
made_of p = record { stores = jobs_of p.stores.items; lines = p.lines.items }
