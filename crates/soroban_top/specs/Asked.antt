-- The files that a command reads and stores, by the numbers of its options (own).
use Rattle.std.specs.Prelude.{ℕ, List, [], ◌∷◌, ◌++◌, Option, Some, None}
use Rattle.command_io.specs.Product.{File, file}
use Rattle.command_words.specs.declared.request.Request.{Request}
use Rattle.command_words.specs.declared.request.ScheduleOptions.{ScheduleOptions}
use Rattle.command_words.specs.declared.request.Request.TheVariants.{Apply, ApplyList, Build, Gen, Migrate, Play, Record, Show}
use Rattle.command_words.specs.declared.request.Request.TheVariants.{Simulate, Vet}

-- the file of a schedule, if one is given
abbrev pub schedule_files : Option ScheduleOptions → List File
schedule_files None = []
schedule_files (Some options) = file 5 options.file ∷ []

-- the files that it reads, in order
abbrev pub reads_of : Request → List File
reads_of (Apply a) = file 1 a.ledger ∷ file 2 a.verdicts ∷ file 0 a.set ∷ schedule_files a.schedule
reads_of (Simulate s) = file 1 s.ledger ∷ file 2 s.verdicts ∷ file 0 s.tx ∷ []
reads_of (Show s) = file 0 s.file ∷ []
reads_of (Vet v) = file 0 v.module_file ∷ []
reads_of (Migrate g) = file 0 g.ledger ∷ []
reads_of (Gen g) = []
reads_of (Build b) = file 0 b.list ∷ []
reads_of (Play p) = file 1 p.ledger ∷ file 0 p.log ∷ []
reads_of (ApplyList a) = file 1 a.ledger ∷ file 2 a.verdicts ∷ file 0 a.list ∷ []
reads_of (Record r) = file 1 r.ledger ∷ file 0 r.tx ∷ []

-- A run in the order of a schedule keeps no change log. The words of a command do not ask for both.
abbrev pub log_asked : {A : Type 0} → Option A → Option (List ℕ) → Option (List ℕ)
log_asked None log = log
log_asked (Some schedule) log = None

-- the file of a change log, if one is asked for
abbrev pub log_files : Option (List ℕ) → List File
log_files None = []
log_files (Some name) = file 6 name ∷ []

-- the files that it stores, in order
abbrev pub writes_of : Request → List File
writes_of (Apply a) = file 3 a.report ∷ file 4 a.ledger_out ∷ log_files (log_asked a.schedule a.log)
writes_of (Simulate s) = file 3 s.out ∷ []
writes_of (Show s) = []
writes_of (Vet v) = []
writes_of (Migrate g) = file 1 g.ledger_out ∷ []
writes_of (Gen g) = file 0 g.set ∷ file 1 g.ledger ∷ file 2 g.verdicts ∷ []
writes_of (Build b) = file 1 b.set ∷ []
writes_of (Play p) = file 2 p.ledger_out ∷ []
writes_of (ApplyList a) = file 3 a.report ∷ file 4 a.ledger_out ∷ []
writes_of (Record r) = file 2 r.out ∷ []

-- the files that the words name and the command reads
abbrev pub reads_named : Option Request → List File
reads_named None = []
reads_named (Some asked) = reads_of asked

-- all the files that the words name
abbrev pub files_named : Option Request → List File
files_named None = []
files_named (Some asked) = reads_of asked ++ writes_of asked
