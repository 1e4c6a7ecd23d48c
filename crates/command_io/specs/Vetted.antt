-- The line of `vet` for a module's bytes (own).
use Rattle.std.specs.Prelude.{ℕ, List, Result, Ok, Err}
use Rattle.edge_io.specs.Contents.{FileMap}
use Rattle.module_vet.specs.Line.{valid_line}
use Rattle.module_vet.specs.Verdict.{verdict_of}
use Rattle.module_spec.specs.declared.flaw.Flaw.{Flaw}
use Rattle.module_spec.specs.declared.flaw.Flaw.TheVariants as flaw
use Rattle.module_vet.specs.declared.Sizes.{Sizes}
use Rattle.command_io.specs.Inputs.{content_of}
use Rattle.command_io.specs.Steps.{◌>>=◌}
use Rattle.command_io.specs.declared.status.Status.{Status}
use Rattle.command_io.specs.declared.status.Status.TheVariants.{NotAModule, Ill, Unlinked}

-- the status of a flaw
abbrev pub flaw_status : Flaw → Status
flaw_status flaw.NotAModule = NotAModule
flaw_status (flaw.Ill func) = Ill func
flaw_status (flaw.Unlinked k) = Unlinked k

-- the line of a module without a flaw, or the status of its flaw
abbrev pub as_vetted : Result Sizes Flaw → Result (List ℕ) Status
as_vetted (Ok sizes) = Ok (valid_line sizes)
as_vetted (Err found) = Err (flaw_status found)

unfoldable pub vetted : List ℕ → Result (List ℕ) Status
vetted bytes = as_vetted (verdict_of bytes)

-- the line of the file of this name
abbrev pub vetted_at : FileMap → List ℕ → Result (List ℕ) Status
vetted_at m name = do
  bytes ← content_of m name
  vetted bytes
