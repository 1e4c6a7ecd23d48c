-- How a command ended, if the content of its files is known (own).
use Rattle.std.specs.Prelude.{ℕ, List, Option, Result, IfOk}
use Rattle.edge_io.specs.Contents.{Contents, FileMap}
use Rattle.command_io.specs.Left.{Leaves}
use Rattle.command_io.specs.Lines.{Finishes}
use Rattle.command_io.specs.Steps.{Gives, status_of}
use Rattle.soroban_top.specs.Asked.{reads_named}
use Rattle.soroban_top.specs.LogPlays.{LogPlaysIf}
use Rattle.soroban_top.specs.Outcome.{outcome_if, says_of}
use Rattle.command_words.specs.declared.request.Request.{Request}
use Rattle.command_io.specs.declared.status.Status.{Status}

-- the files and the output's text
pub record Outside : Type 0 where
  pub contents : Contents
  pub text : Option (List ℕ)

abbrev pub outside : Contents → Option (List ℕ) → Outside
outside contents text = record { contents = contents; text = text }

-- The command came to lines or to a status: the one that is due, unless a call failed or memory ran out. It left the files as
-- `Leaves` says. Then the lines were printed, wholly or not, with this final status. If it came to lines, the change log that it
-- stored can be played there and back.
pub record Ends (asked : Option Request) (m : FileMap) (result : Status) (old new : Outside) : Type 0 where
  pub outcome : Result (List ℕ) Status
  pub is_due : Gives (λ lines. lines) outcome (says_of (outcome_if asked m))
  pub files : Leaves (status_of outcome) (reads_named asked) (outcome_if asked m) old.contents new.contents
  pub text : Finishes outcome result old.text new.text
  pub plays : IfOk outcome (λ lines. LogPlaysIf asked m)
