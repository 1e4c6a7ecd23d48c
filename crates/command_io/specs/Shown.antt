-- The lines of `show` for a file's bytes (own).
use Rattle.std.specs.Prelude.{ℕ, Bool, List, Result, Ok}
use Rattle.command_words.specs.declared.request.ShowKind.{ShowKind}
use Rattle.command_words.specs.declared.request.ShowKind.TheVariants as kinds
use Rattle.command_words.specs.declared.request.ShowRequest.{ShowRequest}
use Rattle.edge_io.specs.Contents.{FileMap}
use Rattle.show_lines.specs.SetLines.{envelope_line, set_lines}
use Rattle.show_lines.specs.LedgerLines.{ledger_lines, value_line}
use Rattle.command_io.specs.Inputs.{any_ledger_in, content_of, envelope_in, opened, set_in, value_in}
use Rattle.command_io.specs.Steps.{◌>>=◌}
use Rattle.command_io.specs.declared.status.Status.{Status}

abbrev pub shown : ShowKind → List ℕ → Result (List ℕ) Status
shown kinds.Set bytes = do
  set ← set_in bytes
  Ok (set_lines set)
shown kinds.Envelope bytes = do
  envelope ← envelope_in bytes
  Ok (envelope_line envelope)
shown kinds.Ledger bytes = do
  ledger ← any_ledger_in bytes
  Ok (ledger_lines ledger.0 ledger.1)
shown kinds.Value bytes = do
  value ← value_in bytes
  Ok (value_line value)

-- the same, of a file that may be base64 text
abbrev pub shown_opened : Bool → ShowKind → List ℕ → List ℕ → Result (List ℕ) Status
shown_opened base64 kind name text = do
  bytes ← opened base64 name text
  shown kind bytes

-- the lines of the requested file
abbrev pub shown_at : FileMap → ShowRequest → Result (List ℕ) Status
shown_at m request = do
  text ← content_of m request.file
  shown_opened request.base64 request.kind request.file text
