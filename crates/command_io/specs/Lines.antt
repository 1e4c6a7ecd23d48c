-- The lines of each status, and how much of them was printed (own).
use Rattle.std.specs.Prelude.{◌≡◌, ◌⊎◌, ℕ, List, [], ◌++◌, take, Option, Some, None, Result, Ok, Err, codes, decimal, ⊤}
use Rattle.edge_io.specs.Counts.{Rose}
use Rattle.hex.specs.Hex.{encode_lower}
use Rattle.edge_io.specs.Text.{extended}
use Rattle.edge_io.specs.declared.failed.EdgeErr.{EdgeErr}
use Rattle.edge_io.specs.declared.failed.EdgeErr.TheVariants as edge
use Rattle.change_log.specs.declared.error.ListIndex.{ListIndex}
use Rattle.command_io.specs.Steps.{status_of}
use Rattle.ledger_spec.specs.declared.LedgerWhy.{LedgerWhy}
use Rattle.ledger_spec.specs.declared.LedgerWhy.TheVariants as why
use Rattle.command_io.specs.declared.status.Status.{Status}
use Rattle.command_io.specs.declared.status.Status.TheVariants.{Done, Usage, Fault, TooLong, Ledger, Verdicts, Malformed}
use Rattle.command_io.specs.declared.status.Status.TheVariants.{NotBase64, Conflict, Schedule, Incomplete, NotAModule, Ill}
use Rattle.command_io.specs.declared.status.Status.TheVariants.{Unfit, Unlinked, NoMemory}
use Rattle.xdr_spec.specs.declared.Why.{Why}
use Rattle.xdr_spec.specs.declared.Why.TheVariants.{End, Padding, Boolean, Tag, Limit, Depth, Trailing}

-- the name of a reason
abbrev pub name_of : Why → List ℕ
name_of End = codes ": end\n"
name_of Padding = codes ": padding\n"
name_of Boolean = codes ": bool\n"
name_of Tag = codes ": tag\n"
name_of Limit = codes ": limit\n"
name_of Depth = codes ": depth\n"
name_of Trailing = codes ": trailing\n"

-- the number of the reason why a ledger is refused
abbrev pub number_of : LedgerWhy → List ℕ
number_of why.Xdr = codes "ledger refused: 1 at "
number_of why.Order = codes "ledger refused: 2 at "
number_of why.TtlHash = codes "ledger refused: 3 at "
number_of why.CodeHash = codes "ledger refused: 4 at "
number_of why.Settings = codes "ledger refused: 5 at "
number_of why.SeqEnd = codes "ledger refused: 6 at "

-- the line of an ill-typed module, with its ill-typed function
abbrev pub ill_line : Option ℕ → List ℕ
ill_line None = codes "ill typed: module\n"
ill_line (Some func) = codes "ill typed: function " ++ decimal func ++ codes "\n"

-- the line of a conflict: its stage, its clusters, and the XDR bytes of the key in hex
abbrev pub conflict_line : ℕ → ℕ → ℕ → List ℕ → List ℕ
conflict_line stage a b key =
    codes "conflict: stage " ++ decimal stage ++ codes ", clusters " ++ decimal a ++ codes " and " ++ decimal b ++ codes ", key "
    ++ encode_lower key ++ codes "\n"

-- the line of a list of changes that does not fit the ledger
abbrev pub list_line : ListIndex → List ℕ
list_line at = codes "log does not fit: stage " ++ decimal at.stage ++ codes ", place " ++ decimal at.list ++ codes "\n"

-- the line of a log that does not fit
abbrev pub unfit_line : Option ListIndex → List ℕ
unfit_line None = codes "log does not fit: header\n"
unfit_line (Some at) = list_line at

-- the line of a status, if the command has no lines of its own
abbrev pub line_of : Status → List ℕ
line_of Done = []
line_of Usage = codes "usage\n"
line_of (Fault name) = codes "fault on " ++ name ++ codes "\n"
line_of (TooLong name) = codes "too long: " ++ name ++ codes "\n"
line_of (Ledger why at) = number_of why ++ decimal at ++ codes "\n"
line_of (Verdicts at) = codes "verdicts refused at " ++ decimal at ++ codes "\n"
line_of (Malformed at why) = codes "refused at " ++ decimal at ++ name_of why
line_of (NotBase64 name) = codes "not base64: " ++ name ++ codes "\n"
line_of (Conflict stage a b key) = conflict_line stage a b key
line_of (Schedule at) = codes "schedule refused at " ++ decimal at ++ codes "\n"
line_of (Incomplete stage) = codes "schedule not complete: stage " ++ decimal stage ++ codes "\n"
line_of (Unfit at) = unfit_line at
line_of NotAModule = codes "not a module\n"
line_of (Ill func) = ill_line func
line_of (Unlinked k) = codes "unlinked: import " ++ decimal k ++ codes "\n"
line_of NoMemory = codes "no memory\n"

-- the exit code of the program
abbrev pub code_of : Status → ℕ
code_of Done = 0
code_of Usage = 2
code_of (Fault name) = 4
code_of (TooLong name) = 6
code_of (Ledger why at) = 3
code_of (Verdicts at) = 3
code_of (Malformed at why) = 1
code_of (NotBase64 name) = 1
code_of (Conflict stage a b key) = 1
code_of (Schedule at) = 3
code_of (Incomplete stage) = 7
code_of (Unfit at) = 8
code_of NotAModule = 1
code_of (Ill func) = 1
code_of (Unlinked k) = 1
code_of NoMemory = 5

-- the lines that are due: the command's own lines, or the line of its status
abbrev pub lines_of : Result (List ℕ) Status → List ℕ
lines_of (Ok lines) = lines
lines_of (Err status) = line_of status

-- a prefix of the lines was printed
abbrev pub SaysPrefix : List ℕ → Option (List ℕ) → Option (List ℕ) → Type 0
SaysPrefix lines old new = (n : ℕ) × (new ≡ extended old (take n lines))

-- all lines were printed, or a prefix if a call failed or ran out of memory
abbrev pub SaysLines : Result ⊤ EdgeErr → List ℕ → Option (List ℕ) → Option (List ℕ) → Type 0
SaysLines (Ok x) lines old new = new ≡ extended old lines
SaysLines (Err e) lines old new = SaysPrefix lines old new

-- the final status of a command, by how the printing of its lines went
abbrev pub IsStatusAfter : Result ⊤ EdgeErr → Status → Status → Type 0
IsStatusAfter (Ok x) status result = result ≡ status
IsStatusAfter (Err edge.Failed) status result = result ≡ Fault []
IsStatusAfter (Err edge.NoMemory) status result = result ≡ NoMemory

-- If all lines are printed, the final status is the command's own. Otherwise it is Fault with the empty name, or NoMemory.
abbrev pub Finishes : Result (List ℕ) Status → Status → Option (List ℕ) → Option (List ℕ) → Type 0
Finishes outcome result old new =
    ((result ≡ status_of outcome) × (new ≡ extended old (lines_of outcome))) ⊎
    (((result ≡ Fault []) ⊎ (result ≡ NoMemory)) × SaysPrefix (lines_of outcome) old new)

-- the final status is the command's own, or printing is its cause
abbrev pub HasSayCause : Result (List ℕ) Status → ℕ → ℕ → Status → Type 0
HasSayCause outcome old new result = (result ≡ status_of outcome) ⊎ ((result ≡ Fault []) × Rose old new) ⊎ (result ≡ NoMemory)
