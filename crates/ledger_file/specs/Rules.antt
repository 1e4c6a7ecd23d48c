-- The first fault of a ledger's header (own).
use Rattle.std.specs.Prelude.{Bool, ◌&&◌, not, Option, Some, None, if◌then◌else◌}
use Rattle.ledger_types.specs.declared.header.Header.{Header}
use Rattle.ledger_spec.specs.LedgerFile.{can_run, has_next, refusal}
use Rattle.ledger_spec.specs.declared.LedgerWhy.TheVariants as why
use Rattle.ledger_spec.specs.declared.LedgerRefusal.{LedgerRefusal}

abbrev pub header_refusal : Bool → Header → Option LedgerRefusal
header_refusal follows header =
    if not (can_run header) then Some (refusal why.Settings 0)
    else if follows && not (has_next header) then Some (refusal why.SeqEnd 0)
    else None
