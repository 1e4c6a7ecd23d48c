-- The state of a key, as the code names it (own).
use Rattle.ledger_spec.specs.Seen.{Seen, live, absent, archived}
use Rattle.ledger_spec.specs.declared.state.KeyState.{KeyState}
use Rattle.ledger_spec.specs.declared.state.KeyState.TheVariants.{Live, Absent, Archived}

abbrev pub state_of : Seen → KeyState
state_of (live kept) = Live
state_of absent = Absent
state_of archived = Archived
