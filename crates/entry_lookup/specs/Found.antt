-- A borrowed entry as an entry of a ledger's map (own).
use Rattle.ledger_spec.specs.declared.Kept.{Kept}
use Rattle.entry_lookup.specs.declared.ground.Found.{Found}

abbrev pub kept_of : Found → Kept
kept_of f = record { entry = f.entry.now; live_until = f.live_until }
