use Rattle.ledger_spec.specs.LedgerMap.{key_bytes}
use Rattle.ledger_spec.proofs.Found.{back}
use Rattle.ledger_spec.proofs.laws.taken_goes_back.Goals as goal

pub returns : goal.returns
returns c map key kept e = back map (key_bytes key) kept e
