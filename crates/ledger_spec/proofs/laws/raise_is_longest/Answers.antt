use Rattle.ledger_spec.proofs.Puts.{raise_later, raise_others}
use Rattle.ledger_spec.proofs.laws.raise_is_longest.Goals as goal

pub returns-clause-later : goal.returns-clause-later
returns-clause-later c map key live_until = raise_later map key live_until

pub returns-clause-others : goal.returns-clause-others
returns-clause-others c map key live_until = raise_others map key live_until
