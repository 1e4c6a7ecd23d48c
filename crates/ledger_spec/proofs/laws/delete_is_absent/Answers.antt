use Rattle.ledger_spec.specs.Seen.{seen}
use Rattle.ledger_spec.proofs.Puts.{delete_live, delete_absent, delete_refused, delete_others}
use Rattle.ledger_spec.proofs.laws.delete_is_absent.Goals as goal

pub returns-clause-taken : goal.returns-clause-taken
returns-clause-taken c n map key kept e = delete_live n map key kept e

pub returns-clause-stays : goal.returns-clause-stays
returns-clause-stays c n map key e = delete_absent n map key e

pub returns-clause-refused : goal.returns-clause-refused
returns-clause-refused c n map key = delete_refused map key (seen n map key)

pub returns-clause-others : goal.returns-clause-others
returns-clause-others c n map after key e = delete_others map after key (seen n map key) e
