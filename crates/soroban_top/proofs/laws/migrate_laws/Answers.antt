use Rattle.soroban_top.proofs.Ledgers.{migrate_done, migrate_refused, migrate_stores}
use Rattle.soroban_top.proofs.laws.migrate_laws.Goals as goal

pub returns-clause-refused : goal.returns-clause-refused
returns-clause-refused c = migrate_refused

pub returns-clause-done : goal.returns-clause-done
returns-clause-done c = migrate_done

pub returns-clause-stored : goal.returns-clause-stored
returns-clause-stored c = migrate_stores
