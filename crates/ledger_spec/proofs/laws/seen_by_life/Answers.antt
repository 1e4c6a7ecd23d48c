use Rattle.ledger_spec.specs.LedgerMap.{find}
use Rattle.ledger_spec.proofs.Life.{live_by_life, archived_by_life}
use Rattle.ledger_spec.proofs.laws.seen_by_life.Goals as goal

pub returns-clause-lives : goal.returns-clause-lives
returns-clause-lives c n map key kept = live_by_life n (find map key) kept

pub returns-clause-is_archived : goal.returns-clause-is_archived
returns-clause-is_archived c n map key = archived_by_life n (find map key)
