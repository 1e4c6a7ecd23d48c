use Rattle.std.proofs.Common.{sym}
use Rattle.ledger_spec.specs.LedgerMap.{key_bytes}
use Rattle.ledger_parts.specs.Sees.{none_at}
use Rattle.ledger_parts.proofs.entries.LedgerEntries.find_lent.Goals as goal

pub returns-clause-found : goal.returns-clause-found
returns-clause-found c = sym (none_at (key_bytes c.args._key.now))
