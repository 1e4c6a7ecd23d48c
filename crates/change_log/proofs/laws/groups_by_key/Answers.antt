use Rattle.change_log.proofs.Keys.{at_keys, by_key}
use Rattle.change_log.proofs.laws.groups_by_key.Goals as goal

pub returns-clause-keys : goal.returns-clause-keys
returns-clause-keys c = at_keys

pub returns-clause-each : goal.returns-clause-each
returns-clause-each c = by_key
