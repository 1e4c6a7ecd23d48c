use Rattle.change_log.proofs.Regrouping.{groups_in_written}
use Rattle.change_log.proofs.Sound.{groups_text}
use Rattle.change_log.proofs.laws.groups_are_read.Goals as goal

pub returns-clause-read : goal.returns-clause-read
returns-clause-read c = groups_text

pub returns-clause-written : goal.returns-clause-written
returns-clause-written c = groups_in_written
