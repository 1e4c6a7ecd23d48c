use Rattle.change_log.proofs.Back.{list_back, log_back}
use Rattle.change_log.proofs.laws.logs_play_back.Goals as goal

pub returns-clause-lists : goal.returns-clause-lists
returns-clause-lists c = list_back

pub returns-clause-logs : goal.returns-clause-logs
returns-clause-logs c = log_back
