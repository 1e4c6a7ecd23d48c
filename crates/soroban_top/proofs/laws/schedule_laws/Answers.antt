use Rattle.soroban_top.proofs.Due.{incomplete_law, schedule_law}
use Rattle.soroban_top.proofs.Ledgers.{stopped_law, whole_law}
use Rattle.soroban_top.proofs.BySchedule.{all_steps_law}
use Rattle.soroban_top.proofs.laws.schedule_laws.Goals as goal

pub returns-clause-schedule : goal.returns-clause-schedule
returns-clause-schedule c = schedule_law

pub returns-clause-incomplete : goal.returns-clause-incomplete
returns-clause-incomplete c = incomplete_law

pub returns-clause-stopped : goal.returns-clause-stopped
returns-clause-stopped c = stopped_law

pub returns-clause-whole : goal.returns-clause-whole
returns-clause-whole c = whole_law

pub returns-clause-all_steps : goal.returns-clause-all_steps
returns-clause-all_steps c = all_steps_law
