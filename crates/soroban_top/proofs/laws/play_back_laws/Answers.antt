use Rattle.soroban_top.proofs.Replays.{play_back, play_there}
use Rattle.soroban_top.proofs.laws.play_back_laws.Goals as goal

pub returns-clause-there : goal.returns-clause-there
returns-clause-there c = play_there

pub returns-clause-back : goal.returns-clause-back
returns-clause-back c = play_back
