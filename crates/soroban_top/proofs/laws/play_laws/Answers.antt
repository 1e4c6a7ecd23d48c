use Rattle.soroban_top.proofs.Replays.{play_done, play_malformed, play_stores, play_unfit}
use Rattle.soroban_top.proofs.laws.play_laws.Goals as goal

pub returns-clause-malformed : goal.returns-clause-malformed
returns-clause-malformed c = play_malformed

pub returns-clause-unfit : goal.returns-clause-unfit
returns-clause-unfit c = play_unfit

pub returns-clause-done : goal.returns-clause-done
returns-clause-done c = play_done

pub returns-clause-stored : goal.returns-clause-stored
returns-clause-stored c = play_stores
