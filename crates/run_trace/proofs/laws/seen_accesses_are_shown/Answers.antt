use Rattle.run_trace.proofs.Seeing.{seen_same}
use Rattle.run_trace.proofs.Showing.{shows_told, shows_seen}
use Rattle.run_trace.proofs.laws.seen_accesses_are_shown.Goals as goal

pub returns : goal.returns
returns c = record { told = shows_told; seen = seen_same; shown = shows_seen }
