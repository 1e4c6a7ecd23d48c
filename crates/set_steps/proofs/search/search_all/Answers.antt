use denote.Param.Send.{sendable}
use Rattle.set_steps.specs.Stages.{IsSpelled}
use Rattle.set_steps.proofs.Crosses.{search_send}
use Rattle.set_steps.proofs.Jobs.{can_all}
use Rattle.set_steps.proofs.search.search_all.Goals as goal

pub run_each-requires-send-J : goal.run_each-requires-send-J
run_each-requires-send-J g c κs within = search (search_send, sendable) depth 20 fits 5000

pub run_each-requires-clause-can : goal.run_each-requires-clause-can
run_each-requires-clause-can g c κs within = can_all (λ s. IsSpelled s.stage) 0 c.args.searches.now c.requires
