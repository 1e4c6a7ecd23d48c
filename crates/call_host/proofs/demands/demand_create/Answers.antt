use Rattle.call_host.proofs.Meeting.{is_met, met_stays}
use Rattle.call_host.proofs.demands.demand_create.Goals as goal

pub returns-clause-met : goal.returns-clause-met
returns-clause-met g c =
    is_met c.args.path.now c.args.creator c.args.deployer c.args.function.now c.demand_in.result c.args.host.now c.demand_in.new.marks c.demand_in.new.storage
    c.demand_in.ensures.demanded c.demand_in.ensures.storage

pub returns-clause-stays : goal.returns-clause-stays
returns-clause-stays g c =
    met_stays c.args.path.now c.args.creator c.args.deployer c.args.function.now c.demand_in.result c.args.host.now c.demand_in.new.marks c.demand_in.new.storage
    c.demand_in.ensures.demanded c.demand_in.ensures.storage
