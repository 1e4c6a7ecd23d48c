use Rattle.std.proofs.Common.{length, refl}
use Rattle.std.proofs.lemmas.Option.{slice_get_read}
use Rattle.apply_spec.specs.Enforced.{enforced}
use Rattle.set_place.proofs.Reaching.{reached_stage}
use Rattle.set_place.proofs.stage.reach_in_stages.Goals as goal

pub returns-in_ok-_reports-in-Some-clause-met : goal.returns-in_ok-_reports-in-Some-clause-met
returns-in_ok-_reports-in-Some-clause-met c =
    let stages = c.args.stages.now in
    let stage = c.in-Some.stage.now in
    let at = slice_get_read stages (length stages) c.args.place.stage stage refl c.in-Some.ensures.lookup.3.0 c.in-Some.ensures.lookup.1 in
    reached_stage c.reach_in_stage.result _ (enforced c.args.header.now c.args.verdicts.now) c.args.ledger.now.entries
    c.run_stages.new.ledger.entries c.in_ok-_reports-in-Some._reports stages c.args.place stage at c.in_ok-_reports-in-Some.ensures.run
    c.reach_in_stage.ensures.met
