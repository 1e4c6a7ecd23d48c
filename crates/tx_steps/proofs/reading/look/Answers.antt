use Rattle.contract_storage.proofs.Lemmas.{kept_below}
use Rattle.tx_steps.proofs.reading.look.Goals as goal

pub returns-clause-kept : goal.returns-clause-kept
returns-clause-kept g c = kept_below _ c.args.key.now c.find.result c.find.ensures.map c.find.ensures.found
