use Rattle.contract_storage.proofs.Tabling.{kept_below}
use Rattle.contract_storage.proofs.table.find_below.Goals as goal

pub returns-clause-kept : goal.returns-clause-kept
returns-clause-kept g c = kept_below _ c.args.key.now c.find.result c.find.ensures.map c.find.ensures.found
