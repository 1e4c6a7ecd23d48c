use Rattle.contract_storage.proofs.Doing.{seen_kept}
use Rattle.contract_storage.proofs.entries.Entries.sight.Goals as goal

pub returns-clause-kept : goal.returns-clause-kept
returns-clause-kept g c = seen_kept _ _ c.find.result _ c.sight_of.ensures c.find.ensures.kept
