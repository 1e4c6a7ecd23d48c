use Rattle.contract_storage.proofs.entries.Entries.ended.Goals as goal

pub forget-requires-clause-noted : goal.forget-requires-clause-noted
forget-requires-clause-noted g c = (c.args.access, c.requires.noted.0, c.requires.noted.1, c.requires.noted.2)
