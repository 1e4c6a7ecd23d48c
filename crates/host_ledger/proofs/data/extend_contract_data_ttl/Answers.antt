use Rattle.host_ledger.specs.Worlds.{copied}
use Rattle.host_ledger.proofs.Rows.{row}
use Rattle.host_ledger.proofs.data.extend_contract_data_ttl.Goals as goal

pub returns-clause-does : goal.returns-clause-does
returns-clause-does g c =
    row _ _ _ _ _ c.args.host.now _ _ c.args.host.now.frame.copy c.new-values.ensures (c.extend_data.ensures.does (copied c.args.host.now.frame.copy)) c.extend_data.ensures.made c.extend_data.ensures.later (λ h. h)
