use Rattle.host_ledger.proofs.Rows.{row}
use Rattle.host_ledger.proofs.data.put_contract_data.Goals as goal

pub returns-clause-does : goal.returns-clause-does
returns-clause-does g c =
    row _ _ _ _ _ c.args.host.now c.put_data.new.storage c.put_data.new.budget c.put_data.new.copy c.new-values.ensures c.put_data.ensures.does c.put_data.ensures.made c.put_data.ensures.later
    (λ h. c.put_data.ensures.held)
