use Rattle.host_ledger.proofs.Rows.{row}
use Rattle.host_ledger.proofs.data.del_contract_data.Goals as goal

pub returns-clause-does : goal.returns-clause-does
returns-clause-does g c =
    row _ _ _ _ _ c.args.host.now c.del_data.new.storage c.del_data.new.budget c.del_data.new.copy c.new-values.ensures c.del_data.ensures.does c.del_data.ensures.made c.del_data.ensures.later
    (λ h. c.del_data.ensures.held)
