use Rattle.host_acts.proofs.Lemmas.{later_read}
use Rattle.host_ledger.proofs.Rows.{row}
use Rattle.host_ledger.proofs.data.get_contract_data.Goals as goal

pub returns-clause-does : goal.returns-clause-does
returns-clause-does g c = row _ _ _ _ _ c.args.host.now _ _ _ c.new-values.ensures c.get_data.ensures.does c.get_data.ensures.made (later_read c.args.host.now.storage c.get_data.new.storage c.get_data.ensures.read) (λ h. h)
