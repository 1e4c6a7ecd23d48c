use Rattle.host_acts.proofs.Lemmas.{later_read}
use Rattle.host_ledger.proofs.Rows.{row}
use Rattle.host_ledger.proofs.data.has_contract_data.Goals as goal

pub returns-clause-does : goal.returns-clause-does
returns-clause-does g c = row _ _ _ _ _ c.args.host.now _ _ _ c.new-values.ensures c.has_data.ensures.does c.has_data.ensures.made (later_read c.args.host.now.storage c.has_data.new.storage c.has_data.ensures.read) (λ h. h)
