use Rattle.host_ledger.specs.Worlds.{copied}
use Rattle.host_ledger.proofs.Lemmas.{row}
use Rattle.contract_call.proofs.rows.upload_in.Goals as goal

pub returns-clause-does : goal.returns-clause-does
returns-clause-does g c =
    let frame = c.args.ledger.now.frame in
    row _ _ _ _ _ c.args.ledger.now c.upload_body.new.storage c.upload_body.new.budget frame.copy c.new-values.ensures (c.upload_body.ensures.does frame.contract (copied frame.copy)) c.upload_body.ensures.made c.upload_body.ensures.later (λ h. h)
