use Rattle.auth_parts.proofs.Steps.{signer_asked, signer_stops}
use Rattle.auth_parts.proofs.asking.ask_signer.Goals as goal

pub returns-in-Ok-clause-does : goal.returns-in-Ok-clause-does
returns-in-Ok-clause-does g c env same verdicts serves w i j =
    signer_asked env c.args.signer.now c.args.entry.now.root_invocation tt c.ask_payload.result c.args.storage.now c.use_nonce.new.storage c.args.budget.now c.use_nonce.new.budget c.ask_payload.new.budget serves c.use_nonce.ensures.later
    c.in-Ok.ensures.does (c.ask_payload.ensures.does env same verdicts) w i j

pub returns-in-Err-clause-does : goal.returns-in-Err-clause-does
returns-in-Err-clause-does g c env same verdicts serves w i j =
    signer_stops env c.args.signer.now c.args.entry.now.root_invocation c.in-Err.error c.args.storage.now c.use_nonce.new.storage c.args.budget.now c.use_nonce.new.budget serves c.in-Err.ensures.does w i j
