use Rattle.std.proofs.Common.{length, sym, ap}
use Rattle.auth_types.specs.Payload.{signed_bytes}
use Rattle.ledger_types.specs.declared.header.Header.{Header}
use Rattle.auth_parts.proofs.Passing.{uncapped}
use Rattle.auth_parts.proofs.Steps.{payload_paid, payload_unpaid}
use Rattle.auth_parts.proofs.asking.ask_payload.Goals as goal

pub returns-in-Ok-clause-does : goal.returns-in-Ok-clause-does
returns-in-Ok-clause-does c env same verdicts =
    let signer = c.args.signer.now in
    let root = c.args.entry.now.root_invocation in
    let payload = signed_bytes c.args.header.now.network_id signer root in
    payload_paid env signer root tt c.ask_hashed.result payload (signed_bytes env.header.network_id signer root) c.signed_len-len.result c.args.budget.now c.pay.new.budget c.ask_hashed.new.budget
    (uncapped c.signed_len-len.result (length payload) c.signed_len-len.ensures c.if-len.false) (ap (λ (h : Header). signed_bytes h.network_id signer root) (sym same)) c.in-Ok.ensures.does (c.ask_hashed.ensures.does env verdicts)

pub returns-in-Err-clause-does : goal.returns-in-Err-clause-does
returns-in-Err-clause-does c env same verdicts =
    let signer = c.args.signer.now in
    let root = c.args.entry.now.root_invocation in
    let payload = signed_bytes c.args.header.now.network_id signer root in
    payload_unpaid env signer root c.in-Err.error payload (signed_bytes env.header.network_id signer root) c.signed_len-len.result c.args.budget.now c.pay.new.budget
    (uncapped c.signed_len-len.result (length payload) c.signed_len-len.ensures c.if-len.false) (ap (λ (h : Header). signed_bytes h.network_id signer root) (sym same)) c.in-Err.ensures.does
