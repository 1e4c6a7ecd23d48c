use Rattle.std.proofs.Common.{ap, sym, ◌∙◌}
use Rattle.ledger_types.specs.Entry.{key_of}
use Rattle.host_ledger.proofs.Lemmas.{put_spelled}
use Rattle.auth_parts.proofs.Making.{nonce_made, nonce_used, nonce_refused}
use Rattle.auth_parts.proofs.nonces.make_nonce.Goals as goal

pub returns-in-Ok-true-clause-does : goal.returns-in-Ok-true-clause-does
returns-in-Ok-true-clause-does g c =
    nonce_made c.args.signer.now c.in-Ok-true.field-0 c.pay.result c.nonce_entry-entry.result c.args.n c.size_of-size.result c.args.storage.now c.make.new.self c.args.budget.now c.pay.new.budget c.nonce_entry-entry.ensures.entry c.requires.number
    c.size_of-size.ensures c.nonce_entry-entry.ensures.fits c.in-Ok-true.field-0-test c.in-Ok-true.ensures c.pay.ensures.does c.pay.ensures.spent

pub returns-in-Ok-false-clause-does : goal.returns-in-Ok-false-clause-does
returns-in-Ok-false-clause-does g c =
    nonce_used c.args.signer.now c.in-Ok-false.field-0 c.nonce_entry-entry.result c.args.n c.args.storage.now c.make.new.self c.args.budget.now c.nonce_entry-entry.ensures.entry c.requires.number c.nonce_entry-entry.ensures.fits c.in-Ok-false.field-0-test c.in-Ok-false.ensures

pub returns-clause-does : goal.returns-clause-does
returns-clause-does g c =
    nonce_refused c.args.signer.now c.in-Err.error c.end_of.result c.nonce_key-key.result c.nonce_entry-entry.result c.args.n c.args.storage.now c.make.new.self c.args.budget.now c.end_of.ensures c.nonce_key-key.ensures
    c.nonce_entry-entry.ensures.entry c.requires.number c.nonce_entry-entry.ensures.fits c.in-Err.ensures

pub returns-clause-key : goal.returns-clause-key
returns-clause-key g c =
    put_spelled c.in-Err.error c.end_of.result c.nonce_entry-entry.result c.nonce_key-key.result (c.nonce_key-key.ensures ∙ sym (ap key_of c.nonce_entry-entry.ensures.entry)) c.nonce_entry-entry.ensures.fits c.end_of.ensures
