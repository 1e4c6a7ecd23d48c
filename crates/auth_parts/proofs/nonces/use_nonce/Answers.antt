use Rattle.auth_parts.proofs.Making.{valid_nonce}
use Rattle.auth_parts.proofs.nonces.use_nonce.Goals as goal

pub returns-then-is_valid_until-clause-does : goal.returns-then-is_valid_until-clause-does
returns-then-is_valid_until-clause-does g c =
    valid_nonce c.args.signer.now c.make_nonce.result c.is_valid_until.result c.args.n c.args.settings.now c.args.storage.now c.make_nonce.new.storage c.args.budget.now c.make_nonce.new.budget c.is_valid_until.ensures
    c.if-is_valid_until.true c.requires.number c.requires.lives c.make_nonce.ensures.does
