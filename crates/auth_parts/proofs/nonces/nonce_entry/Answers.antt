use Rattle.std.proofs.Common.{rules, arith}
use Rattle.auth_parts.proofs.NonceEntries.{nonce_entry_fits}
use Rattle.auth_parts.proofs.nonces.nonce_entry.Goals as goal

pub returns-clause-fits : goal.returns-clause-fits
returns-clause-fits c = nonce_entry_fits c.args.n c.args.signer.now _ (omega arith) c.requires (search rules)
