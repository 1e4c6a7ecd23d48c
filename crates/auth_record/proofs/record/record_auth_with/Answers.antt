use Rattle.tx_xdr.specs.Envelope.{transaction_in}
use Rattle.tx_xdr.proofs.Lemmas.{transaction_in_fits}
use Rattle.auth_record.proofs.Enough.{enough}
use Rattle.auth_record.proofs.record.record_auth_with.Goals as goal

pub record_transaction-requires-clause-fits : goal.record_transaction-requires-clause-fits
record_transaction-requires-clause-fits g c = rw c.transaction.ensures (transaction_in_fits c.args.tx.now c.requires.fits)

pub returns-clause-enough : goal.returns-clause-enough
returns-clause-enough g c =
    enough c.args.header.now (record { nonce = c.args.nonce; expiration = c.args.expiration }) (g.G.Ground.map c.args.ground.now) (transaction_in c.args.tx.now) c.transaction.result.now
    c.record_transaction.result c.transaction.ensures c.record_transaction.ensures.recorded c.record_transaction.ensures.fits
