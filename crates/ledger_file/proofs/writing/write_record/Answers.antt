use Rattle.xdr_spec.specs.Format.{number32}
use Rattle.value_types.specs.Hash.{hash_format}
use Rattle.ledger_types.specs.Record.{ttl_format}
use Rattle.sha2.proofs.Facts256.{length-sha256}
use Rattle.ledger_file.proofs.Digests.{IsBytes-sha256}
use Rattle.ledger_file.proofs.writing.write_record.Goals as goal

pub write-requires-2 : goal.write-requires-2
unfolding ttl_format hash_format number32
write-requires-2 c = rw c.args.stored.now.hashed ((length-sha256 _, IsBytes-sha256 _), c.requires.numbered)
