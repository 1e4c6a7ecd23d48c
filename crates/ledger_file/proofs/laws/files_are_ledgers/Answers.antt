use Rattle.ledger_file.proofs.FromFile.{file_read}
use Rattle.ledger_file.proofs.ToFile.{file_is_read, written_is_read}
use Rattle.ledger_file.proofs.Refused.{xdr_refused}
use Rattle.ledger_file.proofs.laws.files_are_ledgers.Goals as goal

pub returns-clause-only : goal.returns-clause-only
returns-clause-only c follows bytes header entries fit e = file_read follows bytes header entries fit e

pub returns-clause-all : goal.returns-clause-all
returns-clause-all c follows bytes header entries h = file_is_read follows bytes header entries h

pub returns-clause-written : goal.returns-clause-written
returns-clause-written c header entries fits is_map runs = written_is_read header entries fits is_map runs

pub returns-clause-refused : goal.returns-clause-refused
returns-clause-refused c follows bytes at fit = xdr_refused follows bytes at fit
