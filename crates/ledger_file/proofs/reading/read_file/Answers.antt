use Rattle.ledger_file.proofs.Judging.{file_decoded, refused_file}
use Rattle.ledger_file.proofs.reading.read_file.Goals as goal

pub returns-in-Ok-clause-file : goal.returns-in-Ok-clause-file
returns-in-Ok-clause-file c = file_decoded c.args.bytes.now c.in-Ok.file c.in-Ok.ensures.found

pub returns-in-Err-Bad-clause-refused : goal.returns-in-Err-Bad-clause-refused
returns-in-Err-Bad-clause-refused c follows =
    refused_file c.args.bytes.now c.in-Err-Bad.e follows (λ i. (c.type_inv.bytes i).fits) (rw c.in-Err-Bad.field-0-is at c.in-Err-Bad.ensures.refused)
