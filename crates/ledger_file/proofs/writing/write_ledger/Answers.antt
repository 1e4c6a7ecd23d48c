use Rattle.std.proofs.Common.{append_assoc}
use Rattle.ledger_file.proofs.Written.{file_written}
use Rattle.ledger_file.proofs.writing.write_ledger.Goals as goal

pub returns : goal.returns
returns c =
    rw (c.from_vec.ensures, c.into_vec.ensures, c.in_ok-write_records.ensures.ok, c.in_ok-put_u32-2.ensures.ok, c.in_ok-write.ensures.ok, c.in_ok-put_u32.ensures.ok, c.number.ensures, c.new-out.ensures)
    (simp append_assoc (file_written c.args.ledger.now.header c.args.ledger.now.entries c.len.result c.len.ensures.len))
