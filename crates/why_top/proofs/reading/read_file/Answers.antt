use Rattle.why_top.proofs.Steady.{none_counted}
use Rattle.why_top.proofs.reading.read_file.Goals as goal

pub returns-in-Ok-clause-steady : goal.returns-in-Ok-clause-steady
returns-in-Ok-clause-steady g c steady there =
    none_counted _ c.args.option _ _ c.in-Ok.ensures.counts (c.in-Ok.ensures.steady steady there)

pub returns-in-Err-TooLong-clause-steady : goal.returns-in-Err-TooLong-clause-steady
returns-in-Err-TooLong-clause-steady g c steady there =
    none_counted _ c.args.option _ _ c.in-Err-TooLong.ensures.counts (rw c.in-Err-TooLong.field-0-is at c.in-Err-TooLong.ensures.steady steady there)

pub returns-in-Err-NoMemory-clause-steady : goal.returns-in-Err-NoMemory-clause-steady
returns-in-Err-NoMemory-clause-steady g c steady there =
    none_counted _ c.args.option _ _ c.in-Err-NoMemory.ensures.counts (rw c.in-Err-NoMemory.field-0-is at c.in-Err-NoMemory.ensures.steady steady there)
