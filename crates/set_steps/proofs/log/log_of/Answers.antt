use Rattle.set_steps.proofs.log.log_of.Goals as goal

pub returns-then-len-gt-MOST_STAGES-clause-numbers : goal.returns-then-len-gt-MOST_STAGES-clause-numbers
returns-then-len-gt-MOST_STAGES-clause-numbers c = (c.ranges.old_seq.fits, c.ranges.old_close_time.fits, c.ranges.new_close_time.fits)

pub returns-clause-numbers : goal.returns-clause-numbers
returns-clause-numbers c = (c.ranges.old_seq.fits, c.ranges.old_close_time.fits, c.ranges.new_close_time.fits)
