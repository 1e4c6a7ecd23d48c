use Rattle.apply_spec.proofs.Recording.{recorded_law, only_law, allowed_law, once_law, smaller_law}
use Rattle.apply_spec.proofs.footprints_are_recorded.Goals as goal

pub returns-clause-recorded : goal.returns-clause-recorded
returns-clause-recorded c trace = recorded_law trace

pub returns-clause-only : goal.returns-clause-only
returns-clause-only c trace footprint is = only_law trace footprint is

pub returns-clause-allowed : goal.returns-clause-allowed
returns-clause-allowed c trace = allowed_law trace

pub returns-clause-once : goal.returns-clause-once
returns-clause-once c trace = once_law trace

pub returns-clause-smaller : goal.returns-clause-smaller
returns-clause-smaller c trace smaller is = smaller_law trace smaller is
