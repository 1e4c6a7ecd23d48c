use Rattle.std.proofs.Common.{◌+◌, ◌*◌, length}
use Rattle.worker_runs.proofs.workers.+threads.Given as goal

abbrev pub decreases-spread : goal.decreases-spread
decreases-spread g l = 4 * length l.jobs.now

abbrev pub decreases-beside : goal.decreases-beside
decreases-beside g l = 4 * length l.rest.now + 2

abbrev pub decreases-beside-back : goal.decreases-beside-back
decreases-beside-back g l = 4 * length l.rest.now + 1
