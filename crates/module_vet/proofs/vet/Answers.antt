use Rattle.module_vet.proofs.Exact.{gives}
use Rattle.module_vet.proofs.vet.Goals as goal

pub returns-clause-given : goal.returns-clause-given
returns-clause-given c = gives c.args.bytes.now c.judged.result c.judged.ensures
