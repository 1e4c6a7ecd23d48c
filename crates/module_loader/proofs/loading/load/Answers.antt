use Rattle.module_loader.proofs.Exact.{gives, gives_module}
use Rattle.module_loader.proofs.loading.load.Goals as goal

pub returns-clause-given : goal.returns-clause-given
returns-clause-given c = gives c.args.bytes.now c.linked_of.result c.linked_of.ensures

pub returns-clause-module : goal.returns-clause-module
returns-clause-module c = gives_module c.args.bytes.now c.linked_of.result c.linked_of.ensures
