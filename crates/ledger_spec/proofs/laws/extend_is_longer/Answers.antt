use Rattle.ledger_spec.proofs.Extends.{little_left, much_left, bounded, refused, extend_others}
use Rattle.ledger_spec.proofs.laws.extend_is_longer.Goals as goal

pub returns-clause-little_left : goal.returns-clause-little_left
returns-clause-little_left c settings n map after key threshold extend_to kept e is le = little_left settings n map after key threshold extend_to kept e is le

pub returns-clause-much_left : goal.returns-clause-much_left
returns-clause-much_left c settings n map after key threshold extend_to kept e is lt = much_left settings n map after key threshold extend_to kept e is lt

pub returns-clause-bounded : goal.returns-clause-bounded
returns-clause-bounded c settings n map after key threshold extend_to kept e is = bounded settings n map after key threshold extend_to kept e is

pub returns-clause-refused : goal.returns-clause-refused
returns-clause-refused c why settings n map key threshold extend_to = refused why settings n map key threshold extend_to

pub returns-clause-others : goal.returns-clause-others
returns-clause-others c settings n map after key threshold extend_to e = extend_others settings n map after key threshold extend_to e
