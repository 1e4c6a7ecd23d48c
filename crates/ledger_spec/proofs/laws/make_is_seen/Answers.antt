use Rattle.ledger_types.specs.Entry.{key_of}
use Rattle.ledger_spec.specs.Seen.{seen}
use Rattle.ledger_spec.proofs.Makes.{make_absent, make_lives, make_live, make_refused, make_others}
use Rattle.ledger_spec.proofs.laws.make_is_seen.Goals as goal

pub returns-clause-made : goal.returns-clause-made
returns-clause-made c n map entry live_until e = make_absent n map entry live_until e

pub returns-clause-lives : goal.returns-clause-lives
returns-clause-lives c n map after made entry live_until lives e is = make_lives n map after made entry live_until lives e is

pub returns-clause-stays : goal.returns-clause-stays
returns-clause-stays c n map entry live_until kept e = make_live n map entry live_until kept e

pub returns-clause-refused : goal.returns-clause-refused
returns-clause-refused c n map entry live_until = make_refused n map entry live_until (seen n map (key_of entry))

pub returns-clause-others : goal.returns-clause-others
returns-clause-others c n map after made entry live_until e = make_others n map after made entry live_until (seen n map (key_of entry)) e
