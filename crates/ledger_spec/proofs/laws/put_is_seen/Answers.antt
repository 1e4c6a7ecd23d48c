use Rattle.ledger_types.specs.Entry.{key_of}
use Rattle.ledger_spec.specs.Seen.{seen}
use Rattle.ledger_spec.proofs.Puts.{put_live, put_temporary, put_persistent, put_refused, put_others}
use Rattle.ledger_spec.proofs.laws.put_is_seen.Goals as goal

pub returns-clause-keeps_life : goal.returns-clause-keeps_life
returns-clause-keeps_life c settings n map entry kept e = put_live settings n map entry kept e

pub returns-clause-temporary_begins : goal.returns-clause-temporary_begins
returns-clause-temporary_begins c settings n map entry are e t = put_temporary settings n map entry are e t

pub returns-clause-persistent_begins : goal.returns-clause-persistent_begins
returns-clause-persistent_begins c settings n map entry are e t = put_persistent settings n map entry are e t

pub returns-clause-refused : goal.returns-clause-refused
returns-clause-refused c settings n map entry = put_refused settings n map entry (seen n map (key_of entry))

pub returns-clause-others : goal.returns-clause-others
returns-clause-others c settings n map after entry e = put_others settings n map after entry (seen n map (key_of entry)) e
