use Rattle.call_spec.proofs.Changed.{put_law, delete_law, make_law, extend_law}
use Rattle.call_spec.proofs.laws.accesses_change_the_map.Goals as goal

pub returns-clause-put : goal.returns-clause-put
returns-clause-put c = put_law

pub returns-clause-put_alone : goal.returns-clause-put_alone
returns-clause-put_alone c = put_law

pub returns-clause-delete : goal.returns-clause-delete
returns-clause-delete c = delete_law

pub returns-clause-make : goal.returns-clause-make
returns-clause-make c = make_law

pub returns-clause-extend : goal.returns-clause-extend
returns-clause-extend c = extend_law
