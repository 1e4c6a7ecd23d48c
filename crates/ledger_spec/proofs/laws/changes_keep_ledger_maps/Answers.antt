use Rattle.std.proofs.Common.{refl}
use Rattle.ledger_types.specs.Entry.{key_of}
use Rattle.ledger_spec.specs.LedgerMap.{find}
use Rattle.ledger_spec.specs.Seen.{seen}
use Rattle.ledger_spec.proofs.Keeping.{put_keeps, delete_keeps, make_keeps, extend_keeps, raise_keeps}
use Rattle.ledger_spec.proofs.laws.changes_keep_ledger_maps.Goals as goal

pub returns-clause-put : goal.returns-clause-put
returns-clause-put c settings n map after entry can first e = put_keeps settings n map after entry (seen n map (key_of entry)) refl can first e

pub returns-clause-delete : goal.returns-clause-delete
returns-clause-delete c n map after key is e = delete_keeps map after key (seen n map key) is e

pub returns-clause-make : goal.returns-clause-make
returns-clause-make c n map after made entry live_until can lt e = make_keeps n map after made entry live_until (seen n map (key_of entry)) can lt e

pub returns-clause-extend : goal.returns-clause-extend
returns-clause-extend c settings n map after key threshold extend_to is lt e = extend_keeps settings n map after key threshold extend_to is lt e

pub returns-clause-raise : goal.returns-clause-raise
returns-clause-raise c map key live_until is lt = raise_keeps map key live_until (find map key) refl is lt
