use Rattle.std.proofs.Common.{refl}
use Rattle.host_ledger.proofs.Lemmas.{later_same}
use Rattle.call_parts.proofs.Stepping.{uploaded, not_uploaded}
use Rattle.call_parts.proofs.codes.upload.Goals as goal

pub returns-in-Ok-clause-does : goal.returns-in-Ok-clause-does
returns-in-Ok-clause-does g c =
    uploaded tt c.store.result c.args.code.now c.code_hash-hash.result c.args.storage.now c.store.new.storage c.args.budget.now c.judged.new.budget c.store.new.budget c.code_hash-hash.ensures c.in-Ok.ensures.does c.store.ensures.does

pub returns-in-Err-clause-does : goal.returns-in-Err-clause-does
returns-in-Err-clause-does g c = not_uploaded c.in-Err.error c.args.code.now c.args.storage.now c.args.budget.now c.judged.new.budget c.in-Err.ensures.does

pub returns-in-Err-clause-later : goal.returns-in-Err-clause-later
returns-in-Err-clause-later g c = later_same _ _ refl
