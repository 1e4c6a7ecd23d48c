use Rattle.std.proofs.Common.{Err}
use Rattle.call_spec.specs.World.{Read}
use Rattle.call_spec.specs.Found.{finds_instance, instance_at}
use Rattle.call_spec.specs.Keys.{instance_key}
use Rattle.contract_storage.specs.Acts.{get_act, lent}
use Rattle.host_ledger.specs.Worlds.{copied}
use Rattle.host_ledger.proofs.Lemmas.{reads_read}
use Rattle.call_parts.specs.Entered.{opens_instance}
use Rattle.call_parts.proofs.InstanceLaws.{instance_opens}
use Rattle.call_parts.proofs.Joining.{accesses_steps}
use Rattle.call_parts.proofs.Reading.{read_charged, read_refused}
use Rattle.call_parts.proofs.Stepping.{steps_at, accesses_at}
use Rattle.call_parts.proofs.instances.find_instance.Goals as goal

pub returns-in-Ok-clause-does : goal.returns-in-Ok-clause-does
returns-in-Ok-clause-does g c =
    steps_at c.opened.result copied Read c.instance_key-key.result (instance_key c.args.contract) (λ env. finds_instance) c.args.storage.now c.get.follows.lender-at-none c.args.budget.now c.opened.new.budget c.instance_key-key.ensures.key
    (read_charged copied finds_instance opens_instance instance_opens c.opened.result c.in-Ok.found.now c.instance_key-key.result c.args.storage.now c.get.follows.lender-at-none c.args.budget.now c.opened.new.budget c.instance_key-key.ensures.fits
    (rw c.in-Ok.is at c.get.follows.holds-at-none) (c.opened.ensures.does c.instance_key-key.result))

pub returns-in-Err-clause-does : goal.returns-in-Err-clause-does
returns-in-Err-clause-does g c =
    accesses_steps (Err c.end_of.result) copied (λ env. instance_at env c.args.contract) c.args.storage.now c.get.follows.lender-at-none c.args.budget.now
    (accesses_at (Err c.end_of.result) copied Read c.instance_key-key.result (instance_key c.args.contract) (λ env. finds_instance) c.args.storage.now c.get.follows.lender-at-none c.instance_key-key.ensures.key
    (read_refused copied finds_instance opens_instance instance_opens c.in-Err.error c.end_of.result c.instance_key-key.result c.args.storage.now c.get.follows.lender-at-none c.instance_key-key.ensures.fits c.end_of.ensures (rw c.in-Err.is at c.get.follows.holds-at-none)))

pub returns-in-Ok-clause-read : goal.returns-in-Ok-clause-read
returns-in-Ok-clause-read g c = reads_read (get_act c.instance_key-key.result) (lent c.get.result) c.args.storage.now c.get.follows.lender-at-none c.get.follows.holds-at-none

pub returns-in-Err-clause-read : goal.returns-in-Err-clause-read
returns-in-Err-clause-read g c = reads_read (get_act c.instance_key-key.result) (lent c.get.result) c.args.storage.now c.get.follows.lender-at-none c.get.follows.holds-at-none
