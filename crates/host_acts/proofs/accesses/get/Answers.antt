use Rattle.contract_storage.specs.Acts.{get_act, lent}
use Rattle.host_acts.proofs.Linking.{get_opened, get_refused, reads_read}
use Rattle.host_acts.proofs.accesses.get.Goals as goal

pub returns-in-Ok-clause-does : goal.returns-in-Ok-clause-does
returns-in-Ok-clause-does g c =
    get_opened c.opened.result _ c.args.key c.args.storage.now c.get.follows.lender-at-none _ _ c.requires (rw c.in-Ok.is at c.get.follows.holds-at-none) (c.opened.ensures.does c.args.key)

pub returns-in-Ok-clause-read : goal.returns-in-Ok-clause-read
returns-in-Ok-clause-read g c = reads_read (get_act c.args.key) (lent c.get.result) c.args.storage.now c.get.follows.lender-at-none c.get.follows.holds-at-none

pub returns-in-Err-clause-does : goal.returns-in-Err-clause-does
returns-in-Err-clause-does g c =
    rw c.end_of.ensures (get_refused c.in-Err.error c.args.key c.args.storage.now c.get.follows.lender-at-none _ c.requires (rw c.in-Err.is at c.get.follows.holds-at-none))

pub returns-in-Err-clause-read : goal.returns-in-Err-clause-read
returns-in-Err-clause-read g c = reads_read (get_act c.args.key) (lent c.get.result) c.args.storage.now c.get.follows.lender-at-none c.get.follows.holds-at-none
