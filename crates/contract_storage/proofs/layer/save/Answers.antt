use Rattle.std.proofs.Common.{◌≡◌, ◌+◌, ◌-◌, length, arith}
use Rattle.contract_storage.proofs.Saving.{newest_set, newest_stays}
use Rattle.contract_storage.proofs.layer.save.Goals as goal

pub returns-in-Ok-clause-ok : goal.returns-in-Ok-clause-ok
returns-in-Ok-clause-ok c =
    let last : c.len-open.result - 1 + 1 ≡ length c.args.saved.now.items = omega (arith, c.len-open.ensures, c.if-open-eq0.false) in
    newest_set c.args.saved.now.items (c.len-open.result - 1) c.index_mut.result.now _ (record { at = c.args.at; before = c.args.before }) last c.index_mut.ensures.value c.in-Ok.ensures.ok

pub returns-in-Err-clause-stays : goal.returns-in-Err-clause-stays
returns-in-Err-clause-stays c =
    let last : c.len-open.result - 1 + 1 ≡ length c.args.saved.now.items = omega (arith, c.len-open.ensures, c.if-open-eq0.false) in
    newest_stays c.args.saved.now.items (c.len-open.result - 1) c.index_mut.result.now _ last c.index_mut.ensures.value c.in-Err.ensures.stays
