use Rattle.std.proofs.Common.{◌||◌, List, ap, ◌∙◌}
use Rattle.ledger_types.specs.declared.key.LedgerKey.{LedgerKey}
use Rattle.ledger_spec.specs.LedgerMap.{key_bytes}
use Rattle.ledger_parts.specs.Shown.{is_read}
use Rattle.stage_runs.specs.Runs.{is_written}
use Rattle.set_place.proofs.Reaching.{put_next, written_is}
use Rattle.set_place.proofs.cluster.put_written.Goals as goal

pub loop-extension-preserved : goal.loop-extension-preserved
loop-extension-preserved c =
    let item = c.extension-item.result in
    let q = key_bytes item.key in
    let rw = c.read_write_of.result.now in
    let read = c.in_ok-add_all.ensures q ∙ ap (λ (ks : List LedgerKey). is_read ks q || is_read rw q) c.new-keys.ensures in
    put_next (is_written c.args.envelope.now) c.args.ledger.now.entries c.loop-extension.ledger.entries c.put_if.new.ledger.entries c.args.pending.now
    c.loop-extension.extension-index item c.has-written.result c.loop-extension-test.true c.extension-item.is c.loop-extension.invariant
    (c.has-written.ensures ∙ written_is c.args.envelope.now _ rw q c.requires.fits c.read_write_of.ensures read)
    c.put_if.ensures
