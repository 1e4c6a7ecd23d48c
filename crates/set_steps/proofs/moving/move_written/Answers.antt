use Rattle.std.proofs.Common.{◌≡◌, ◌+◌, ◌++◌, ◌∷◌, [], All, take, subst, sym, ap, ap₂, ◌∙◌}
use Rattle.std.specs.FinMap.{retain_keys}
use Rattle.std.specs.Prelude.{not}
use Rattle.ledger_types.specs.Key.{key_format}
use Rattle.ledger_types.specs.declared.key.LedgerKey.{LedgerKey}
use Rattle.stage_runs.specs.Maps.{LedgerMap, has_bytes, laid_over}
use Rattle.stage_runs.specs.Transactions.{declared_by, Envelope}
use Rattle.std.proofs.Common.{List}
use Rattle.tx_xdr.specs.Envelope.{envelope_format}
use Rattle.set_steps.proofs.Lists.{take_one_more}
use Rattle.set_steps.proofs.Spelling.{written_spelled}
use Rattle.set_steps.proofs.Moved.{rest_of, put_over, rest_more, over_more, rest_none, over_none}
use Rattle.set_steps.proofs.moving.move_written.Goals as goal

pub move_all-requires : goal.move_all-requires
move_all-requires c =
    subst (λ (ks : List LedgerKey). All key_format.fits ks) (sym c.read_write_of.ensures)
    (written_spelled c.envelope-item.result (subst (λ (e : Envelope). envelope_format.fits e) (sym c.envelope-item.is) (c.requires c.loop-envelope.envelope-index c.envelope-item.result c.loop-envelope-test.true)))

pub loop-envelope-init : goal.loop-envelope-init
loop-envelope-init c = record { from = sym (rest_none c.args.from.now); to = sym (over_none c.args.from.now c.args.to.now) }

pub loop-envelope-preserved : goal.loop-envelope-preserved
loop-envelope-preserved c =
    let item = c.envelope-item.result in
    let i = c.loop-envelope.envelope-index in
    let txs = take i c.args.envelopes.now in
    let first = c.args.from.now in
    let lower = c.args.to.now in
    let more : take (i + 1) c.args.envelopes.now ≡ txs ++ item ∷ [] = take_one_more c.args.envelopes.now i item c.loop-envelope-test.true c.envelope-item.is in
    record {
      from = c.in_ok-move_all.ensures.from
          ∙ ap₂ (λ (m : LedgerMap) (ks : List LedgerKey). retain_keys m (λ q. not (has_bytes ks q))) c.loop-envelope.invariant.from c.read_write_of.ensures
          ∙ rest_more first txs item ∙ ap (rest_of first) (sym more);
      to = c.in_ok-move_all.ensures.to
          ∙ ap₂ (λ (m : LedgerMap) (ks : List LedgerKey). laid_over (retain_keys m (has_bytes ks)) c.loop-envelope.to) c.loop-envelope.invariant.from c.read_write_of.ensures
          ∙ ap (λ (n : LedgerMap). laid_over (retain_keys (rest_of first txs) (has_bytes (declared_by item).read_write)) n) c.loop-envelope.invariant.to
          ∙ over_more first lower txs item ∙ ap (put_over first lower) (sym more);
    }
