use Rattle.std.proofs.Common.{◌≡◌, List, All, refl, sym, ap, subst, ◌∙◌, arith}
use Rattle.ledger_types.specs.Key.{key_format}
use Rattle.ledger_types.specs.declared.key.LedgerKey.{LedgerKey}
use Rattle.tx_xdr.specs.declared.transaction.Transaction.{Transaction}
use Rattle.apply_spec.specs.Checks.{footprint_of}
use Rattle.stage_runs.specs.Transactions.{declared_by}
use Rattle.set_steps.proofs.Lists.{take_all}
use Rattle.set_steps.proofs.Lasting.{are_lives, keeps_join, keeps_none}
use Rattle.set_steps.proofs.Spelling.{written_spelled}
use Rattle.set_steps.proofs.Written.{PutFor, put_for_none, put_for_more, all_written}
use Rattle.set_steps.proofs.before.put_written.Goals as goal

pub loop-key-init : goal.loop-key-init
loop-key-init g c = record {
  put = put_for_none (g.E.Entries.own c.args.entries.now) c.args.pending.now;
  lives = keeps_none (g.E.Ground.map c.args.entries.now) c.new-lives.result.items;
  shown = refl;
}

pub put_in-requires : goal.put_in-requires
put_in-requires g c =
    let are : c.read_write_of-keys.result.now ≡ (declared_by c.args.envelope.now).read_write = c.read_write_of-keys.ensures ∙ ap (λ (tx : Transaction). (footprint_of tx).read_write) c.transaction.ensures in
    let keys : All (λ key. key_format.fits key) c.read_write_of-keys.result.now =
    subst (λ (ks : List LedgerKey). All (λ key. key_format.fits key) ks) (sym are) (written_spelled c.args.envelope.now c.requires) in
    subst (λ (k : LedgerKey). key_format.fits k) (sym c.key-item.is) (keys c.loop-key.key-index c.key-item.result c.loop-key-test.true)

pub loop-key-preserved : goal.loop-key-preserved
loop-key-preserved g c =
    let own = g.E.Entries.own in
    record {
      put = put_for_more c.read_write_of-keys.result.now c.loop-key.key-index c.key-item.result c.loop-key-test.true c.key-item.is
          (own c.args.entries.now) (own c.loop-key.entries) (own c.put_in.new.entries) c.args.pending.now c.loop-key.pending c.put_in.new.self
          c.loop-key.invariant.put c.in_ok-put_in.ensures.entries c.in_ok-put_in.ensures.pending;
      lives = keeps_join (g.E.Ground.map c.args.entries.now) (g.E.Ground.map c.loop-key.entries) (g.E.Ground.map c.put_in.new.entries)
          c.new-lives.result.items c.loop-key.lives.items c.put_in.new.lives.items c.loop-key.invariant.lives c.in_ok-put_in.ensures.lives;
      shown = c.put_in.ensures.shown ∙ c.loop-key.invariant.shown;
    }

pub returns : goal.returns
returns g c =
    let own = g.E.Entries.own in
    let keys = c.read_write_of-keys.result.now in
    let are : keys ≡ (declared_by c.args.envelope.now).read_write = c.read_write_of-keys.ensures ∙ ap (λ (tx : Transaction). (footprint_of tx).read_write) c.transaction.ensures in
    let whole = take_all keys c.loop-key.key-index c.loop-key-test.false (omega arith) in
    let both = all_written c.args.envelope.now keys (own c.args.entries.now) (own c.loop-key.entries) c.args.pending.now c.loop-key.pending are
    (subst (λ (ks : List LedgerKey). PutFor ks (own c.args.entries.now) (own c.loop-key.entries) c.args.pending.now c.loop-key.pending) whole c.loop-key.invariant.put) in
    record {
      entries = both.0;
      pending = both.1;
      shown = c.loop-key.invariant.shown;
      lives = are_lives (g.E.Ground.map c.args.entries.now) (g.E.Ground.map c.loop-key.entries) c.new-lives.result.items c.loop-key.lives.items
          c.new-lives.ensures.items c.loop-key.invariant.lives;
    }
