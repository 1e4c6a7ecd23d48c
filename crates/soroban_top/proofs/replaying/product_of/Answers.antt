use Rattle.soroban_top.proofs.Replays.{played_fits}
use Rattle.soroban_top.proofs.replaying.product_of.Goals as goal

pub stored-requires : goal.stored-requires
stored-requires c = record {
  header =
      played_fits c.args.request.now.back c.args.log.now (c.args.ledger.header, c.args.ledger.entries)
      (c.in_ok-ledger.ledger.header, c.in_ok-ledger.ledger.entries) c.requires.log c.requires.fits c.requires.next c.in_ok-ledger.ensures.ok;
}
