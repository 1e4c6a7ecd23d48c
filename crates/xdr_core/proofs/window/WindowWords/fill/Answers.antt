use Rattle.std.proofs.Common.{length}
use Rattle.xdr_core.specs.Windowed.{seen_by}
use Rattle.xdr_core.proofs.Padding.{fixed_filled, below_limit}
use Rattle.xdr_core.proofs.window.WindowWords.fill.Goals as goal

pub returns-clause-read : goal.returns-clause-read
returns-clause-read g c =
    let seen = seen_by g.P.Pour.seen in
    let old = c.args.self.now in
    fixed_filled (length c.args.to.now) (seen old) (seen c.take_slice.new.self) (seen c.skip_padding.new.self) (below_limit old.place old.held.now (g.P.Pour.seen old.pour))
    c.take_slice.new.to c.skip_padding.result c.in_ok-take_slice.ensures.read c.skip_padding.ensures
