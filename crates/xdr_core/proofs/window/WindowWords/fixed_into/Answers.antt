use Rattle.xdr_core.specs.Windowed.{seen_by}
use Rattle.xdr_core.proofs.Padding.{fixed_appended, below_limit}
use Rattle.xdr_core.proofs.window.WindowWords.fixed_into.Goals as goal

pub returns-clause-read : goal.returns-clause-read
returns-clause-read g c =
    let seen = seen_by g.P.Pour.seen in
    let old = c.args.self.now in
    fixed_appended c.args.n (seen old) (seen c.take_into.new.self) (seen c.skip_padding.new.self) (below_limit old.place old.held.now (g.P.Pour.seen old.pour))
    c.args.to.now.items c.take_into.new.to.items c.skip_padding.result c.in_ok-take_into.ensures.read c.skip_padding.ensures
