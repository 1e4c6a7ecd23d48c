use Rattle.xdr_core.specs.Windowed.{seen_by}
use Rattle.xdr_core.proofs.Opaque.{opaque_appended}
use Rattle.xdr_core.proofs.window.WindowWords.opaque_into.Goals as goal

pub returns-clause-read : goal.returns-clause-read
returns-clause-read g c =
    let seen = seen_by g.P.Pour.seen in
    opaque_appended c.args.max c.in_ok-len.len (seen c.args.self.now) (seen c.u32.new.self) (seen c.fixed_into.new.self) c.in_ok-len.ensures c.if-len-max.false
    c.args.to.now.items c.fixed_into.new.to.items c.fixed_into.result c.fixed_into.ensures.read
