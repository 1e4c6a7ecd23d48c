use Rattle.command_io.proofs.PutTogether.{hashed}
use Rattle.command_io.proofs.report.push_hash.Goals as goal

pub returns : goal.returns
returns c = λ bytes is.
    hashed c.args.lines.now.items c.args.name.now bytes _ c.extend_from_slice.new.self.items c.push_hex.new.line.items is c.in_ok-extend_from_slice.ensures.items c.in_ok-push_hex.ensures
