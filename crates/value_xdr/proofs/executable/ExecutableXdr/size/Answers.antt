use Rattle.std.proofs.Common.{◌∙◌}
use Rattle.value_xdr.proofs.Sizes.{executable_capped}
use Rattle.value_xdr.proofs.executable.ExecutableXdr.size.Goals as goal

pub returns : goal.returns
returns c fits = c.xdr_size_of_executable.ensures ∙ executable_capped c.args.self.now fits
