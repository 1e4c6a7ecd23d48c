use Rattle.std.proofs.Common.{refl}
use Rattle.xdr_core.specs.Sizes.{capped}
use Rattle.ledger_types.proofs.Widths.{settings_width}
use Rattle.ledger_types.proofs.header.SettingsXdr.size.Goals as goal

pub returns : goal.returns
unfolding capped
returns c = λ _. rw (settings_width c.args.self.now) refl
