use Rattle.std.proofs.Common.{◌∙◌, arith}
use Rattle.value_types.specs.Views.{datum}
use Rattle.host_spec.specs.Hosted.{size_of}
use Rattle.host_frame.proofs.Acting.{capped_small}
use Rattle.host_frame.proofs.sizes.size_of.Goals as goal

pub returns-clause-size : goal.returns-clause-size
returns-clause-size c = c.measured.ensures ∙ capped_small (size_of (datum c.args.value.now)) c.requires.sized

pub returns-clause-small : goal.returns-clause-small
returns-clause-small c = omega (arith, capped_small (size_of (datum c.args.value.now)) c.requires.sized, c.requires.sized)
