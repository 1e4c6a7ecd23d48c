use Rattle.std.proofs.Common.{◌∙◌, ap}
use Rattle.value_types.specs.Kinds.{number}
use Rattle.show_lines.proofs.LineLaws.{value_shown}
use Rattle.show_lines.proofs.ledgers.value_line.Goals as goal

pub returns : goal.returns
returns c = value_shown c.args.value.now c.in_ok-line.line.items c.push_number.new.line.items c.push_number-2.new.line.items c.push_number-3.new.line.items _ _ _ c.requires.fits (c.number.ensures ∙ ap number c.kind.ensures) c.requires.size c.depth.ensures c.in_ok-line.ensures.items c.in_ok-push_number.ensures c.in_ok-push_number-2.ensures c.in_ok-push_number-3.ensures
