use Rattle.std.proofs.Common.{List, subst, sym, arith}
use Rattle.ledger_types.specs.Key.{key_format}
use Rattle.stage_runs.specs.declared.Extension.{Extension}
use Rattle.set_steps.specs.Lives.{Covers}
use Rattle.set_steps.proofs.Lasting.{covers_more, covers_none}
use Rattle.set_steps.proofs.Lists.{take_all}
use Rattle.set_steps.proofs.stage_end.keep_lives.Goals as goal

pub loop-extension-init : goal.loop-extension-init
loop-extension-init c = covers_none c.args.entries.now c.args.lives.now.items

pub keep_life-requires : goal.keep_life-requires
keep_life-requires c =
    subst (λ (x : Extension). key_format.fits x.key) (sym c.extension-item.is)
    (c.requires c.loop-extension.extension-index c.extension-item.result c.loop-extension-test.true)

pub loop-extension-preserved : goal.loop-extension-preserved
loop-extension-preserved c =
    let x = c.extension-item.result in
    covers_more c.args.entries.now c.args.extensions.now c.loop-extension.extension-index x c.args.lives.now.items c.loop-extension.lives.items
    c.keep_life.new.lives.items c.loop-extension-test.true c.extension-item.is
    (subst (λ (y : Extension). key_format.fits y.key) (sym c.extension-item.is)
    (c.requires c.loop-extension.extension-index x c.loop-extension-test.true))
    c.loop-extension.invariant c.in_ok-keep_life.ensures

pub returns : goal.returns
returns c =
    subst (λ (xs : List Extension). Covers c.args.entries.now xs c.args.lives.now.items c.loop-extension.lives.items)
    (take_all c.args.extensions.now c.loop-extension.extension-index (omega arith) (omega arith)) c.loop-extension.invariant
