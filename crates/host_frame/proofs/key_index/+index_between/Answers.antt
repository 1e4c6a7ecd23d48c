use Rattle.std.proofs.Common.{◌+◌, ◌-◌, ◌/◌, sym, ◌∙◌, arith}
use Rattle.value_types.specs.Views.{datum}
use Rattle.host_frame.proofs.KeyLaws.{there}
use Rattle.host_frame.proofs.key_index.+index_between.Goals as goal

pub returns-in-Equal-clause-stands : goal.returns-in-Equal-clause-stands
returns-in-Equal-clause-stands t c =
    there (datum c.args.key.now) c.args.entries.now (c.args.from + (c.args.to - c.args.from) / 2) c.index-entries-middle.result c.requires.hosted
    (omega (arith, c.requires.order, c.requires.within, c.if-from-to.false)) c.index-entries-middle.is (sym c.cmp_val.ensures ∙ c.in-Equal.is)
