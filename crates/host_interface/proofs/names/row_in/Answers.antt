use Rattle.std.proofs.Common.{map, refl, sym, ◌∙◌}
use Rattle.std.specs.Prelude.{slice_get}
use Rattle.host_interface.specs.Order.{name_at}
use Rattle.host_interface.specs.Rows.{rows_of}
use Rattle.host_interface.proofs.Order.{absent, by_index}
use Rattle.host_interface.proofs.names.row_in.Goals as goal

pub returns-in-Some : goal.returns-in-Some
returns-in-Some c =
    let rows = rows_of c.args.table.now in
    let k = c.in-Some.index in
    c.row_of_module.ensures ∙ by_index rows (slice_get rows k) k c.args.module.now c.args.name.now c.requires.distinct c.requires.named refl c.in-Some.ensures.some

pub returns-in-None : goal.returns-in-None
returns-in-None c =
    let rows = rows_of c.args.table.now in
    sym (absent rows (map (name_at rows) c.args.order.now) c.args.module.now c.args.name.now c.requires.whole c.in-None.ensures.none)
