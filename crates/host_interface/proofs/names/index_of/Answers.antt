use Rattle.std.proofs.Common.{rules}
use Rattle.std.specs.Cmp.Lexicographic.{slice_cmp}
use Rattle.std.specs.Ordering.{nat_cmp}
use Rattle.std.proofs.lemmas.Fn.{always_returns_same}
use Rattle.host_interface.specs.Order.{name_at}
use Rattle.host_interface.specs.Rows.{rows_of}
use Rattle.host_interface.proofs.Order.{equal_name, none_found, rises}
use Rattle.host_interface.proofs.names.index_of.Goals as goal

pub returns-in-Ok-clause-some : goal.returns-in-Ok-clause-some
returns-in-Ok-clause-some c =
    let names = name_at (rows_of c.args.table.now) in
    let at = c.in-Ok.ensures.position (λ k. slice_cmp nat_cmp (names k) c.args.name.now) (always_returns_same _ _ _ (λ a r f' called. (search rules, search rules))) in
    equal_name _ c.args.name.now (at _)

pub returns-in-Err-clause-none : goal.returns-in-Err-clause-none
returns-in-Err-clause-none c =
    let names = name_at (rows_of c.args.table.now) in
    let parted = c.in-Err.ensures.position (λ k. slice_cmp nat_cmp (names k) c.args.name.now) (always_returns_same _ _ _ (λ a r f' called. (search rules, search rules))) in
    none_found names c.args.order.now c.args.name.now c.in-Err.field-0 (parted (rises names c.args.order.now c.args.name.now c.requires.ascending))
