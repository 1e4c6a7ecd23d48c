use Rattle.std.proofs.Common.{◌≡◌, Some, map, take}
use Rattle.host_interface.specs.Rows.{host_rows, rows_of}
use Rattle.module_spec.specs.Linking.{import_row}
use Rattle.module_loader.proofs.loading.rows_of.Given as goal

abbrev pub invariant-loop-index : goal.invariant-loop-index
invariant-loop-index l = map (import_row host_rows l.module) (take l.index l.module.imports) ≡ map Some (rows_of l.rows.items)
