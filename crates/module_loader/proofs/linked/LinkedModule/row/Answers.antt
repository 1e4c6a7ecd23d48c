use Rattle.std.proofs.Common.{◌<◌, length, sym, ap, ◌∙◌, subst}
use Rattle.wasm_spec.specs.declared.module.Module.{Module}
use Rattle.host_interface.specs.Rows.{host_rows, row_of}
use Rattle.module_spec.specs.Linking.{import_row}
use Rattle.module_spec.specs.Loading.{row_at}
use Rattle.module_loader.proofs.Imports.{row_found}
use Rattle.module_loader.proofs.linked.LinkedModule.row.Goals as goal

pub returns : goal.returns
returns c =
    let m = c.self.inside.valid in
    let k = c.args.«import» in
    let lt : k < length m.imports = subst (λ (m : Module). k < length m.imports) (sym c.self.view_is) c.requires in
    ap (λ (m : Module). row_at m k) (sym c.self.view_is) ∙ row_found (import_row host_rows m) row_of m.imports c.self.inside.rows.items k c.index.result.now c.self.invariant.2 lt c.index.ensures
