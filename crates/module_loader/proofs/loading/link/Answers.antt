use Rattle.std.proofs.Common.{◌^◌, ◌<◌, length, map, subst, sym, arith, length-append}
use Rattle.std.specs.Prelude.{IfOk, IfErr}
use Rattle.std.proofs.lemmas.List.{length-map}
use Rattle.wasm_spec.specs.Binary.{type_indices}
use Rattle.wasm_spec.specs.declared.module.Import.{Import}
use Rattle.wasm_spec.specs.declared.module.Module.{Module}
use Rattle.host_interface.specs.Rows.{host_rows, rows_of}
use Rattle.module_spec.specs.Linking.{Linked}
use Rattle.module_loader.specs.Results.{HasRows, ReportsUnlinked}
use Rattle.module_loader.proofs.loading.link.Goals as goal

pub rows_of-requires : goal.rows_of-requires
rows_of-requires c =
    let m = c.args.module.now in
    let few : length m.imports < 2 ^ 32 = omega (arith, c.module.ensures.valid.outside.few_functions, length-append (map (λ (i : Import). i.type_index) m.imports) (type_indices m.functions), length-map m.imports (λ (i : Import). i.type_index)) in
    subst (λ (m : Module). length m.imports < 2 ^ 32) (sym c.module.ensures.module) few

pub returns-clause-linked : goal.returns-clause-linked
returns-clause-linked c = subst (λ (m : Module). IfOk c.rows_of.result (λ _. Linked host_rows m)) c.module.ensures.module c.rows_of.ensures.linked

pub returns-clause-rows : goal.returns-clause-rows
returns-clause-rows c = subst (λ (m : Module). IfOk c.rows_of.result (λ rows. HasRows m (rows_of rows.items))) c.module.ensures.module c.rows_of.ensures.rows

pub returns-clause-unlinked : goal.returns-clause-unlinked
returns-clause-unlinked c = subst (λ (m : Module). IfErr c.rows_of.result (ReportsUnlinked m)) c.module.ensures.module c.rows_of.ensures.unlinked
