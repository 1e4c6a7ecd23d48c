use Rattle.std.proofs.Common.{sym, ap, ap₂, ◌∙◌, List, ℕ}
use Rattle.std.specs.List.{find}
use Rattle.host_interface.specs.Named.{is_named}
use Rattle.host_interface.specs.Rows.{host_rows}
use Rattle.module_spec.specs.Linking.{with_type}
use Rattle.wasm_check.proofs.LinkLaws.{host_by_name}
use Rattle.wasm_check.proofs.linking.find_row.Goals as goal

pub returns : goal.returns
returns c =
    let i = c.args.import.now in
    let t = c.args.func_type.now in
    c.with_type.ensures ∙ ap (λ o. with_type o t) c.row_named.ensures
    ∙ ap₂ (λ (m n : List ℕ). with_type (find (is_named m n) host_rows) t) c.as_slice.ensures c.as_slice-2.ensures
    ∙ sym (host_by_name i t)
