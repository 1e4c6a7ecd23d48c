use Rattle.std.proofs.Common.{◌≡◌, ℕ, ◌<◌, Some, length, get_or, map, take, arith, sym, ap, ◌∙◌, subst}
use Rattle.std.proofs.Math.Seq.{take-length}
use Rattle.std.specs.Prelude.{option_map}
use Rattle.host_interface.specs.Rows.{host_rows, row_of, rows_of}
use Rattle.module_spec.specs.Linking.{import_row}
use Rattle.module_loader.specs.Results.{ReportsUnlinked}
use Rattle.module_loader.proofs.Imports.{all_linked, first_unlinked, rows_more}
use Rattle.module_loader.proofs.loading.rows_of.Goals as goal

pub returns-in-None-clause-unlinked : goal.returns-in-None-clause-unlinked
returns-in-None-clause-unlinked c =
    let m = c.args.module.now in
    let i = c.import-item.result in
    let k = c.loop-index.index in
    let here : i ≡ get_or m.imports k i = subst (λ is. i ≡ get_or is k i) c.as_slice-import-items.ensures c.import-item.is in
    let lt : k < length m.imports = subst (λ is. k < length is) c.as_slice-import-items.ensures c.loop-index-test.true in
    subst (ReportsUnlinked m) (sym c.unlinked.ensures) (first_unlinked m k i (rows_of c.loop-index.rows.items) lt here (sym c.host_row.ensures ∙ ap (option_map row_of) c.in-None.is) c.loop-index.invariant)

pub loop-index-preserved : goal.loop-index-preserved
loop-index-preserved c =
    let m = c.args.module.now in
    let i = c.import-item.result in
    let k = c.loop-index.index in
    let rows = c.loop-index.rows.items in
    let here : i ≡ get_or m.imports k i = subst (λ is. i ≡ get_or is k i) c.as_slice-import-items.ensures c.import-item.is in
    let lt : k < length m.imports = subst (λ is. k < length is) c.as_slice-import-items.ensures c.loop-index-test.true in
    rows_more (import_row host_rows m) row_of m.imports rows k i c.in-Some.row lt here (sym c.host_row.ensures ∙ ap (option_map row_of) c.in-Some.is) c.loop-index.invariant
    ∙ ap (λ rows. map Some (rows_of rows)) (sym c.in_ok-push-in-Some.ensures.items)

pub returns-clause-linked : goal.returns-clause-linked
returns-clause-linked c =
    let m = c.args.module.now in
    let k = c.loop-index.index in
    let all : take k m.imports ≡ m.imports = ap (λ (n : ℕ). take n m.imports) (omega (arith, c.loop-index-test.false, c.loop-index.auto.index-end, ap length c.as_slice-import-items.ensures)) ∙ take-length m.imports in
    all_linked m m.imports (rows_of c.loop-index.rows.items) (ap (map (import_row host_rows m)) (sym all) ∙ c.loop-index.invariant)

pub returns-clause-rows : goal.returns-clause-rows
returns-clause-rows c =
    let m = c.args.module.now in
    let k = c.loop-index.index in
    let all : take k m.imports ≡ m.imports = ap (λ (n : ℕ). take n m.imports) (omega (arith, c.loop-index-test.false, c.loop-index.auto.index-end, ap length c.as_slice-import-items.ensures)) ∙ take-length m.imports in
    ap (map (import_row host_rows m)) (sym all) ∙ c.loop-index.invariant
