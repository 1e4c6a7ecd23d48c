use Rattle.std.proofs.Common.{◌<◌, length, refl, sym, ap, ◌∙◌, arith, false, None}
use Rattle.std.proofs.lemmas.List.{get_or_read}
use Rattle.auth_trees.proofs.Walking.{have_roots, next_root, size_is, test_is, no_root}
use Rattle.auth_trees.proofs.search.find_root.Goals as goal

pub loop-entry-init : goal.loop-entry-init
loop-entry-init c = record { row = have_roots c.args.tables.now c.requires; same = refl }

pub returns-then-is_open_root : goal.returns-then-is_open_root
returns-then-is_open_root c =
    let t = c.args.tables.now in
    let n = next_root t.nodes.items t.used.items t.addresses.items c.args.address c.args.function.now c.loop-entry.entry c.loop-entry.id t.entries.now c.item-item.result _ c.loop-entry-test.true c.item-item.is c.loop-entry.invariant.row c.loop-entry.invariant.same in
    let lt : c.loop-entry.entry < length t.used.items = omega (arith, c.requires.used) in
    let la : c.loop-entry.entry < length t.addresses.items = omega (arith, c.requires.addresses) in
    n.found (sym (c.is_open_root.ensures ∙ test_is _ _ _ _ _ _ (get_or_read t.used.items c.loop-entry.entry c.index-used.result.now lt c.index-used.ensures false) (get_or_read t.addresses.items c.loop-entry.entry c.index-known.result.now la c.index-known.ensures None)) ∙ c.if-is_open_root.true)

pub overflow_add-id : goal.overflow_add-id
overflow_add-id c =
    let t = c.args.tables.now in
    let n = next_root t.nodes.items t.used.items t.addresses.items c.args.address c.args.function.now c.loop-entry.entry c.loop-entry.id t.entries.now c.item-item.result _ c.loop-entry-test.true c.item-item.is c.loop-entry.invariant.row c.loop-entry.invariant.same in
    omega (arith, ap (λ m. m.size) c.index.ensures, size_is t.nodes.items c.loop-entry.id c.index.result.now _ n.here c.index.ensures, n.fits, t.nodes.ok, t.nodes.small)

pub loop-entry-preserved : goal.loop-entry-preserved
loop-entry-preserved c =
    let t = c.args.tables.now in
    let n = next_root t.nodes.items t.used.items t.addresses.items c.args.address c.args.function.now c.loop-entry.entry c.loop-entry.id t.entries.now c.item-item.result _ c.loop-entry-test.true c.item-item.is c.loop-entry.invariant.row c.loop-entry.invariant.same in
    let lt : c.loop-entry.entry < length t.used.items = omega (arith, c.requires.used) in
    let la : c.loop-entry.entry < length t.addresses.items = omega (arith, c.requires.addresses) in
    let s = ap (λ m. m.size) c.index.ensures ∙ size_is t.nodes.items c.loop-entry.id c.index.result.now _ n.here c.index.ensures in
    rw s (record {
      row = n.row;
      same = n.passed (sym (c.is_open_root.ensures ∙ test_is _ _ _ _ _ _ (get_or_read t.used.items c.loop-entry.entry c.index-used.result.now lt c.index-used.ensures false) (get_or_read t.addresses.items c.loop-entry.entry c.index-known.result.now la c.index-known.ensures None)) ∙ c.if-is_open_root.false);
    })

pub returns : goal.returns
returns c =
    let t = c.args.tables.now in
    no_root t.used.items t.addresses.items c.args.address c.args.function.now c.loop-entry.entry c.loop-entry.id t.entries.now _ (omega arith) c.loop-entry.invariant.same
