use Rattle.std.proofs.Common.{◌≡◌, ◌+◌, ◌<◌, ◌≤◌, map, ap, sym, subst, ◌∙◌, List, Option, None, get_or, length, arith}
use Rattle.value_types.specs.declared.address.ScAddress.{ScAddress}
use Rattle.auth_trees.specs.Listed.{kept}
use Rattle.auth_trees.specs.Flat.{child_in}
use Rattle.auth_trees.proofs.Walking.{first_here_at, first_later_at, first_none, no_child}
use Rattle.auth_trees.proofs.search.find_child.Goals as goal

pub returns-then-not-tables : goal.returns-then-not-tables
returns-then-not-tables c =
    let t = c.args.tables.now in
    sym (no_child (map kept t.nodes.items) t.taken.items t.deepest.items c.args.address c.args.function.now 0 t.addresses.items
    (λ k lt.
    let same : k ≡ 0 + k = omega arith in
    subst (λ n. get_or t.deepest.items n None ≡ None) same
    (c.requires.none c.if-not-tables.true k (omega (arith, lt, c.requires.ready.addresses, c.requires.ready.deepest)))))

pub loop-entry-preserved : goal.loop-entry-preserved
loop-entry-preserved c =
    let t = c.args.tables.now in
    let f = child_in (map kept t.nodes.items) t.taken.items t.deepest.items c.args.address c.args.function.now in
    let lt : c.loop-entry.entry < length t.addresses.items = omega (arith, ap length c.deref-known-items.ensures.value) in
    first_later_at f t.addresses.items c.loop-entry.entry None _ lt c.loop-entry.invariant
    (sym c.in-None.is ∙ c.child_in.ensures ∙ ap (λ (xs : List (Option ScAddress)). f c.loop-entry.entry (get_or xs c.loop-entry.entry None)) c.deref-known-items.ensures.value)

pub returns-in-Some : goal.returns-in-Some
returns-in-Some c =
    let t = c.args.tables.now in
    let f = child_in (map kept t.nodes.items) t.taken.items t.deepest.items c.args.address c.args.function.now in
    let lt : c.loop-entry.entry < length t.addresses.items = omega (arith, ap length c.deref-known-items.ensures.value) in
    first_here_at f t.addresses.items c.loop-entry.entry None c.in-Some.found _ lt c.loop-entry.invariant
    (sym c.in-Some.is ∙ c.child_in.ensures ∙ ap (λ (xs : List (Option ScAddress)). f c.loop-entry.entry (get_or xs c.loop-entry.entry None)) c.deref-known-items.ensures.value)

pub returns : goal.returns
returns c =
    let t = c.args.tables.now in
    let f = child_in (map kept t.nodes.items) t.taken.items t.deepest.items c.args.address c.args.function.now in
    let past : length t.addresses.items ≤ c.loop-entry.entry = omega (arith, ap length c.deref-known-items.ensures.value) in
    first_none f t.addresses.items c.loop-entry.entry _ past c.loop-entry.invariant
