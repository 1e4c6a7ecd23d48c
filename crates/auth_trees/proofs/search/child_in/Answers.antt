use Rattle.std.proofs.Common.{◌<◌, length, ap, ap₂, sym, ◌∙◌, subst, map, List, Bool, None, Some, false, arith}
use Rattle.std.specs.Option.{option_map}
use Rattle.std.proofs.lemmas.List.{get_or_read}
use Rattle.auth_trees.specs.declared.nodes.Node.{Node}
use Rattle.auth_trees.specs.Listed.{kept}
use Rattle.auth_trees.specs.Flat.{open_below}
use Rattle.auth_trees.specs.Ready.{HaveChildren}
use Rattle.auth_trees.proofs.Walking.{have_children, unknown, known_in, no_deepest}
use Rattle.auth_trees.proofs.search.child_in.Goals as goal

pub returns-then-not-is_known : goal.returns-then-not-is_known
returns-then-not-is_known c = unknown _ _ _ _ _ _ _ (sym c.is_known.ensures ∙ c.if-not-is_known.true)

pub returns-in-None : goal.returns-in-None
returns-in-None c =
    let t = c.args.tables.now in
    let lt : c.args.entry < length t.deepest.items = omega (arith, c.requires.entry, c.requires.ready.deepest) in
    sym (no_deepest (map kept t.nodes.items) t.taken.items t.deepest.items c.args.address c.args.function.now c.args.entry c.args.known
    (sym (get_or_read t.deepest.items c.args.entry c.index.result.now lt c.index.ensures None) ∙ c.in-None.is))

pub open_below-requires-clause-rows : goal.open_below-requires-clause-rows
open_below-requires-clause-rows c =
    subst (λ (xs : List Node). HaveChildren (map kept xs)) (sym c.as_slice.ensures.value) (have_children c.args.tables.now c.requires.ready)

pub open_below-requires-clause-within : goal.open_below-requires-clause-within
open_below-requires-clause-within c =
    let t = c.args.tables.now in
    let lt : c.args.entry < length t.deepest.items = omega (arith, c.requires.entry, c.requires.ready.deepest) in
    let within : c.in-Some.best.node < length t.nodes.items = c.requires.within c.args.entry c.in-Some.best (sym (get_or_read t.deepest.items c.args.entry c.index.result.now lt c.index.ensures None) ∙ c.in-Some.is) in
    subst (λ (xs : List Node). c.in-Some.best.node < length xs) (sym c.as_slice.ensures.value) within

pub returns-else-not-is_known : goal.returns-else-not-is_known
returns-else-not-is_known c =
    let t = c.args.tables.now in
    let lt : c.args.entry < length t.deepest.items = omega (arith, c.requires.entry, c.requires.ready.deepest) in
    c.child_of.ensures ∙ ap (option_map (λ id. record { entry = c.args.entry; node = id; first = false }))
    (c.open_below.ensures ∙ ap₂ (λ (xs : List Node) (ys : List Bool). open_below (map kept xs) ys c.args.function.now c.in-Some.best) c.as_slice.ensures.value c.as_slice-in-Some.ensures.value)
    ∙ known_in (map kept t.nodes.items) t.taken.items t.deepest.items c.args.address c.args.function.now c.args.entry c.args.known (Some c.in-Some.best) (sym c.is_known.ensures ∙ c.if-not-is_known.false)
    (sym (get_or_read t.deepest.items c.args.entry c.index.result.now lt c.index.ensures None) ∙ c.in-Some.is)
