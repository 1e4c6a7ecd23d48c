use Rattle.std.proofs.Common.{◌≡◌, ◌<◌, List, length, sym, ap, ◌∙◌, subst, arith, true, false, vec_capacity}
use Rattle.auth_trees.specs.declared.records.Record.{Record}
use Rattle.auth_spec.specs.Pairs.{Pair}
use Rattle.auth_spec.specs.Demands.{Marked, may_authorise, is_caller, demand, after_demand}
use Rattle.auth_trees.specs.Listed.{spots}
use Rattle.auth_trees.specs.Ready.{IsCurrent}
use Rattle.auth_trees.specs.Kept.{marked}
use Rattle.auth_trees.proofs.Keeping.{nodes_within, entries_within, searched, hit_of, none_of, has_room, IsTaken, kept_more, hit_within, pairs_more, none_meets, node_meets, view_marked}
use Rattle.auth_trees.proofs.marks.Marks.demand.Goals as goal

pub mark-requires-clause-nodes : goal.mark-requires-clause-nodes
mark-requires-clause-nodes c =
    nodes_within c.self.inside.tables c.self.inside.records.items c.as_slice.result.now c.self.invariant.ready c.self.invariant.fits c.as_slice.ensures.value

pub mark-requires-clause-entries : goal.mark-requires-clause-entries
mark-requires-clause-entries c =
    entries_within c.self.inside.tables c.self.inside.records.items c.as_slice.result.now c.self.invariant.ready c.self.invariant.fits c.as_slice.ensures.value

pub find-requires-clause-within : goal.find-requires-clause-within
find-requires-clause-within c =
    let s = searched c.self.inside.tables c.mark.new.tables c.self.inside.source c.self.inside.records.items c.as_slice.result.now _ c.args.path.now c.args.address c.args.function.now c.self.invariant
    c.mark.ensures.ready c.mark.ensures.marked c.mark.ensures.path c.as_slice.ensures.value c.mark.ensures.entries c.mark.ensures.addresses c.mark.ensures.nodes in
    s.within

pub add-requires-clause-room : goal.add-requires-clause-room
add-requires-clause-room c =
    let s = searched c.self.inside.tables c.mark.new.tables c.self.inside.source c.self.inside.records.items c.as_slice.result.now _ c.args.path.now c.args.address c.args.function.now c.self.invariant
    c.mark.ensures.ready c.mark.ensures.marked c.mark.ensures.path c.as_slice.ensures.value c.mark.ensures.entries c.mark.ensures.addresses c.mark.ensures.nodes in
    let h = hit_of (spots c.mark.new.tables.entries.now) c.self.inside.records.items _ c.in-Some.found _ (sym c.find.ensures ∙ c.in-Some.is) s.finds in
    let room : length c.self.inside.records.items < vec_capacity c.self.inside.records = has_room c.mark.new.tables c.self.inside.source c.self.inside.records.items _ c.in-Some.found _ s.kept h in
    omega (arith, room, c.self.inside.records.ok)

pub mark-requires-clause-current : goal.mark-requires-clause-current
mark-requires-clause-current c = subst (λ (rs : List Record). IsCurrent rs c.self.inside.tables) (sym c.as_slice.ensures.value) c.self.invariant.current

pub find-requires-clause-none : goal.find-requires-clause-none
find-requires-clause-none c = c.mark.ensures.marked.none

pub take-requires-clause-entry : goal.take-requires-clause-entry
take-requires-clause-entry c =
    let s = searched c.self.inside.tables c.mark.new.tables c.self.inside.source c.self.inside.records.items c.as_slice.result.now _ c.args.path.now c.args.address c.args.function.now c.self.invariant
    c.mark.ensures.ready c.mark.ensures.marked c.mark.ensures.path c.as_slice.ensures.value c.mark.ensures.entries c.mark.ensures.addresses c.mark.ensures.nodes in
    let h = hit_of (spots c.mark.new.tables.entries.now) c.self.inside.records.items _ c.in-Some.found _ (sym c.find.ensures ∙ c.in-Some.is) s.finds in
    let w = hit_within c.mark.new.tables c.self.inside.records.items c.in-Some.found _ c.mark.ensures.ready h in
    w.0

pub take-requires-clause-node : goal.take-requires-clause-node
take-requires-clause-node c =
    let s = searched c.self.inside.tables c.mark.new.tables c.self.inside.source c.self.inside.records.items c.as_slice.result.now _ c.args.path.now c.args.address c.args.function.now c.self.invariant
    c.mark.ensures.ready c.mark.ensures.marked c.mark.ensures.path c.as_slice.ensures.value c.mark.ensures.entries c.mark.ensures.addresses c.mark.ensures.nodes in
    let h = hit_of (spots c.mark.new.tables.entries.now) c.self.inside.records.items _ c.in-Some.found _ (sym c.find.ensures ∙ c.in-Some.is) s.finds in
    let w = hit_within c.mark.new.tables c.self.inside.records.items c.in-Some.found _ c.mark.ensures.ready h in
    w.1

pub invariant_of-self-in-Some : goal.invariant_of-self-in-Some
invariant_of-self-in-Some c =
    let s = searched c.self.inside.tables c.mark.new.tables c.self.inside.source c.self.inside.records.items c.as_slice.result.now _ c.args.path.now c.args.address c.args.function.now c.self.invariant
    c.mark.ensures.ready c.mark.ensures.marked c.mark.ensures.path c.as_slice.ensures.value c.mark.ensures.entries c.mark.ensures.addresses c.mark.ensures.nodes in
    let h = hit_of (spots c.mark.new.tables.entries.now) c.self.inside.records.items _ c.in-Some.found _ (sym c.find.ensures ∙ c.in-Some.is) s.finds in
    let y : IsTaken c.mark.new.tables c.take.new.tables c.in-Some.found = record {
      taken = c.take.ensures.taken;
      used = c.take.ensures.used;
      deepest = c.take.ensures.deepest;
      any = c.take.ensures.any;
      path = c.take.ensures.path;
      entries = c.take.ensures.entries;
      addresses = c.take.ensures.addresses;
      nodes = c.take.ensures.nodes;
    } in
    kept_more c.mark.new.tables c.take.new.tables c.self.inside.source c.self.inside.records.items c.add.new.records.items _ _ c.in-Some.found c.args.path.now _ s.kept s.marks
    c.mark.ensures.path y h c.add.ensures.items c.add.ensures.capacity

pub returns-in-None-clause-answer : goal.returns-in-None-clause-answer
returns-in-None-clause-answer c =
    let s = searched c.self.inside.tables c.mark.new.tables c.self.inside.source c.self.inside.records.items c.as_slice.result.now _ c.args.path.now c.args.address c.args.function.now c.self.invariant
    c.mark.ensures.ready c.mark.ensures.marked c.mark.ensures.path c.as_slice.ensures.value c.mark.ensures.entries c.mark.ensures.addresses c.mark.ensures.nodes in
    let may : may_authorise c.args.address ≡ true = sym c.may_authorise.ensures ∙ c.if-not-may_authorise.false in
    let other : is_caller c.args.address c.args.caller ≡ false = sym c.is_caller.ensures ∙ c.if-is_caller.false in
    let view : marked c.mark.new.tables c.self.inside.source c.self.inside.records.items ≡ c.args.self.now =
    view_marked c.self.inside.tables c.mark.new.tables c.self.inside.source c.self.inside.records.items c.mark.ensures.entries ∙ c.self.view_is in
    let none = none_of (spots c.mark.new.tables.entries.now) c.self.inside.records.items _ _ (sym c.find.ensures ∙ c.in-None.is) s.finds in
    let met = none_meets (marked c.mark.new.tables c.self.inside.source c.self.inside.records.items) c.args.path.now c.args.caller c.args.address c.args.function.now may other none in
    met.0 ∙ ap (λ (m : Marked). demand m c.args.path.now c.args.caller c.args.address c.args.function.now) view

pub returns-in-None-clause-pairs : goal.returns-in-None-clause-pairs
returns-in-None-clause-pairs c =
    let s = searched c.self.inside.tables c.mark.new.tables c.self.inside.source c.self.inside.records.items c.as_slice.result.now _ c.args.path.now c.args.address c.args.function.now c.self.invariant
    c.mark.ensures.ready c.mark.ensures.marked c.mark.ensures.path c.as_slice.ensures.value c.mark.ensures.entries c.mark.ensures.addresses c.mark.ensures.nodes in
    let may : may_authorise c.args.address ≡ true = sym c.may_authorise.ensures ∙ c.if-not-may_authorise.false in
    let other : is_caller c.args.address c.args.caller ≡ false = sym c.is_caller.ensures ∙ c.if-is_caller.false in
    let view : marked c.mark.new.tables c.self.inside.source c.self.inside.records.items ≡ c.args.self.now =
    view_marked c.self.inside.tables c.mark.new.tables c.self.inside.source c.self.inside.records.items c.mark.ensures.entries ∙ c.self.view_is in
    let none = none_of (spots c.mark.new.tables.entries.now) c.self.inside.records.items _ _ (sym c.find.ensures ∙ c.in-None.is) s.finds in
    let met = none_meets (marked c.mark.new.tables c.self.inside.source c.self.inside.records.items) c.args.path.now c.args.caller c.args.address c.args.function.now may other none in
    met.1 ∙ ap (λ (m : Marked). after_demand m c.args.path.now c.args.caller c.args.address c.args.function.now) view

pub returns-in-Some-clause-answer : goal.returns-in-Some-clause-answer
returns-in-Some-clause-answer c =
    let s = searched c.self.inside.tables c.mark.new.tables c.self.inside.source c.self.inside.records.items c.as_slice.result.now _ c.args.path.now c.args.address c.args.function.now c.self.invariant
    c.mark.ensures.ready c.mark.ensures.marked c.mark.ensures.path c.as_slice.ensures.value c.mark.ensures.entries c.mark.ensures.addresses c.mark.ensures.nodes in
    let h = hit_of (spots c.mark.new.tables.entries.now) c.self.inside.records.items _ c.in-Some.found _ (sym c.find.ensures ∙ c.in-Some.is) s.finds in
    let may : may_authorise c.args.address ≡ true = sym c.may_authorise.ensures ∙ c.if-not-may_authorise.false in
    let other : is_caller c.args.address c.args.caller ≡ false = sym c.is_caller.ensures ∙ c.if-is_caller.false in
    let view : marked c.mark.new.tables c.self.inside.source c.self.inside.records.items ≡ c.args.self.now =
    view_marked c.self.inside.tables c.mark.new.tables c.self.inside.source c.self.inside.records.items c.mark.ensures.entries ∙ c.self.view_is in
    let met = node_meets (marked c.mark.new.tables c.self.inside.source c.self.inside.records.items) c.args.path.now c.args.caller c.args.address c.args.function.now (spots c.mark.new.tables.entries.now)
    c.self.inside.records.items c.in-Some.found may other h in
    met.0 ∙ ap (λ (m : Marked). demand m c.args.path.now c.args.caller c.args.address c.args.function.now) view

pub returns-in-Some-clause-pairs : goal.returns-in-Some-clause-pairs
returns-in-Some-clause-pairs c =
    let s = searched c.self.inside.tables c.mark.new.tables c.self.inside.source c.self.inside.records.items c.as_slice.result.now _ c.args.path.now c.args.address c.args.function.now c.self.invariant
    c.mark.ensures.ready c.mark.ensures.marked c.mark.ensures.path c.as_slice.ensures.value c.mark.ensures.entries c.mark.ensures.addresses c.mark.ensures.nodes in
    let h = hit_of (spots c.mark.new.tables.entries.now) c.self.inside.records.items _ c.in-Some.found _ (sym c.find.ensures ∙ c.in-Some.is) s.finds in
    let may : may_authorise c.args.address ≡ true = sym c.may_authorise.ensures ∙ c.if-not-may_authorise.false in
    let other : is_caller c.args.address c.args.caller ≡ false = sym c.is_caller.ensures ∙ c.if-is_caller.false in
    let view : marked c.mark.new.tables c.self.inside.source c.self.inside.records.items ≡ c.args.self.now =
    view_marked c.self.inside.tables c.mark.new.tables c.self.inside.source c.self.inside.records.items c.mark.ensures.entries ∙ c.self.view_is in
    let met = node_meets (marked c.mark.new.tables c.self.inside.source c.self.inside.records.items) c.args.path.now c.args.caller c.args.address c.args.function.now (spots c.mark.new.tables.entries.now)
    c.self.inside.records.items c.in-Some.found may other h in
    view_marked c.mark.new.tables c.take.new.tables c.self.inside.source c.add.new.records.items c.take.ensures.entries
    ∙ ap (λ (rs : List Record). marked c.mark.new.tables c.self.inside.source rs) c.add.ensures.items
    ∙ ap (λ (ps : List Pair). record { entries = c.mark.new.tables.entries.now; source = c.self.inside.source; pairs = ps })
    (pairs_more c.mark.new.tables.entries.now c.self.inside.records.items c.in-Some.found c.args.path.now _ h)
    ∙ met.1 ∙ ap (λ (m : Marked). after_demand m c.args.path.now c.args.caller c.args.address c.args.function.now) view
