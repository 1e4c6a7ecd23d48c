use Rattle.std.proofs.Common.{◌≡◌, ℕ, Bool, ◌-◌, ◌∙◌, length, take, List, Some, None, ap, sym, subst, rules, arith}
use Rattle.ledger_types.specs.declared.key.LedgerKey.{LedgerKey}
use Rattle.ledger_spec.specs.LedgerMap.{LedgerMap}
use Rattle.contract_storage.specs.Listed.{Listed, keys_in, WasNoted}
use Rattle.contract_storage.specs.Touched.{index_in}
use Rattle.contract_storage.specs.declared.touched.Noted.{Noted}
use Rattle.contract_storage.specs.declared.touched.Noted.TheVariants.{Again, First}
use Rattle.contract_storage.specs.declared.touched.Touch.{Touch}
use Rattle.contract_storage.proofs.Tabling.{mark_index, mark_read, taken_again, taken_first}
use Rattle.contract_storage.proofs.Touching.{again_as, has_been, last_touch, no_index, within}
use Rattle.contract_storage.proofs.table.Table.take_back.Goals as goal

-- the note in the terms of the fields
inside : (keys : List (LedgerKey × Bool)) (ts before : List Touch) (value : Listed) (base : LedgerMap) (at : ℕ) (noted n : Noted) → record { base = base; keys = keys; touches = ts } ≡ value → noted ≡ n
    → WasNoted value.keys at noted before value.touches → WasNoted keys at n before ts
inside keys ts before value base at noted n view is w =
    subst (λ (t : Listed). WasNoted t.keys at n before t.touches) (sym view) (subst (λ (x : Noted). WasNoted value.keys at x before value.touches) is w)

pub index_mut-requires : goal.index_mut-requires
index_mut-requires g c =
    let w = inside (keys_in c.self.inside.slots.items) c.self.inside.touches.items c.requires.0 c.args.self.now _ c.args.at c.args.noted First c.self.view_is c.in-First.is c.requires.1 in
    omega (
      arith,
      mark_index c.self.inside.slots.items c.self.inside.marks.items w.key c.args.at c.self.invariant.each w.at-place,
      c.self.inside.marks.ok.0,
    )

pub invariant_of-self : goal.invariant_of-self
invariant_of-self g c =
    let ts = c.self.inside.touches.items in
    let w = inside (keys_in c.self.inside.slots.items) ts c.requires.0 c.args.self.now _ c.args.at c.args.noted First c.self.view_is c.in-First.is c.requires.1 in
    let rest : c.pop.new.self.items ≡ take (length ts - 1) ts = search rules in
    taken_first _ c.self.inside.index.entries c.self.inside.slots.items c.self.inside.marks.items ts c.self.invariant c.args.at c.requires.0 c.pop.new.self.items w rest

pub returns-in-First : goal.returns-in-First
returns-in-First g c = λ before was.
    let ts = c.self.inside.touches.items in
    let w = inside (keys_in c.self.inside.slots.items) ts before c.args.self.now _ c.args.at c.args.noted First c.self.view_is c.in-First.is was in
    let rest : c.pop.new.self.items ≡ take (length ts - 1) ts = search rules in
    ap (λ (xs : List Touch). record { base = g.G.Ground.map c.self.inside.base.now; keys = keys_in c.self.inside.slots.items; touches = xs })
    (last_touch w.access w.key before ts c.pop.new.self.items (no_index w.key before w.noted) w.is rest)
    ∙ ap (λ (t : Listed). record t { touches = before }) c.self.view_is

pub index-requires : goal.index-requires
index-requires g c =
    let w = inside (keys_in c.self.inside.slots.items) c.self.inside.touches.items c.requires.0 c.args.self.now _ c.args.at c.args.noted (Again c.in-Again.before) c.self.view_is c.in-Again.is c.requires.1 in
    omega (
      arith,
      mark_index c.self.inside.slots.items c.self.inside.marks.items w.key c.args.at c.self.invariant.each w.at-place,
      c.self.inside.marks.ok.0,
    )

pub index_mut-requires-in-Some : goal.index_mut-requires-in-Some
index_mut-requires-in-Some g c =
    let slots = c.self.inside.slots.items in
    let marks = c.self.inside.marks.items in
    let ts = c.self.inside.touches.items in
    let w = inside (keys_in slots) ts c.requires.0 c.args.self.now _ c.args.at c.args.noted (Again c.in-Again.before) c.self.view_is c.in-Again.is c.requires.1 in
    let at : index_in w.key ts ≡ Some c.in-Some.i =
    sym (mark_read slots marks ts w.key c.args.at c.index.result.now c.self.invariant.each c.self.invariant.marked w.fits w.at-place c.index.ensures) ∙ c.in-Some.is in
    omega (arith, within w.key ts c.in-Some.i at, c.self.inside.touches.ok.0)

pub invariant_of-self-in-Some : goal.invariant_of-self-in-Some
invariant_of-self-in-Some g c =
    let slots = c.self.inside.slots.items in
    let marks = c.self.inside.marks.items in
    let ts = c.self.inside.touches.items in
    let w = inside (keys_in slots) ts c.requires.0 c.args.self.now _ c.args.at c.args.noted (Again c.in-Again.before) c.self.view_is c.in-Again.is c.requires.1 in
    let at : index_in w.key ts ≡ Some c.in-Some.i =
    sym (mark_read slots marks ts w.key c.args.at c.index.result.now c.self.invariant.each c.self.invariant.marked w.fits w.at-place c.index.ensures) ∙ c.in-Some.is in
    taken_again _ c.self.inside.index.entries slots marks ts c.self.invariant c.args.at c.in-Some.i c.in-Again.before c.requires.0 c.index_mut-in-Some.result.now w at c.index_mut-in-Some.ensures.value

pub returns-in-Some : goal.returns-in-Some
returns-in-Some g c = λ before was.
    let slots = c.self.inside.slots.items in
    let marks = c.self.inside.marks.items in
    let ts = c.self.inside.touches.items in
    let w = inside (keys_in slots) ts before c.args.self.now _ c.args.at c.args.noted (Again c.in-Again.before) c.self.view_is c.in-Again.is was in
    let at : index_in w.key ts ≡ Some c.in-Some.i =
    sym (mark_read slots marks ts w.key c.args.at c.index.result.now c.self.invariant.each c.self.invariant.marked w.fits w.at-place c.index.ensures) ∙ c.in-Some.is in
    ap (λ (xs : List Touch). record { base = g.G.Ground.map c.self.inside.base.now; keys = keys_in slots; touches = xs })
    (again_as w.access c.in-Again.before w.key before ts w.is w.noted c.in-Some.i c.index_mut-in-Some.result.now at c.index_mut-in-Some.ensures.value)
    ∙ ap (λ (t : Listed). record t { touches = before }) c.self.view_is

pub returns-in_default : goal.returns-in_default
returns-in_default g c = λ before was.
    let slots = c.self.inside.slots.items in
    let marks = c.self.inside.marks.items in
    let ts = c.self.inside.touches.items in
    let w = inside (keys_in slots) ts before c.args.self.now _ c.args.at c.args.noted (Again c.in-Again.before) c.self.view_is c.in-Again.is was in
    let nothing : c.index.result.now ≡ None = search rules in
    let none : index_in w.key ts ≡ None =
    sym (mark_read slots marks ts w.key c.args.at c.index.result.now c.self.invariant.each c.self.invariant.marked w.fits w.at-place c.index.ensures) ∙ nothing in
    absurd (has_been w.access c.in-Again.before w.key before ts w.is w.noted none)
