use Rattle.std.proofs.Common.{◌≡◌, List, Some, ap, sym, ◌∙◌, arith}
use Rattle.contract_storage.specs.Listed.{Listed, keys_in}
use Rattle.contract_storage.specs.Touched.{touch, access_in, index_in}
use Rattle.contract_storage.specs.declared.touched.Touch.{Touch}
use Rattle.contract_storage.proofs.Tabling.{noted_again}
use Rattle.contract_storage.proofs.Touching.{access_at, no_access, touch_at, within}
use Rattle.contract_storage.proofs.table.Table.note.Goals as goal

pub index-requires : goal.index-requires
index-requires g c =
    let k = c.args.spot.key.now in
    let at : index_in k c.self.inside.touches.items ≡ Some c.in-Some.i = ap (λ (t : Listed). index_in k t.touches) c.self.view_is ∙ sym c.in-Some.ensures in
    omega (arith, within k c.self.inside.touches.items c.in-Some.i at, c.self.inside.touches.ok.0)

pub index_mut-requires : goal.index_mut-requires
index_mut-requires g c =
    let k = c.args.spot.key.now in
    let at : index_in k c.self.inside.touches.items ≡ Some c.in-Some.i = ap (λ (t : Listed). index_in k t.touches) c.self.view_is ∙ sym c.in-Some.ensures in
    omega (arith, within k c.self.inside.touches.items c.in-Some.i at, c.self.inside.touches.ok.0)

pub invariant_of-self : goal.invariant_of-self
invariant_of-self g c =
    let k = c.args.spot.key.now in
    let at : index_in k c.self.inside.touches.items ≡ Some c.in-Some.i = ap (λ (t : Listed). index_in k t.touches) c.self.view_is ∙ sym c.in-Some.ensures in
    noted_again _ c.self.inside.index.entries c.self.inside.slots.items c.self.inside.marks.items c.self.inside.touches.items c.self.invariant c.args.access k c.in-Some.i c.index_mut.result.now
    c.index.result.now c.stronger.result c.requires.fits at c.index_mut.ensures.value c.index.ensures c.stronger.ensures

pub returns-in-Some-clause-ok : goal.returns-in-Some-clause-ok
returns-in-Some-clause-ok g c =
    let k = c.args.spot.key.now in
    let at : index_in k c.self.inside.touches.items ≡ Some c.in-Some.i = ap (λ (t : Listed). index_in k t.touches) c.self.view_is ∙ sym c.in-Some.ensures in
    ap (λ (ts : List Touch). record { base = g.G.Ground.map c.self.inside.base.now; keys = keys_in c.self.inside.slots.items; touches = ts })
    (touch_at c.args.access k c.self.inside.touches.items c.in-Some.i c.index_mut.result.now c.index.result.now c.stronger.result at c.index_mut.ensures.value c.index.ensures c.stronger.ensures)
    ∙ ap (λ (t : Listed). record t { touches = touch c.args.access k t.touches }) c.self.view_is

pub returns-in-Some-clause-noted : goal.returns-in-Some-clause-noted
returns-in-Some-clause-noted g c =
    let k = c.args.spot.key.now in
    let at : index_in k c.self.inside.touches.items ≡ Some c.in-Some.i = ap (λ (t : Listed). index_in k t.touches) c.self.view_is ∙ sym c.in-Some.ensures in
    ap (λ (t : Listed). access_in k t.touches) (sym c.self.view_is) ∙ access_at k c.self.inside.touches.items c.in-Some.i c.index.result.now at c.index.ensures

pub returns-in_ok-note_first-in-None-clause-noted : goal.returns-in_ok-note_first-in-None-clause-noted
returns-in_ok-note_first-in-None-clause-noted g c = no_access c.args.spot.key.now c.args.self.now.touches (sym c.in-None.ensures)
