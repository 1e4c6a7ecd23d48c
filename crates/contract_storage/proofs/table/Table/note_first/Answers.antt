use Rattle.std.proofs.Common.{◌≡◌, ◌+◌, ◌<◌, ◌^◌, List, [], ◌∷◌, ◌++◌, length, None, ap, ◌∙◌, arith}
use Rattle.contract_storage.specs.Listed.{Listed, keys_in}
use Rattle.contract_storage.specs.Places.{place_in}
use Rattle.contract_storage.specs.Touched.{touch, index_in}
use Rattle.contract_storage.specs.declared.touched.Touch.{Touch}
use Rattle.contract_storage.proofs.Tabling.{mark_index, noted_first, pushed_is}
use Rattle.contract_storage.proofs.table.Table.note_first.Goals as goal

pub index_mut-requires : goal.index_mut-requires
index_mut-requires g c =
    omega (
      arith,
      mark_index c.self.inside.slots.items c.self.inside.marks.items c.args.spot.key.now c.args.spot.at c.self.invariant.each
          (ap (λ (t : Listed). place_in c.args.spot.key.now t.keys) c.self.view_is ∙ c.requires.spot.place),
      c.self.inside.marks.ok.0,
    )

pub invariant_of-self-2 : goal.invariant_of-self-2
invariant_of-self-2 g c =
    let ts = c.self.inside.touches.items in
    let k = c.args.spot.key.now in
    let first : index_in k ts ≡ None = ap (λ (t : Listed). index_in k t.touches) c.self.view_is ∙ c.requires.first in
    let count : c.len-index.result ≡ length ts = omega (arith, c.len-index.ensures, c.in_ok-reserve.ensures.len) in
    let few : length ts + 1 < 2 ^ 32 = omega (arith, c.len.ensures) in
    noted_first _ c.self.inside.index.entries c.self.inside.slots.items c.self.inside.marks.items ts c.self.invariant c.args.access k c.in_ok-key.key c.args.spot.at c.len-index.result _ c.requires.spot.fits
    (ap (λ (t : Listed). place_in k t.keys) c.self.view_is ∙ c.requires.spot.place) first few count c.in_ok-key.ensures.cases
    (c.in_ok-push.ensures.items ∙ ap (λ (xs : List Touch). xs ++ record { key = c.in_ok-key.key; access = c.args.access } ∷ []) c.in_ok-reserve.ensures.items)

pub returns-clause-ok : goal.returns-clause-ok
returns-clause-ok g c =
    let ts = c.self.inside.touches.items in
    let k = c.args.spot.key.now in
    let first : index_in k ts ≡ None = ap (λ (t : Listed). index_in k t.touches) c.self.view_is ∙ c.requires.first in
    ap (λ (xs : List Touch). record { base = g.G.Ground.map c.self.inside.base.now; keys = keys_in c.self.inside.slots.items; touches = xs })
    (pushed_is c.args.access k c.in_ok-key.key ts _ first c.in_ok-key.ensures.cases
    (c.in_ok-push.ensures.items ∙ ap (λ (xs : List Touch). xs ++ record { key = c.in_ok-key.key; access = c.args.access } ∷ []) c.in_ok-reserve.ensures.items))
    ∙ ap (λ (t : Listed). record t { touches = touch c.args.access k t.touches }) c.self.view_is
