use Rattle.std.proofs.Common.{◌∙◌, ap, arith}
use Rattle.contract_storage.specs.Listed.{Listed}
use Rattle.contract_storage.specs.Places.{place_in}
use Rattle.contract_storage.specs.Touched.{index_in}
use Rattle.contract_storage.proofs.Tabling.{mark_index, mark_read}
use Rattle.contract_storage.proofs.table.Table.mark.Goals as goal

pub index-requires : goal.index-requires
index-requires g c =
    omega (
      arith,
      mark_index c.self.inside.slots.items c.self.inside.marks.items c.args.spot.key.now c.args.spot.at c.self.invariant.each
          (ap (λ (t : Listed). place_in c.args.spot.key.now t.keys) c.self.view_is ∙ c.requires.place),
      c.self.inside.marks.ok.0,
    )

pub returns : goal.returns
returns g c =
    let k = c.args.spot.key.now in
    mark_read c.self.inside.slots.items c.self.inside.marks.items c.self.inside.touches.items k c.args.spot.at c.index.result.now c.self.invariant.each c.self.invariant.marked c.requires.fits
    (ap (λ (t : Listed). place_in k t.keys) c.self.view_is ∙ c.requires.place) c.index.ensures
    ∙ ap (λ (t : Listed). index_in k t.touches) c.self.view_is
