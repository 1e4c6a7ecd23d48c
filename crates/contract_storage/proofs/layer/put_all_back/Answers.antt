use Rattle.std.proofs.Common.{◌∙◌}
use Rattle.contract_storage.specs.declared.layer.Undo.{Undo}
use Rattle.contract_storage.proofs.Undoing.{put_back_one, put_back_within, still_within}
use Rattle.contract_storage.proofs.layer.put_all_back.Goals as goal

pub put_back-requires : goal.put_back-requires
put_back-requires c =
    let u : Undo = record { at = c.in-Some.at; before = c.in-Some.before } in
    (put_back_within c.loop-at.states.items c.loop-at.saved.entries _ u c.in-Some.ensures.removal c.loop-at.invariant.1).1

pub loop-at-preserved : goal.loop-at-preserved
loop-at-preserved c =
    let u : Undo = record { at = c.in-Some.at; before = c.in-Some.before } in
    let x = c.loop-at.states.items in
    let s = c.loop-at.saved.entries in (
      put_back_one x _ s _ u c.in-Some.ensures.removal c.put_back.ensures ∙ c.loop-at.invariant.0,
      still_within x _ _ u c.put_back.ensures (put_back_within x s _ u c.in-Some.ensures.removal c.loop-at.invariant.1).0,
    )
