use Rattle.std.specs.Prelude.{if◌then◌else◌}
use Rattle.std.specs.Bool.{beq}
use Rattle.std.specs.BTreeSet.{insert_key}
use Rattle.std.proofs.Common.{ℕ, Bool, ap, subst, ◌∙◌, arith}
use Rattle.ledger_types.specs.KeyOrder.{key_cmp}
use Rattle.tx_steps.proofs.Chosen.{Fills, fills_none, fills_more, fills_all}
use Rattle.tx_steps.proofs.touched.keys_of.Goals as goal

pub loop-touch-init : goal.loop-touch-init
loop-touch-init c = fills_none c.args.written c.args.touches.now c.new-keys.result.keys c.new-keys.ensures.empty

pub loop-touch-preserved : goal.loop-touch-preserved
loop-touch-preserved c =
    let old = c.loop-touch.keys.keys in
    let put = c.in_ok-add_chosen.ensures ∙ ap (λ (b : Bool). if beq b c.args.written then insert_key key_cmp old c.touch-item.result.key else old) c.is_write.ensures in
    fills_more c.args.written c.args.touches.now c.loop-touch.touch-index c.touch-item.result old c.add_chosen.new.keys.keys c.loop-touch-test.true c.touch-item.is put c.loop-touch.invariant

pub returns : goal.returns
returns c =
    c.from_vec.ensures ∙ c.in_ok-in_order.ensures
    ∙ fills_all c.args.written c.args.touches.now c.loop-touch.keys.keys c.requires (subst (λ (i : ℕ). Fills c.args.written c.loop-touch.keys.keys i c.args.touches.now) (omega arith) c.loop-touch.invariant)
