use Rattle.std.proofs.Common.{◌≡◌, ◌≤◌, ℕ, length, arith}
use Rattle.value_types.specs.Views.{datum}
use Rattle.value_types.specs.Datum.{Datum}
use Rattle.value_types.specs.Depth.{depth_of}
use Rattle.object_store.specs.Shown.{shown_of}
use Rattle.host_spec.specs.Acts.{state}
use Rattle.host_spec.specs.Hosted.{size_of}
use Rattle.host_frame.proofs.Acting.{capped_small, capped_is, shown_too_large, shown_unpaid, shown_full, shown_good}
use Rattle.host_frame.proofs.answer.show_object.Goals.{then-size-gt16777216-via-then-size-gt16777216, then-size-gt16777216-via-else-size-gt16777216+then-depth-gt100}
use Rattle.host_frame.proofs.answer.show_object.Goals as goal

pub returns-then-size-gt16777216-clause-does : goal.returns-then-size-gt16777216-clause-does
returns-then-size-gt16777216-clause-does c memory = shown_too_large (datum c.args.value) _ (λ small shallow.
    elim c.then-size-gt16777216.branch as (λ _. ⊥) [
      | then-size-gt16777216-via-then-size-gt16777216 w ↦ absurd (omega (arith, capped_small (size_of (datum c.args.value)) small))
      | then-size-gt16777216-via-else-size-gt16777216+then-depth-gt100 w ↦ absurd (omega arith)
    ])

pub returns-in_err-charge-clause-does : goal.returns-in_err-charge-clause-does
returns-in_err-charge-clause-does c memory =
    let d : Datum = datum c.args.value in
    let is : c.measured-size.result ≡ size_of d = capped_is (size_of d) _ c.measured-size.ensures c.if-size-gt16777216.false in
    let shallow : depth_of d ≤ 100 = omega arith in
    shown_unpaid (λ (u : Unit {0}). u) (λ (n : ℕ). n) d (state (shown_of c.args.objects.now c.args.shown.now) memory c.args.budget.now)
    (state (shown_of c.args.objects.now c.args.shown.now) memory c.charge.new.budget) c.from_residual.result c.in_err-charge.field-0.0 (omega arith) shallow c.from_residual.ensures.1
    (rw is at (c.in_err-charge.ensures (shown_of c.args.objects.now c.args.shown.now) memory))

pub to_object-requires-clause-hosted : goal.to_object-requires-clause-hosted
to_object-requires-clause-hosted c =
    let d : Datum = datum c.args.value in
    let is : c.measured-size.result ≡ size_of d = capped_is (size_of d) _ c.measured-size.ensures c.if-size-gt16777216.false in
    record { made = c.requires.made.made; sized = omega arith; shallow = omega arith }

pub returns-in-Ok-clause-does : goal.returns-in-Ok-clause-does
returns-in-Ok-clause-does c memory =
    let d : Datum = datum c.args.value in
    let is : c.measured-size.result ≡ size_of d = capped_is (size_of d) _ c.measured-size.ensures c.if-size-gt16777216.false in
    shown_good d c.args.objects.now c.args.shown.now (shown_of c.to_object.new.self c.to_object.new.shown) memory c.args.budget.now c.charge.new.budget _ (omega arith) (omega arith)
    (rw is at (c.in_ok-charge.ensures (shown_of c.args.objects.now c.args.shown.now) memory)) c.in-Ok.ensures.full c.in-Ok.ensures.shown c.in-Ok.ensures.ok

pub returns-in-Err-Full-clause-does : goal.returns-in-Err-Full-clause-does
returns-in-Err-Full-clause-does c memory =
    let d : Datum = datum c.args.value in
    let is : c.measured-size.result ≡ size_of d = capped_is (size_of d) _ c.measured-size.ensures c.if-size-gt16777216.false in
    let full : 1000000 ≤ length c.args.shown.now = rw c.in-Err-Full.field-0-is at c.in-Err-Full.ensures.full in
    let kept = c.in-Err-Full.ensures.err in
    rw (kept.0, kept.1) (shown_full d c.args.objects.now c.args.shown.now memory c.args.budget.now c.charge.new.budget (omega arith) (omega arith)
    (rw is at (c.in_ok-charge.ensures (shown_of c.args.objects.now c.args.shown.now) memory)) full)
