use Rattle.std.proofs.Common.{◌+◌, ℕ, get_or, refl, sym, ap, ◌∙◌}
use Rattle.std.proofs.lemmas.List.{length_push}
use Rattle.std.proofs.lemmas.Iterator.Adapters.{YieldsList-from_vec}
use Rattle.std.proofs.lemmas.Iterator.Consumers.{YieldsList-turn, YieldsList-end}
use Rattle.set_build.specs.Moved.{shown}
use Rattle.set_build.specs.declared.place.Place.TheVariants.{NewStage}
use Rattle.set_build.proofs.Moves.{moved_none, moved_there, moved_more, moved_all}
use Rattle.set_build.proofs.moving.move_all.Goals as goal

pub loop-envelope-init : goal.loop-envelope-init
loop-envelope-init c = (refl, moved_none c.args.envelopes.items c.args.places.now (shown c.args.stages.now) c.requires.start)

pub put-requires : goal.put-requires
put-requires c =
    let t = YieldsList-turn (YieldsList-from_vec c.args.envelopes.items (cc) (cc)) c.loop-envelope.yielded c.loop-envelope.envelope-iterator c.loop-envelope.yielded_by _ c.next.new.self c.in-Some.envelope c.in-Some.is c.next.ensures.steps in
    moved_there c.args.envelopes.items c.args.places.now c.loop-envelope.yielded c.in-Some.envelope (get_or c.args.places.now c.loop-envelope.number NewStage) (shown c.loop-envelope.stages)
    c.requires.planned c.loop-envelope.invariant.1 t.0 t.1 (ap (λ (n : ℕ). get_or c.args.places.now n NewStage) c.loop-envelope.invariant.0)

pub loop-envelope-preserved : goal.loop-envelope-preserved
loop-envelope-preserved c =
    let t = YieldsList-turn (YieldsList-from_vec c.args.envelopes.items (cc) (cc)) c.loop-envelope.yielded c.loop-envelope.envelope-iterator c.loop-envelope.yielded_by _ c.next.new.self c.in-Some.envelope c.in-Some.is c.next.ensures.steps in (
      ap (λ (n : ℕ). n + 1) c.loop-envelope.invariant.0 ∙ sym (length_push c.loop-envelope.yielded c.in-Some.envelope),
      moved_more c.args.envelopes.items c.args.places.now c.loop-envelope.yielded c.in-Some.envelope (get_or c.args.places.now c.loop-envelope.number NewStage) (shown c.loop-envelope.stages) (shown c.put.new.self)
          c.requires.planned c.loop-envelope.invariant.1 t.0 t.1 (ap (λ (n : ℕ). get_or c.args.places.now n NewStage) c.loop-envelope.invariant.0) c.in_ok-put.ensures,
    )

pub returns : goal.returns
returns c =
    let t = YieldsList-end (YieldsList-from_vec c.args.envelopes.items (cc) (cc)) c.loop-envelope.yielded c.loop-envelope.envelope-iterator c.loop-envelope.yielded_by _ c.next.new.self c.in-None.is c.next.ensures.steps in
    moved_all c.args.envelopes.items c.args.places.now c.loop-envelope.yielded (shown c.loop-envelope.stages) c.loop-envelope.invariant.1 t.1
