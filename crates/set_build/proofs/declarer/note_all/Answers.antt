use Rattle.std.proofs.Common.{List, length, take, sym, ap, subst, ◌∙◌, arith}
use Rattle.std.proofs.lemmas.Iterator.Adapters.{YieldsList-from_vec}
use Rattle.std.proofs.lemmas.Iterator.Consumers.{YieldsList-turn, YieldsList-end}
use Rattle.stage_plan.proofs.Lemmas.{take_all}
use Rattle.stage_runs.specs.Maps.{Bytes}
use Rattle.set_build.specs.Known.{who, noted, bytes_in, IsMarked}
use Rattle.set_build.proofs.Declaring.{bytes_more, noted_more}
use Rattle.set_build.proofs.declarer.note_all.Goals as goal

pub note-requires : goal.note-requires
note-requires c =
    let t = YieldsList-turn (YieldsList-from_vec c.args.keys.items (cc) (cc)) c.loop-key.yielded c.loop-key.key-iterator c.loop-key.yielded_by _ c.next.new.self c.in-Some.key c.in-Some.is c.next.ensures.steps in
    subst IsMarked (sym t.1) (c.requires (length c.loop-key.yielded) c.in-Some.key t.0)

pub loop-key-preserved : goal.loop-key-preserved
loop-key-preserved c =
    let t = YieldsList-turn (YieldsList-from_vec c.args.keys.items (cc) (cc)) c.loop-key.yielded c.loop-key.key-iterator c.loop-key.yielded_by _ c.next.new.self c.in-Some.key c.in-Some.is c.next.ensures.steps in
    λ q.
    noted_more c.args.number c.args.writes (bytes_in (take (length c.loop-key.yielded) c.args.keys.items)) c.in-Some.key.1.items (who c.args.declarers.now) (who c.loop-key.declarers) (who c.note.new.declarers)
    c.loop-key.invariant c.in_ok-note.ensures q
    ∙ sym (ap (λ (more : List Bytes). noted c.args.number c.args.writes more (who c.args.declarers.now) q) (bytes_more c.args.keys.items c.loop-key.yielded c.in-Some.key t.0 t.1))

pub returns : goal.returns
returns c =
    let t = YieldsList-end (YieldsList-from_vec c.args.keys.items (cc) (cc)) c.loop-key.yielded c.loop-key.key-iterator c.loop-key.yielded_by _ c.next.new.self c.in-None.is c.next.ensures.steps in
    let e = t.1 in
    λ q.
    c.loop-key.invariant q
    ∙ ap (λ more. noted c.args.number c.args.writes (bytes_in more) (who c.args.declarers.now) q) (take_all c.args.keys.items (length c.loop-key.yielded) (omega (arith, e)) (omega (arith, e)))
