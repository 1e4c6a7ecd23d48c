use Rattle.std.specs.FinMap.{get}
use Rattle.std.proofs.Common.{◌<◌, ◌^◌, List, [], length, refl, sym, subst}
use Rattle.change_log.specs.Log.{Changes}
use Rattle.set_steps.specs.Lives.{before_lives, AreKeyed, AreLives, Covers}
use Rattle.set_steps.specs.State.{pending_of}
use Rattle.set_steps.specs.declared.running.ClusterDone.{ClusterDone}
use Rattle.set_steps.specs.declared.lives.Life.{Life}
use Rattle.set_steps.proofs.Lasting.{lives_put}
use Rattle.set_steps.proofs.SidesListed.{whole_after, whole_before, whole_list}
use Rattle.set_steps.proofs.stage_end.end_logged.Goals as goal

pub changes_in-requires : goal.changes_in-requires
changes_in-requires c =
    subst AreKeyed (sym c.deref-2.ensures.value)
    (lives_put c.args.entries.now c.end_stage.new.entries (pending_of c.args.done.items) [] c.in_ok-lives.lives.items refl
    c.in_ok-end_stage.ensures.entries
    (subst (λ (ds : List ClusterDone). Covers c.args.entries.now (pending_of ds) [] c.in_ok-lives.lives.items) c.deref.ensures.value
    c.in_ok-lives.ensures.lives)).keyed

pub returns-clause-list : goal.returns-clause-list
returns-clause-list c =
    let old = c.args.entries.now in
    let new = c.end_stage.new.entries in
    let lives = c.deref-2.result.now in
    let are : AreLives old new lives =
    subst (λ (ls : List Life). AreLives old new ls) (sym c.deref-2.ensures.value)
    (lives_put old new (pending_of c.args.done.items) [] c.in_ok-lives.lives.items refl c.in_ok-end_stage.ensures.entries
    (subst (λ (ds : List ClusterDone). Covers old (pending_of ds) [] c.in_ok-lives.lives.items) c.deref.ensures.value c.in_ok-lives.ensures.lives)) in
    whole_list (λ q. before_lives lives q (get new q)) (get new) c.in_ok-changes.changes c.in_ok-changes.ensures.list old new are.before (λ q. refl)

pub returns-clause-sound : goal.returns-clause-sound
returns-clause-sound c =
    let old = c.args.entries.now in
    let new = c.end_stage.new.entries in
    let lives = c.deref-2.result.now in
    let are : AreLives old new lives =
    subst (λ (ls : List Life). AreLives old new ls) (sym c.deref-2.ensures.value)
    (lives_put old new (pending_of c.args.done.items) [] c.in_ok-lives.lives.items refl c.in_ok-end_stage.ensures.entries
    (subst (λ (ds : List ClusterDone). Covers old (pending_of ds) [] c.in_ok-lives.lives.items) c.deref.ensures.value c.in_ok-lives.ensures.lives)) in
    let made = c.in_ok-changes.ensures.list in
    let list = whole_list (λ q. before_lives lives q (get new q)) (get new) c.in_ok-changes.changes made old new are.before (λ q. refl) in
    record {
      before = whole_before (λ q. before_lives lives q (get new q)) (get new) c.in_ok-changes.changes made old new are.before (λ q. refl);
      after = whole_after (λ q. before_lives lives q (get new q)) (get new) c.in_ok-changes.changes made old new are.before (λ q. refl);
      few = subst (λ (l : Changes). length l < 2 ^ 32) list made.few;
    }
