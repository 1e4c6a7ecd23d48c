use Rattle.std.proofs.Common.{◌<◌, ℕ, ap, sym, subst, ◌∙◌, length, map}
use Rattle.std.proofs.lemmas.List.{length-map}
use Rattle.stage_runs.specs.Runs.{Stage, clusters_in}
use Rattle.set_build.specs.Built.{Building, put}
use Rattle.set_build.specs.Moved.{shown, HasPlace}
use Rattle.set_build.specs.declared.place.Place.{Place}
use Rattle.set_build.proofs.Moves.{shown_joined}
use Rattle.set_build.proofs.moving.Stages.put.Goals as goal

pub returns-in_ok-push-in-InCluster : goal.returns-in_ok-push-in-InCluster
returns-in_ok-push-in-InCluster c =
    let lt : c.in-InCluster.number < length (shown c.args.self.now).last = subst (HasPlace (shown c.args.self.now).last) c.in-InCluster.is c.requires in
    ap (λ (s : Stage). let b : Building = record { earlier = map clusters_in c.args.self.now.earlier.items; last = s } in b)
    (shown_joined (λ v. v.items) c.args.self.now.last.items c.in-InCluster.number c.index_mut.result.now c.push.new.self c.args.envelope
    (subst (λ (n : ℕ). c.in-InCluster.number < n) (length-map c.args.self.now.last.items (λ v. v.items)) lt) c.index_mut.ensures.value c.in_ok-push-in-InCluster.ensures.items)
    ∙ ap (λ (p : Place). put (shown c.args.self.now) p c.args.envelope) (sym c.in-InCluster.is)
