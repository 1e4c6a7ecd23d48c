use Rattle.std.proofs.Common.{[], All, subst, sym}
use Rattle.stage_codes.specs.Found.{AreOf, HasKeyOf, IsCodeIn, IsShared, stage_keys}
use Rattle.stage_codes.proofs.Declared.{all_of}
use Rattle.stage_codes.proofs.Ordered.{all_codes, all_shared}
use Rattle.stage_codes.proofs.stage.stage_codes.Goals as goal

pub returns-clause-entries : goal.returns-clause-entries
returns-clause-entries g c =
    subst (All (IsCodeIn (g.G.Ground.map c.args.ground.now))) (sym c.in_ok-in_order.ensures.same)
    (all_codes (g.G.Ground.map c.args.ground.now) c.add_clusters.new.codes.entries c.in_ok-add_clusters.ensures.found)

pub returns-clause-shared : goal.returns-clause-shared
returns-clause-shared g c =
    subst (λ list. All (IsShared (g.G.Ground.map c.args.ground.now) list) (stage_keys c.args.clusters.now)) (sym c.in_ok-in_order.ensures.same)
    (all_shared (g.G.Ground.map c.args.ground.now) c.add_clusters.new.codes (stage_keys c.args.clusters.now) c.in_ok-add_clusters.ensures.there)

pub returns-clause-only : goal.returns-clause-only
returns-clause-only g c =
    subst (All (λ k. HasKeyOf (stage_keys c.args.clusters.now) k.hash)) (sym c.in_ok-in_order.ensures.same)
    (all_of (stage_keys c.args.clusters.now) c.add_clusters.new.codes.entries (c.in_ok-add_clusters.ensures.only [] (subst (AreOf []) (sym c.new-codes.ensures.empty) tt)))
