use Rattle.std.proofs.Common.{[], All, subst, sym}
use Rattle.stage_plan.specs.DeclaredKeys.{read_keys}
use Rattle.stage_codes.specs.Found.{AreOf, HasKeyOf, IsCodeIn, IsShared}
use Rattle.stage_codes.proofs.Declared.{all_of}
use Rattle.stage_codes.proofs.Ordered.{all_codes, all_shared}
use Rattle.stage_codes.proofs.stage.cluster_codes.Goals as goal

pub returns-clause-entries : goal.returns-clause-entries
returns-clause-entries g c =
    subst (All (IsCodeIn (g.G.Ground.map c.args.ground.now))) (sym c.in_ok-in_order.ensures.same)
    (all_codes (g.G.Ground.map c.args.ground.now) c.add_cluster.new.codes.entries c.in_ok-add_cluster.ensures.found)

pub returns-clause-shared : goal.returns-clause-shared
returns-clause-shared g c =
    subst (λ list. All (IsShared (g.G.Ground.map c.args.ground.now) list) (read_keys c.args.envelopes.now)) (sym c.in_ok-in_order.ensures.same)
    (all_shared (g.G.Ground.map c.args.ground.now) c.add_cluster.new.codes (read_keys c.args.envelopes.now) c.in_ok-add_cluster.ensures.there)

pub returns-clause-only : goal.returns-clause-only
returns-clause-only g c =
    subst (All (λ k. HasKeyOf (read_keys c.args.envelopes.now) k.hash)) (sym c.in_ok-in_order.ensures.same)
    (all_of (read_keys c.args.envelopes.now) c.add_cluster.new.codes.entries (c.in_ok-add_cluster.ensures.only [] (subst (AreOf []) (sym c.new-codes.ensures.empty) tt)))
