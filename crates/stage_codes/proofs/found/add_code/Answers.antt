use Rattle.std.proofs.Common.{[], ◌∷◌, ◌++◌, subst, sym}
use Rattle.stage_codes.specs.Found.{AreFound, AreOf}
use Rattle.stage_codes.proofs.Declared.{last_key, of_more, of_wider}
use Rattle.stage_codes.proofs.Ordered.{found_more, insert_keeps}
use Rattle.stage_codes.proofs.found.add_code.Goals as goal

pub returns-in_ok-insert-clause-found : goal.returns-in_ok-insert-clause-found
returns-in_ok-insert-clause-found g c =
    subst (AreFound (g.G.Ground.map c.args.ground.now)) (sym c.in_ok-insert.ensures.entries)
    (found_more (g.G.Ground.map c.args.ground.now) c.args.codes.now.entries c.in-Some.code.hash.0 c.in-Some.code.code c.requires.found c.in-Some.ensures.code)

pub returns-in_ok-insert-clause-keeps : goal.returns-in_ok-insert-clause-keeps
returns-in_ok-insert-clause-keeps g c =
    insert_keeps c.args.codes.now c.insert.new.self c.in-Some.code.hash.0 c.in-Some.code.code c.in_ok-insert.ensures.updates

pub returns-in_ok-insert-clause-only : goal.returns-in_ok-insert-clause-only
returns-in_ok-insert-clause-only g c before all =
    subst (AreOf (before ++ c.args.key.now ∷ [])) (sym c.in_ok-insert.ensures.entries)
    (of_more (before ++ c.args.key.now ∷ []) c.args.codes.now.entries c.in-Some.code.hash.0 c.in-Some.code.code (of_wider before (c.args.key.now ∷ []) c.args.codes.now.entries all)
    (last_key before c.args.key.now c.in-Some.code.hash c.in-Some.ensures.key))

pub returns-in_default-clause-only : goal.returns-in_default-clause-only
returns-in_default-clause-only g c before all = of_wider before (c.args.key.now ∷ []) c.args.codes.now.entries all
