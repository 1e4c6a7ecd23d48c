use Rattle.std.proofs.Common.{[], ◌∷◌, ◌++◌, Option, sym, ap, ◌∙◌}
use Rattle.std.proofs.lemmas.List.{append-nil}
use Rattle.stage_runs.specs.Maps.{Kept}
use Rattle.set_steps.specs.Lives.{life_of}
use Rattle.set_steps.specs.declared.lives.Life.{Life}
use Rattle.set_steps.proofs.lives.keep_life.Goals as goal

pub returns-in-None : goal.returns-in-None
returns-in-None g c =
    sym (append-nil c.args.lives.now.items)
    ∙ ap (λ (o : Option Kept). c.args.lives.now.items ++ life_of c.args.key.now o) c.in-None.ensures.found

pub returns-in_ok-push-in-Some : goal.returns-in_ok-push-in-Some
returns-in_ok-push-in-Some g c =
    let old = c.args.lives.now.items in
    c.in_ok-push-in-Some.ensures.items
    ∙ ap (λ (life : Life). old ++ life ∷ []) c.in_ok-life-in-Some.ensures
    ∙ ap (λ (o : Option Kept). old ++ life_of c.args.key.now o) c.in-Some.ensures.found
