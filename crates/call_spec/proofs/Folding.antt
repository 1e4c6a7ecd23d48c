-- The run of a frame's code is that of a host that answers its imports.
use Rattle.std.proofs.Common.{◌≡◌, ℕ, List, refl, ◌∙◌}
use Rattle.budget_meter.specs.Meter.{Meter}
use Rattle.wasm_spec.specs.Runs.{Normal, Branch, Return, Trap, Spent as SpentRun, Stuck, Ask}
use Rattle.wasm_spec.specs.Worlds.{End, Returned, Trapped, Exhausted, Quit, Broken, after_reply, interp}
use Rattle.call_spec.specs.World.{World}
use Rattle.call_spec.specs.Acts.{Out, Good, Bad, Undeclared, Act, then_do}
use Rattle.call_spec.specs.Frames.{asking, runs}
use Rattle.call_spec.specs.Folding.{reply_of, as_host, outcome_of, FoldLaw}

-- only a broken run's outcome is that of the world in which it starts
any_start : (w u : World) (e : End World (Out ℕ)) → (e ≡ Broken → ⊥) → outcome_of u e ≡ outcome_of w e
any_start w u (Returned vs meter x) h = refl
any_start w u (Trapped kind meter x) h = refl
any_start w u (Exhausted meter x) h = refl
any_start w u (Quit out) h = refl
any_start w u Broken h = absurd (h refl)

asked : (o : Out ℕ) (next : ℕ → Act ℕ) (go : ℕ → List ℕ → Meter → World → End World (Out ℕ)) (w : World)
    → ((v : ℕ) (u : World) → (go v u.frame.memory u.meter u ≡ Broken → ⊥) → next v u ≡ outcome_of u (go v u.frame.memory u.meter u))
    → (after_reply (reply_of o) go ≡ Broken → ⊥) → then_do o next ≡ outcome_of w (after_reply (reply_of o) go)
asked (Good v u) next go w h whole = h v u whole ∙ any_start w u (go v u.frame.memory u.meter u) whole
asked (Bad e u) next go w h whole = refl
asked (Undeclared a u) next go w h whole = refl

pub fold_law : FoldLaw
fold_law host (Normal vs s) w whole = refl
fold_law host (Branch depth vs s) w whole = refl
fold_law host (Return vs s) w whole = refl
fold_law host (Trap kind meter) w whole = refl
fold_law host (SpentRun meter) w whole = refl
fold_law host Stuck w whole = refl
fold_law host (Ask f words memory meter on) w whole =
    asked (host f words (asking memory meter w)) (λ v u. runs host (on v u.frame.memory u.meter) u) (λ v bytes b u. interp (as_host host) (on v bytes b) u) w
    (λ v u broken. fold_law host (on v u.frame.memory u.meter) u broken) whole
