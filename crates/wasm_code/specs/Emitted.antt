-- What the compiler's functions emit, for every code that may follow. Their contracts cite this page.
use Rattle.std.specs.Prelude.{◌≡◌, ℕ, ◌+◌, ◌*◌, ◌<◌, ◌≤◌, List, [], ◌∷◌, ◌++◌, length, Some, Bool, true, false, slice_get}
use Rattle.std.specs.Prelude.{slice_set}
use Rattle.wasm_spec.specs.declared.module.Function.{Function}
use Rattle.wasm_spec.specs.declared.module.Module.{Module}
use Rattle.wasm_spec.specs.Code.{Code, BlockType}
use Rattle.wasm_code.specs.declared.step.Step.{Step}
use Rattle.wasm_code.specs.declared.step.Step.TheVariants as step
use Rattle.wasm_code.specs.declared.step.Target.{Target}
use Rattle.wasm_code.specs.declared.step.FlatCode.{FlatCode as Flat}
use Rattle.wasm_code.specs.declared.labels.Open.{Open}
use Rattle.wasm_code.specs.declared.emit.Emitter.{Emitter}
use Rattle.wasm_code.specs.Placed.{Label, Placed, RowAt, IsFunctionAt}

-- ys has the items that xs has from n on
abbrev pub Keeps : {A : Type 0} → ℕ → List A → List A → Type 0
Keeps {A} n xs ys = (i : ℕ) (x : A) → n ≤ i → slice_get xs i ≡ Some x → slice_get ys i ≡ Some x

-- a label of the compiler equals this label
pub record IsLabel (targets : List Target) (o : Open) (l : Label) : Type 0 where
  pub at : slice_get targets o.target ≡ Some (record { pc = l.pc; result = l.result })
  pub result_ : o.result ≡ l.result
  pub height : o.height ≡ l.height

abbrev pub AreLabels : List Target → List Open → List Label → Type 0
AreLabels targets [] [] = Unit {0}
AreLabels targets [] (l ∷ ls) = ⊥
AreLabels targets (o ∷ os) [] = ⊥
AreLabels targets (o ∷ os) (l ∷ ls) = IsLabel targets o l × AreLabels targets os ls

-- one more step
pub record Puts (old new : Emitter) (s : Step) : Type 0 where
  pub steps : new.steps ≡ old.steps ++ s ∷ []
  pub targets : new.targets.items ≡ old.targets.items
  pub labels : new.labels ≡ old.labels
  pub home : new.home ≡ old.home

abbrev pub jump_step : Bool → ℕ → ℕ → Step
jump_step true id n = step.JumpIf id n
jump_step false id n = step.Jump id n

-- one more label
pub record Opens (old new : Emitter) (pc : ℕ) (r : BlockType) (height id : ℕ) : Type 0 where
  pub is_next : id ≡ length old.targets.items
  pub steps : new.steps ≡ old.steps
  pub targets : new.targets.items ≡ old.targets.items ++ (record { pc = pc; result = r }) ∷ []
  pub labels : new.labels ≡ (record { target = id; result = r; height = height }) ∷ old.labels
  pub home : new.home ≡ old.home

-- one label less, whose target is the next step
pub record Closes (old new : Emitter) (id : ℕ) (r : BlockType) : Type 0 where
  pub steps : new.steps ≡ old.steps
  pub targets : new.targets.items ≡ slice_set old.targets.items id (record { pc = length old.steps; result = r })
  pub labels : (o : Open) (os : List Open) → old.labels ≡ o ∷ os → new.labels ≡ os
  pub home : new.home ≡ old.home

-- one label less
pub record Forgets (old new : Emitter) : Type 0 where
  pub steps : new.steps ≡ old.steps
  pub targets : new.targets.items ≡ old.targets.items
  pub labels : (o : Open) (os : List Open) → old.labels ≡ o ∷ os → new.labels ≡ os
  pub home : new.home ≡ old.home

-- the destinations of an if
pub record Patches (old new : Emitter) (test skip : ℕ) : Type 0 where
  pub steps : new.steps ≡ slice_set (slice_set old.steps test (step.Unless (skip + 1))) skip (step.Skip (length old.steps))
  pub targets : new.targets.items ≡ old.targets.items
  pub labels : new.labels ≡ old.labels
  pub home : new.home ≡ old.home

-- what stays unchanged while code is added
pub record Adds (old new : Emitter) : Type 0 where
  pub labels : new.labels ≡ old.labels
  pub home : new.home ≡ old.home
  pub steps : Keeps 0 old.steps new.steps
  pub targets : Keeps 0 old.targets.items new.targets.items
  pub longer : length old.steps ≤ length new.steps
  pub more : length old.targets.items ≤ length new.targets.items

-- The instruction was added: for every code placed after it, both are placed at the step where the instruction starts.
pub record Emitted (m : Module) (old new : Emitter) (h h' : ℕ) (put : Code → Code) : Type 0 where
  pub adds : Adds old new
  pub placed : (flat : Flat) (home : Label) (ls : List Label) (rest : Code) (q : ℕ)
      → Keeps (length old.steps) new.steps flat.steps → Keeps (length old.targets.items) new.targets.items flat.targets
      → AreLabels flat.targets old.labels ls → IsLabel flat.targets old.home home
      → Placed m flat home (length new.steps) rest q ls h' → Placed m flat home (length old.steps) (put rest) q ls h

-- the same for a whole code
pub record EmittedAll (m : Module) (old new : Emitter) (h : ℕ) (c : Code) : Type 0 where
  pub adds : Adds old new
  pub placed : (flat : Flat) (home : Label) (ls : List Label)
      → Keeps (length old.steps) new.steps flat.steps → Keeps (length old.targets.items) new.targets.items flat.targets
      → AreLabels flat.targets old.labels ls → IsLabel flat.targets old.home home
      → Placed m flat home (length old.steps) c (length new.steps) ls h

-- the same for the jumps of a table
pub record RowEmitted (old new : Emitter) (h : ℕ) (ks : List ℕ) (other : ℕ) : Type 0 where
  pub adds : Adds old new
  pub placed : (flat : Flat) (ls : List Label)
      → Keeps (length old.steps) new.steps flat.steps → AreLabels flat.targets old.labels ls
      → RowAt flat (length old.steps) h ls ks other

-- the same for the first jumps of a table, for every row of jumps after them
pub record RowBegun (old new : Emitter) (h : ℕ) (ks : List ℕ) : Type 0 where
  pub adds : Adds old new
  pub placed : (flat : Flat) (ls : List Label) (more : List ℕ) (other : ℕ)
      → Keeps (length old.steps) new.steps flat.steps → AreLabels flat.targets old.labels ls
      → RowAt flat (length new.steps) h ls more other → RowAt flat (length old.steps) h ls (ks ++ more) other

-- The function was added: it is placed at its entry, for every code that follows.
pub record FunctionEmitted (m : Module) (old new : Emitter) (f : Function) (entry : ℕ) : Type 0 where
  pub labels : new.labels ≡ old.labels
  pub steps : Keeps 0 old.steps new.steps
  pub targets : Keeps 0 old.targets.items new.targets.items
  pub placed : (flat : Flat) → Keeps (length old.steps) new.steps flat.steps
      → Keeps (length old.targets.items) new.targets.items flat.targets → IsFunctionAt m flat f entry

-- the calls of n imports come first, each followed by an End
abbrev pub ImportsAt : ℕ → List Step → Type 0
ImportsAt n steps = (length steps ≡ 2 * n)
    × ((f : ℕ) → f < n → (slice_get steps (2 * f) ≡ Some (step.Import f)) × (slice_get steps (2 * f + 1) ≡ Some step.End))

pub record ImportsEmitted (m : Module) (new : Emitter) : Type 0 where
  pub labels : new.labels ≡ []
  pub steps : ImportsAt (length m.imports) new.steps
