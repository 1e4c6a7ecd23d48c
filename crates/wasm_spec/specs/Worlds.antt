-- A run whose imports a host answers, in the order of the calls (this host's definitions, after core section 4.5.5).
use Rattle.std.specs.Prelude.{ℕ, List}
use Rattle.budget_meter.specs.Meter.{Meter}
use Rattle.wasm_spec.specs.declared.values.Value.{Value}
use Rattle.wasm_spec.specs.declared.values.TrapKind.{TrapKind}
use Rattle.wasm_spec.specs.Runs.{Run, Normal, Branch, Return, Trap, Spent, Stuck, Ask}

-- A host's reply to a call: an answer with the memory and the budget after it, or the end of the run. A host with worlds in W
-- says in Q why it ends the run.
pub data Reply (W Q : Type 0) : Type 0 where
  Answers : (world : W) (answer : ℕ) (memory : List ℕ) (meter : Meter) → Reply W Q
  Quits : (why : Q) → Reply W Q

-- the functions of a host, by the import's index: they take the arguments, the memory, the budget and the world
abbrev pub Host : Type 0 → Type 0 → Type 0
Host W Q = ℕ → List ℕ → List ℕ → Meter → W → Reply W Q

-- the end of a run whose imports a host answers
pub data End (W Q : Type 0) : Type 0 where
  Returned : (results : List Value) (meter : Meter) (world : W) → End W Q
  Trapped : (kind : TrapKind) (meter : Meter) (world : W) → End W Q
  Exhausted : (meter : Meter) (world : W) → End W Q
  Quit : (why : Q) → End W Q
  Broken : End W Q

-- continues after a reply
abbrev pub after_reply : {W Q : Type 0} → Reply W Q → (ℕ → List ℕ → Meter → W → End W Q) → End W Q
after_reply (Answers w v memory meter) go = go v memory meter w
after_reply (Quits q) go = Quit q

abbrev pub interp : {W Q : Type 0} → Host W Q → Run → W → End W Q
interp host (Normal ops s) w = Returned ops s.meter w
interp host (Branch k ops s) w = Broken
interp host (Return ops s) w = Broken
interp host (Trap kind meter) w = Trapped kind meter w
interp host (Spent meter) w = Exhausted meter w
interp host Stuck w = Broken
interp host (Ask f args memory meter on) w = after_reply (host f args memory meter w) (λ v bytes b. interp host (on v bytes b))
