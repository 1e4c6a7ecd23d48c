-- What an instruction spends, and runs among the functions of a host.
use Rattle.std.proofs.Common.{ℕ, zero, suc, ◌≤◌, Bool, true, false, List, inl, inr, refl, arith}
use Rattle.budget_meter.specs.Meter.{Meter, used_after}
use Rattle.budget_meter.specs.declared.kind.Kind.TheVariants.{WasmInsnExec}
use Rattle.wasm_spec.specs.declared.types.ValueType.{ValueType}
use Rattle.wasm_spec.specs.declared.values.Value.{Value}
use Rattle.wasm_spec.specs.declared.module.Module.{Module}
use Rattle.wasm_spec.specs.Runs.{State, Run, Normal, Branch, Return, Trap, Spent, Stuck, Ask, charged_if, counted, executed, has_room}
use Rattle.wasm_spec.specs.Spending.{SpendsMore, GoesOnSpending}
use Rattle.wasm_spec.specs.Worlds.{Reply, Answers, Quits, Host, End, Returned, Trapped, Exhausted, Quit, Broken, after_reply, interp}
use Rattle.wasm_spec.proofs.Sound.{CallGood}

-- what an instruction spends

charge_spends : (b : Bool) (k : ℕ) (s : State) (after : Meter) (go : State → Run) → SpendsMore s.meter after → GoesOnSpending s go (charged_if b Spent after (record s { left = k }) go)
charge_spends false k s after go h = inl refl
charge_spends true k s after go h = inr (k, after, h, refl)

count_spends : (n : ℕ) (s : State) (go : State → Run) → 1 ≤ s.meter.terms.wasm_insn_exec.instructions.constant → GoesOnSpending s go (counted n Spent s go)
count_spends zero s go h = inl refl
count_spends (suc k) s go h =
    let used = used_after s.meter WasmInsnExec 1 in
    charge_spends (has_room s.meter.limits used) k s (record s.meter { used = used }) go
    (record { limits = refl; terms = refl; instructions = omega arith; memory = omega arith })

pub executed_spends : (s : State) (go : State → Run) → 1 ≤ s.meter.terms.wasm_insn_exec.instructions.constant → GoesOnSpending s go (executed Spent s go)
executed_spends s go h = count_spends s.left s go h

-- runs among the functions of a host

-- a call of a valid module is never broken, whatever the host
abbrev pub IsWhole : {W Q : Type 0} → End W Q → Type 0
IsWhole (Returned vs meter w) = Unit {0}
IsWhole (Trapped kind meter w) = Unit {0}
IsWhole (Exhausted meter w) = Unit {0}
IsWhole (Quit q) = Unit {0}
IsWhole Broken = ⊥

after_reply_whole : {W Q : Type 0} (r : Reply W Q) (go : ℕ → List ℕ → Meter → W → End W Q) → ((v : ℕ) (bytes : List ℕ) (b : Meter) (w : W) → IsWhole (go v bytes b w)) → IsWhole (after_reply r go)
after_reply_whole (Answers w v bytes b) go h = h v bytes b w
after_reply_whole (Quits q) go h = tt

pub interp_whole : {W Q : Type 0} (host : Host W Q) (m : Module) (locals : List Value) (us : List ValueType) (r : Run) (w : W) → CallGood m locals us r → IsWhole (interp host r w)
interp_whole host m locals us (Normal ops s) w h = tt
interp_whole host m locals us (Branch k ops s) w h = absurd h
interp_whole host m locals us (Return ops s) w h = absurd h
interp_whole host m locals us (Trap kind meter) w h = tt
interp_whole host m locals us (Spent meter) w h = tt
interp_whole host m locals us Stuck w h = h
interp_whole host m locals us (Ask f args memory meter on) w h =
    after_reply_whole (host f args memory meter w) (λ v bytes b u. interp host (on v bytes b) u) (λ v bytes b u. interp_whole host m locals us (on v bytes b) u (h.1 v bytes b))
