-- The machine has one way to go.
use Rattle.std.proofs.Common.{◌≡◌, ◌≢◌, ℕ, List, sym, ◌∙◌, subst}
use Rattle.budget_meter.specs.Meter.{Meter}
use Rattle.wasm_spec.specs.declared.module.Module.{Module}
use Rattle.wasm_spec.specs.Code.{BlockType}
use Rattle.wasm_spec.specs.Runs.{Run, Normal, Branch, Return, Trap, Spent, Stuck, Ask}
use Rattle.wasm_code.specs.declared.step.FlatCode.{FlatCode}
use Rattle.wasm_machine.specs.Machine.{Machine, Moved, Goes, Ends, Traps, RunsOut, Fails, Asks, move, resumed}
use Rattle.wasm_machine.specs.Behaves.{Comes, here, more, Stops, Behaves}

-- a move that goes nowhere
abbrev pub Halts : Moved → Type 0
Halts (Goes m) = ⊥
Halts (Ends ops meter) = Unit {0}
Halts (Traps kind meter) = Unit {0}
Halts (RunsOut meter) = Unit {0}
Halts Fails = Unit {0}
Halts (Asks f args r m) = Unit {0}

-- a state on the way to a halt
ahead : {source : Module} {flat : FlatCode} {m n : Machine} → Comes source flat m n → (o : Machine) (out : Moved) → move source flat m ≡ Goes o → move source flat n ≡ out → Halts out → Comes source flat o n
ahead here o out e h halts = let g : Goes o ≡ out = cc in absurd (subst Halts (sym g) halts)
ahead {source} {flat} {m} {n} (more {n = p} g rest) o out e h halts = let q : p ≡ o = cc in subst (λ x. Comes source flat x n) q rest

stops_ahead : (source : Module) (flat : FlatCode) (m o : Machine) (out : Moved) → Halts out → move source flat m ≡ Goes o → Stops source flat m out → Stops source flat o out
stops_ahead source flat m o out halts e h = (h.0, ahead h.1 o out e h.2 halts, h.2)

-- one move on the way keeps what the machine does
pub behaves_ahead : (source : Module) (flat : FlatCode) (m o : Machine) (r : Run) → move source flat m ≡ Goes o → Behaves source flat m r → Behaves source flat o r
behaves_ahead source flat m o (Normal ops s) e h = stops_ahead source flat m o (Ends ops s.meter) tt e h
behaves_ahead source flat m o (Branch k ops s) e h = h
behaves_ahead source flat m o (Return ops s) e h = h
behaves_ahead source flat m o (Trap kind meter) e h = stops_ahead source flat m o (Traps kind meter) tt e h
behaves_ahead source flat m o (Spent meter) e h = stops_ahead source flat m o (RunsOut meter) tt e h
behaves_ahead source flat m o Stuck e h = h
behaves_ahead source flat m o (Ask f args memory meter on) e h =
    (h.0, h.1, record { stop = h.2.stop; comes = ahead h.2.comes o (Asks f args h.0 h.1) e h.2.asks tt; asks = h.2.asks; bytes = h.2.bytes; budget = h.2.budget }, h.3)

-- a halt at once
stops_now : {source : Module} {flat : FlatCode} {m n : Machine} → Comes source flat m n → (out now : Moved) → move source flat n ≡ out → move source flat m ≡ now → Halts now → now ≡ out
stops_now here out now e g halts = sym g ∙ e
stops_now (more f rest) out now e g halts = let q : Goes _ ≡ now = sym f ∙ g in absurd (subst Halts (sym q) halts)

-- A machine that does what a run says never fails.
never_fails_at : {source : Module} {flat : FlatCode} {m n : Machine} → Comes source flat m n → (out : Moved) → move source flat n ≡ out → out ≢ Fails → move source flat m ≢ Fails
never_fails_at {source} {flat} {m} c out e ne f = ne (sym (stops_now c out Fails e f tt))

pub never_fails : (source : Module) (flat : FlatCode) (m : Machine) (r : Run) → Behaves source flat m r → move source flat m ≢ Fails
never_fails source flat m (Normal ops s) h = never_fails_at h.1 (Ends ops s.meter) h.2 (λ e. cc)
never_fails source flat m (Branch k ops s) h = absurd h
never_fails source flat m (Return ops s) h = absurd h
never_fails source flat m (Trap kind meter) h = never_fails_at h.1 (Traps kind meter) h.2 (λ e. cc)
never_fails source flat m (Spent meter) h = never_fails_at h.1 (RunsOut meter) h.2 (λ e. cc)
never_fails source flat m Stuck h = absurd h
never_fails source flat m (Ask f args memory meter on) h = never_fails_at h.2.comes (Asks f args h.0 h.1) h.2.asks (λ e. cc)

-- what a run says of a move that halts
abbrev pub SaysMove : Module → FlatCode → Run → Moved → Type 0
SaysMove source flat (Normal ops s) now = now ≡ Ends ops s.meter
SaysMove source flat (Branch k ops s) now = ⊥
SaysMove source flat (Return ops s) now = ⊥
SaysMove source flat (Trap kind meter) now = now ≡ Traps kind meter
SaysMove source flat (Spent meter) now = now ≡ RunsOut meter
SaysMove source flat Stuck now = ⊥
SaysMove source flat (Ask f args memory meter on) now =
    (r : BlockType) × (n : Machine) × (now ≡ Asks f args r n) × (n.state.store.memory.bytes ≡ memory) × (n.state.meter ≡ meter)
    × ((v : ℕ) (bytes : List ℕ) (b : Meter) → Behaves source flat (resumed r v bytes b n) (on v bytes b))

pub now_says : (source : Module) (flat : FlatCode) (m : Machine) (r : Run) (now : Moved) → Behaves source flat m r → move source flat m ≡ now → Halts now → SaysMove source flat r now
now_says source flat m (Normal ops s) now h e halts = stops_now h.1 (Ends ops s.meter) now h.2 e halts
now_says source flat m (Branch k ops s) now h e halts = h
now_says source flat m (Return ops s) now h e halts = h
now_says source flat m (Trap kind meter) now h e halts = stops_now h.1 (Traps kind meter) now h.2 e halts
now_says source flat m (Spent meter) now h e halts = stops_now h.1 (RunsOut meter) now h.2 e halts
now_says source flat m Stuck now h e halts = h
now_says source flat m (Ask f args memory meter on) now h e halts =
    (h.0, h.1, stops_now h.2.comes (Asks f args h.0 h.1) now h.2.asks e halts, h.2.bytes, h.2.budget, h.3)
