-- From moves to the pauses of a run.
use Rattle.std.proofs.Common.{◌≡◌, ℕ, List, ap, ◌∙◌, subst}
use Rattle.std.specs.Prelude.{slice_get, Vec}
use Rattle.std.specs.declared.alloc.Global.{Global}
use Rattle.wasm_spec.specs.declared.values.Value.{Value}
use Rattle.wasm_spec.specs.declared.values.TrapKind.{TrapKind}
use Rattle.wasm_spec.specs.declared.module.Module.{Module}
use Rattle.wasm_spec.specs.Code.{BlockType}
use Rattle.wasm_spec.specs.Runs.{Run, Normal, Branch, Return, Trap, Spent, Stuck, Ask}
use Rattle.wasm_code.specs.declared.step.FlatCode.{FlatCode}
use Rattle.wasm_machine.specs.declared.machine.Outcome.{Outcome}
use Rattle.wasm_machine.specs.declared.machine.Outcome.TheVariants as outcome
use Rattle.wasm_machine.specs.declared.run.Paused.TheVariants as paused
use Rattle.wasm_machine.specs.Machine.{Machine, Moved, Goes, Ends, Traps, RunsOut, Fails, Asks, move}
use Rattle.wasm_machine.specs.MachineState.{IsMove}
use Rattle.wasm_machine.specs.Behaves.{Behaves, Waits}
use Rattle.wasm_machine.specs.Says.{Says}
use Rattle.wasm_machine.proofs.Ways.{SaysMove, now_says}

-- the move that an outcome says
abbrev pub move_of : Outcome → Machine → Moved
move_of outcome.Goes new = Goes new
move_of outcome.Ends new = Ends new.operands new.state.meter
move_of (outcome.Traps k) new = Traps k new.state.meter
move_of outcome.RunsOut new = RunsOut new.state.meter
move_of (outcome.Asks f vs r) new = Asks f vs.items r new

is_move : (x : Moved) (o : Outcome) (new : Machine) → IsMove x o new → x ≡ move_of o new
is_move (Goes m) outcome.Goes new h = cc
is_move (Goes m) outcome.Ends new h = absurd h
is_move (Goes m) (outcome.Traps f) new h = absurd h
is_move (Goes m) outcome.RunsOut new h = absurd h
is_move (Goes m) (outcome.Asks f vs k) new h = absurd h
is_move (Ends ops meter) outcome.Goes new h = absurd h
is_move (Ends ops meter) outcome.Ends new h = cc
is_move (Ends ops meter) (outcome.Traps f) new h = absurd h
is_move (Ends ops meter) outcome.RunsOut new h = absurd h
is_move (Ends ops meter) (outcome.Asks f vs k) new h = absurd h
is_move (Traps e meter) outcome.Goes new h = absurd h
is_move (Traps e meter) outcome.Ends new h = absurd h
is_move (Traps e meter) (outcome.Traps f) new h = cc
is_move (Traps e meter) outcome.RunsOut new h = absurd h
is_move (Traps e meter) (outcome.Asks f vs k) new h = absurd h
is_move (RunsOut meter) outcome.Goes new h = absurd h
is_move (RunsOut meter) outcome.Ends new h = absurd h
is_move (RunsOut meter) (outcome.Traps f) new h = absurd h
is_move (RunsOut meter) outcome.RunsOut new h = cc
is_move (RunsOut meter) (outcome.Asks f vs k) new h = absurd h
is_move Fails o new h = absurd h
is_move (Asks f args r m) outcome.Goes new h = absurd h
is_move (Asks f args r m) outcome.Ends new h = absurd h
is_move (Asks f args r m) (outcome.Traps g) new h = absurd h
is_move (Asks f args r m) outcome.RunsOut new h = absurd h
is_move (Asks f args r m) (outcome.Asks g vs q) new h = cc

-- the move, of an outcome that is known
pub move_is : (source : Module) (flat : FlatCode) (m new : Machine) (o p : Outcome) → IsMove (move source flat m) o new → o ≡ p → move source flat m ≡ move_of p new
move_is source flat m new o p h e = is_move (move source flat m) o new h ∙ ap (λ x. move_of x new) e

done_says : (source : Module) (flat : FlatCode) (r : Run) (m : Machine) → SaysMove source flat r (Ends m.operands m.state.meter) → Says source flat r (paused.Done (slice_get m.operands 0)) m
done_says source flat (Normal vs s) m h = let e : m.operands ≡ vs = cc in let f : m.state.meter ≡ s.meter = cc in (ap (λ (x : List Value). slice_get x 0) e, f)
done_says source flat (Branch k vs s) m h = h
done_says source flat (Return vs s) m h = h
done_says source flat (Trap e meter) m h = cc
done_says source flat (Spent meter) m h = cc
done_says source flat Stuck m h = h
done_says source flat (Ask f args memory meter on) m h = let e = h.2 in cc

trap_says : (source : Module) (flat : FlatCode) (r : Run) (k : TrapKind) (m : Machine) → SaysMove source flat r (Traps k m.state.meter) → Says source flat r (paused.Trap k) m
trap_says source flat (Normal vs s) k m h = cc
trap_says source flat (Branch d vs s) k m h = h
trap_says source flat (Return vs s) k m h = h
trap_says source flat (Trap e meter) k m h = let a : k ≡ e = cc in let b : m.state.meter ≡ meter = cc in (a, b)
trap_says source flat (Spent meter) k m h = cc
trap_says source flat Stuck k m h = h
trap_says source flat (Ask g args memory meter on) k m h = let e = h.2 in cc

spent_says : (source : Module) (flat : FlatCode) (r : Run) (m : Machine) → SaysMove source flat r (RunsOut m.state.meter) → Says source flat r paused.Spent m
spent_says source flat (Normal vs s) m h = cc
spent_says source flat (Branch d vs s) m h = h
spent_says source flat (Return vs s) m h = h
spent_says source flat (Trap e meter) m h = cc
spent_says source flat (Spent meter) m h = cc
spent_says source flat Stuck m h = h
spent_says source flat (Ask g args memory meter on) m h = let e = h.2 in cc

ask_says : (source : Module) (flat : FlatCode) (r : Run) (f : ℕ) (ws : Vec ℕ Global) (q : BlockType) (m : Machine) → SaysMove source flat r (Asks f ws.items q m) → Says source flat r (paused.HostCall f ws q) m
ask_says source flat (Normal vs s) f ws q m h = cc
ask_says source flat (Branch d vs s) f ws q m h = h
ask_says source flat (Return vs s) f ws q m h = h
ask_says source flat (Trap e meter) f ws q m h = cc
ask_says source flat (Spent meter) f ws q m h = cc
ask_says source flat Stuck f ws q m h = h
ask_says source flat (Ask g args memory meter on) f ws q m h =
    let e = h.2 in
    let same : f ≡ g = cc in
    let same_args : ws.items ≡ args = cc in
    let same_result : h.0 ≡ q = cc in
    let same_machine : h.1 ≡ m = cc in (
      same,
      same_args,
      subst (λ (n : Machine). n.state.store.memory.bytes ≡ memory) same_machine h.3,
      subst (λ (n : Machine). n.state.meter ≡ meter) same_machine h.4,
      subst (λ (n : Machine). Waits source flat n q on) same_machine (subst (λ (x : BlockType). Waits source flat h.1 x on) same_result h.5),
    )

-- where the machine's move does not go on
pub says_done : (source : Module) (flat : FlatCode) (m new : Machine) (r : Run) (o : Outcome) → Behaves source flat m r → IsMove (move source flat m) o new → o ≡ outcome.Ends → Says source flat r (paused.Done (slice_get new.operands 0)) new
says_done source flat m new r o h g e = done_says source flat r new (now_says source flat m r (Ends new.operands new.state.meter) h (move_is source flat m new o outcome.Ends g e) tt)

pub says_trap : (source : Module) (flat : FlatCode) (m new : Machine) (r : Run) (o : Outcome) (k : TrapKind) → Behaves source flat m r → IsMove (move source flat m) o new → o ≡ outcome.Traps k → Says source flat r (paused.Trap k) new
says_trap source flat m new r o k h g e = trap_says source flat r k new (now_says source flat m r (Traps k new.state.meter) h (move_is source flat m new o (outcome.Traps k) g e) tt)

pub says_spent : (source : Module) (flat : FlatCode) (m new : Machine) (r : Run) (o : Outcome) → Behaves source flat m r → IsMove (move source flat m) o new → o ≡ outcome.RunsOut → Says source flat r paused.Spent new
says_spent source flat m new r o h g e = spent_says source flat r new (now_says source flat m r (RunsOut new.state.meter) h (move_is source flat m new o outcome.RunsOut g e) tt)

pub says_ask : (source : Module) (flat : FlatCode) (m new : Machine) (r : Run) (o : Outcome) (f : ℕ) (ws : Vec ℕ Global) (q : BlockType) → Behaves source flat m r → IsMove (move source flat m) o new → o ≡ outcome.Asks f ws q → Says source flat r (paused.HostCall f ws q) new
says_ask source flat m new r o f ws q h g e = ask_says source flat r f ws q new (now_says source flat m r (Asks f ws.items q new) h (move_is source flat m new o (outcome.Asks f ws q) g e) tt)
