-- Runs of the same code under two budgets, with the functions of two hosts that a relation of acts holds of.
use Rattle.std.proofs.Common.{ℕ, List, [], ◌∷◌}
use Rattle.budget_meter.specs.Meter.{Meter}
use Rattle.value_types.specs.declared.error.ScError.{ScError}
use Rattle.value_types.specs.declared.error.ScError.TheVariants as errors
use Rattle.wasm_spec.specs.declared.values.Value.{Value}
use Rattle.wasm_spec.specs.declared.values.Value.TheVariants.{I32, I64}
use Rattle.wasm_spec.specs.Runs.{Run, Normal, Branch, Return, Trap, Spent as SpentRun, Stuck, Ask}
use Rattle.call_spec.specs.Errors.{IMPOSSIBLE}
use Rattle.call_spec.specs.Acts.{Spent, Bad, Act, then_do, gives, fails}
use Rattle.call_spec.specs.Frames.{trap_code, HostCalls, metered, asking, returned, runs}
use Rattle.record_spec.proofs.Unmetered.{AlikeRuns, spent, spends, normal, branches, returns, traps, stuck, asks}

-- ---- what holds of a run

-- a property of acts that the steps of a run keep
pub record RunsKept (P : Act ℕ → Type 0) (host : HostCalls) : Type 0 where
  pub spent : P (λ w. Bad Spent w)
  pub gives : (word : ℕ) → P (gives word)
  pub fails : (e : ScError) → P (fails e)
  pub metered : (a : Meter) (act : Act ℕ) → P act → P (λ w. act (metered a w))
  -- a call of the host, and what depends on its answer, the frame's memory and the budget
  pub asks : (f : ℕ) (words memory : List ℕ) (a : Meter) (next : ℕ → List ℕ → Meter → Act ℕ) → ((answer : ℕ) (bytes : List ℕ) (c : Meter) → P (next answer bytes c))
      → P (λ w. then_do (host f words (asking memory a w)) (λ answer u. next answer u.frame.memory u.meter u))

-- a property of acts that return a word and of acts that fail holds of the end of a run
returned_has : (P : Act ℕ → Type 0) → ((word : ℕ) → P (gives word)) → ((e : ScError) → P (fails e)) → (vs : List Value) → P (returned vs)
returned_has P good bad [] = bad IMPOSSIBLE
returned_has P good bad (I32 x ∷ vs) = bad IMPOSSIBLE
returned_has P good bad (I64 x ∷ []) = good x
returned_has P good bad (I64 x ∷ v ∷ vs) = bad IMPOSSIBLE

module _ (P : Act ℕ → Type 0) (host : HostCalls) (kept : RunsKept P host) where
  pub runs_kept : (run : Run) → P (runs host run)
  runs_kept (Normal vs s) = kept.metered s.meter (returned vs) (returned_has P kept.gives kept.fails vs)
  runs_kept (Branch depth vs s) = kept.fails IMPOSSIBLE
  runs_kept (Return vs s) = kept.fails IMPOSSIBLE
  runs_kept (Trap kind meter) = kept.metered meter (fails (errors.WasmVm (trap_code kind))) (kept.fails (errors.WasmVm (trap_code kind)))
  runs_kept (SpentRun meter) = kept.metered meter (λ w. Bad Spent w) kept.spent
  runs_kept Stuck = kept.fails IMPOSSIBLE
  runs_kept (Ask f words memory meter on) = kept.asks f words memory meter (λ v bytes c. runs host (on v bytes c)) (λ v bytes c. runs_kept (on v bytes c))

-- ---- what holds of two runs

-- a relation of acts that the steps of two runs keep, which call the functions of two hosts
pub record RunsClosed (R : Act ℕ → Act ℕ → Type 0) (host host' : HostCalls) : Type 0 where
  pub spent : (a : Meter) (run : Run) → R (runs host (SpentRun a)) (runs host' run)
  pub spends : (run : Run) (b : Meter) → R (runs host run) (runs host' (SpentRun b))
  pub gives : (word : ℕ) → R (gives word) (gives word)
  pub fails : (e : ScError) → R (fails e) (fails e)
  pub metered : (a b : Meter) (act act' : Act ℕ) → R act act' → R (λ w. act (metered a w)) (λ w. act' (metered b w))
  -- calls of the hosts, and what depends on the answer, the frame's memory and the budget
  pub asks : (f : ℕ) (words memory : List ℕ) (a b : Meter) (next next' : ℕ → List ℕ → Meter → Act ℕ) → ((answer : ℕ) (bytes : List ℕ) (c d : Meter) → R (next answer bytes c) (next' answer bytes d))
      → R (λ w. then_do (host f words (asking memory a w)) (λ answer u. next answer u.frame.memory u.meter u)) (λ w. then_do (host' f words (asking memory b w)) (λ answer u. next' answer u.frame.memory u.meter u))

module _ (R : Act ℕ → Act ℕ → Type 0) (host host' : HostCalls) (closed : RunsClosed R host host') where
  pub runs_related : {run run' : Run} → AlikeRuns run run' → R (runs host run) (runs host' run')
  runs_related (spent a run) = closed.spent a run
  runs_related (spends run b) = closed.spends run b
  runs_related (normal vs s b) = closed.metered s.meter b (returned vs) (returned vs) (returned_has (λ act. R act act) closed.gives closed.fails vs)
  runs_related (branches depth vs s b) = closed.fails IMPOSSIBLE
  runs_related (returns vs s b) = closed.fails IMPOSSIBLE
  runs_related (traps kind a b) = closed.metered a b (fails (errors.WasmVm (trap_code kind))) (fails (errors.WasmVm (trap_code kind))) (closed.fails (errors.WasmVm (trap_code kind)))
  runs_related stuck = closed.fails IMPOSSIBLE
  runs_related (asks f words memory a b on on' alike) =
      closed.asks f words memory a b (λ v bytes c. runs host (on v bytes c)) (λ v bytes d. runs host' (on' v bytes d)) (λ v bytes c d. runs_related (alike v bytes c d))
