-- No run of code lowers the sums of the budget, with a host that lowers none. The run's host is cut off at each of its calls in turn.
use Rattle.std.proofs.Common.{◌≡◌, ℕ, zero, suc, List, [], ◌∷◌, subst}
use Rattle.budget_meter.specs.Meter.{Meter}
use Rattle.wasm_spec.specs.declared.values.Value.{Value}
use Rattle.wasm_spec.specs.declared.values.Value.TheVariants.{I32, I64}
use Rattle.wasm_spec.specs.declared.module.Module.{Module}
use Rattle.wasm_spec.specs.Stores.{Store}
use Rattle.wasm_spec.specs.Runs.{Run, Normal, Branch, Return, Trap, Spent as SpentRun, Stuck, Ask}
use Rattle.wasm_spec.specs.Meaning.{meaning}
use Rattle.wasm_spec.specs.Worlds.{Reply, Answers, Quits, Host, after_reply, interp}
use Rattle.wasm_spec.specs.Spending.{IsLater}
use Rattle.wasm_spec.proofs.Lemmas.{later, same}
use Rattle.wasm_spec.specs.Sums.{IsLaterReply, NeverLowers, QuitsLater, EndsLater}
use Rattle.wasm_spec.proofs.Lemmas.{sums_grow}
use Rattle.call_spec.specs.World.{World}
use Rattle.call_spec.specs.Acts.{Out, Good, Bad, Undeclared, world_of, then_do}
use Rattle.call_spec.specs.Frames.{HostCalls, asking, returned, runs}

abbrev Cut : Type 0
Cut = World × ℕ

abbrev cut_reply : Out ℕ → ℕ → Reply Cut Meter
cut_reply (Good word u) n = Answers (u, n) word u.frame.memory u.meter
cut_reply (Bad e u) n = Quits u.meter
cut_reply (Undeclared a u) n = Quits u.meter

-- the host answers this many calls and quits at the next one
abbrev cut_at : HostCalls → ℕ → ℕ → List ℕ → List ℕ → Meter → World → Reply Cut Meter
cut_at host zero f words memory meter w = Quits meter
cut_at host (suc n) f words memory meter w = cut_reply (host f words (asking memory meter w)) n

abbrev cut : HostCalls → Host Cut Meter
cut host f words memory meter s = cut_at host s.1 f words memory meter s.0

abbrev itself : Meter → Meter
itself b = b

quits_same : (a b : Meter) → ◌≡◌ {A = Reply Cut Meter} (Quits a) (Quits b) → a ≡ b
quits_same a b e = cc

returned_later : (b : Meter) (vs : List Value) (w : World) → IsLater b w.meter → IsLater b (world_of (returned vs w)).meter
returned_later b [] w h = h
returned_later b (I32 x ∷ vs) w h = h
returned_later b (I64 x ∷ []) w h = h
returned_later b (I64 x ∷ v ∷ vs) w h = h

module _ (host : HostCalls) (rises : (f : ℕ) (words : List ℕ) (w : World) → IsLater w.meter (world_of (host f words w)).meter) where
  reply_later : (b : Meter) (o : Out ℕ) (n : ℕ) → IsLater b (world_of o).meter → IsLaterReply b (cut_reply o n)
  reply_later b (Good word u) n h = h
  reply_later b (Bad e u) n h = tt
  reply_later b (Undeclared a u) n h = tt

  never_at : (n f : ℕ) (words memory : List ℕ) (b : Meter) (w : World) → IsLaterReply b (cut_at host n f words memory b w)
  never_at zero f words memory b w = tt
  never_at (suc n) f words memory b w = reply_later b (host f words (asking memory b w)) n (rises f words (asking memory b w))

  never : NeverLowers (cut host)
  never f words memory b s = never_at s.1 f words memory b s.0

  reply_quits : (b : Meter) (o : Out ℕ) (n : ℕ) → IsLater b (world_of o).meter → (q : Meter) → cut_reply o n ≡ Quits q → IsLater b q
  reply_quits b (Good word u) n h q e = absurd cc
  reply_quits b (Bad d u) n h q e = subst (IsLater b) (quits_same u.meter q e) h
  reply_quits b (Undeclared a u) n h q e = subst (IsLater b) (quits_same u.meter q e) h

  quits_at : (n f : ℕ) (words memory : List ℕ) (b : Meter) (w : World) (q : Meter) → cut_at host n f words memory b w ≡ Quits q → IsLater b q
  quits_at zero f words memory b w q e = subst (IsLater b) (quits_same b q e) (same b)
  quits_at (suc n) f words memory b w q e = reply_quits b (host f words (asking memory b w)) n (rises f words (asking memory b w)) q e

  quits : QuitsLater itself (cut host)
  quits f words memory b s q e = quits_at s.1 f words memory b s.0 q e

  abbrev Ends : Meter → Run → World → Type 0
  Ends b run w = (n : ℕ) → EndsLater itself b (interp (cut host) run (w, n))

  asked_later : (b : Meter) (o : Out ℕ) (on : ℕ → List ℕ → Meter → Run) → IsLater b (world_of o).meter
      → ((n : ℕ) → EndsLater itself b (after_reply (cut_reply o n) (λ v bytes c. interp (cut host) (on v bytes c))))
      → ((v : ℕ) (u : World) → IsLater b u.meter → Ends b (on v u.frame.memory u.meter) u → IsLater b (world_of (runs host (on v u.frame.memory u.meter) u)).meter)
      → IsLater b (world_of (then_do o (λ v u. runs host (on v u.frame.memory u.meter) u))).meter
  asked_later b (Good v u) on h ends next = next v u h ends
  asked_later b (Bad e u) on h ends next = h
  asked_later b (Undeclared a u) on h ends next = h

  run_later : (b : Meter) (run : Run) (w : World) → IsLater b w.meter → Ends b run w → IsLater b (world_of (runs host run w)).meter
  run_later b (Normal vs s) w h ends = returned_later b vs (record w { meter = s.meter }) (ends zero)
  run_later b (Branch depth vs s) w h ends = h
  run_later b (Return vs s) w h ends = h
  run_later b (Trap kind meter) w h ends = ends zero
  run_later b (SpentRun meter) w h ends = ends zero
  run_later b Stuck w h ends = h
  run_later b (Ask f words memory meter on) w h ends =
      asked_later b (host f words (asking memory meter w)) on
      (later b meter (world_of (host f words (asking memory meter w))).meter (ends zero) (rises f words (asking memory meter w)))
      (λ n. ends (suc n)) (λ v u l e. run_later b (on v u.frame.memory u.meter) u l e)

  pub whole_later : (m : Module) (f : ℕ) (args : List ℕ) (store : Store) (w : World) → IsLater w.meter (world_of (runs host (meaning m f args store w.meter) w)).meter
  whole_later m f args store w =
      run_later w.meter (meaning m f args store w.meter) w (same w.meter) (λ n. sums_grow itself (cut host) m f args store w.meter (w, n) never quits)
