-- Hosts folded over runs.
use Rattle.std.proofs.Common.{◌≡◌, ◌≢◌, ℕ, List, [], ◌∷◌, length, sym, ap, ◌∙◌, subst}
use Rattle.budget_meter.specs.Meter.{Meter}
use Rattle.wasm_spec.specs.declared.types.ValueType.TheVariants.{I64}
use Rattle.wasm_spec.specs.declared.values.Value.{Value}
use Rattle.wasm_spec.specs.declared.values.Value.TheVariants as value
use Rattle.wasm_spec.specs.declared.values.TrapKind.{TrapKind}
use Rattle.wasm_spec.specs.Runs.{Normal, Branch, Return, Trap, Spent, Stuck, Ask}
use Rattle.wasm_spec.specs.Meaning.{meaning}
use Rattle.wasm_spec.specs.Worlds.{Host, End, Returned, Trapped, Exhausted, Broken, after_reply, interp}
use Rattle.wasm_spec.proofs.Lemmas.{IsWhole, begins, interp_whole, meaning_good}
use Rattle.wasm_run.specs.declared.instance.Event.TheVariants as event
use Rattle.wasm_run.specs.Laws.{EventsFold, NeverBreaks}

module _ {W Q : Type 0} where
  asked : (host : Host W Q) (f : ℕ) (words memory : List ℕ) (g : ℕ) (args bytes : List ℕ) (b meter : Meter) (w : W) (go : ℕ → List ℕ → Meter → W → End W Q) → g ≡ f → words ≡ args → bytes ≡ memory → b ≡ meter → after_reply (host f args memory meter w) go ≡ after_reply (host g words bytes b w) go
  asked host f words memory g args bytes b meter w go eg ew em eb =
      ap (λ x. after_reply (host x args memory meter w) go) (sym eg) ∙ ap (λ x. after_reply (host g x memory meter w) go) (sym ew) ∙ ap (λ x. after_reply (host g words x meter w) go) (sym em) ∙ ap (λ x. after_reply (host g words bytes x w) go) (sym eb)

  pub events_fold : EventsFold W Q
  events_fold host (Normal ops s) (event.Done n) b i w h = ap (λ (x : List Value). Returned x s.meter w) h.0 ∙ ap (λ (x : Meter). Returned (value.I64 n ∷ []) x w) (sym h.1)
  events_fold host (Normal ops s) (event.Trap k) b i w h = absurd h
  events_fold host (Normal ops s) event.Spent b i w h = absurd h
  events_fold host (Normal ops s) (event.HostCall f words) b i w h = absurd h
  events_fold host (Branch k ops s) e b i w h = absurd h
  events_fold host (Return ops s) e b i w h = absurd h
  events_fold host (Trap kind meter) (event.Done n) b i w h = absurd h
  events_fold host (Trap kind meter) (event.Trap k) b i w h = ap (λ (x : TrapKind). Trapped x meter w) (sym h.0) ∙ ap (λ (x : Meter). Trapped k x w) (sym h.1)
  events_fold host (Trap kind meter) event.Spent b i w h = absurd h
  events_fold host (Trap kind meter) (event.HostCall f words) b i w h = absurd h
  events_fold host (Spent meter) (event.Done n) b i w h = absurd h
  events_fold host (Spent meter) (event.Trap k) b i w h = absurd h
  events_fold host (Spent meter) event.Spent b i w h = ap (λ (x : Meter). Exhausted x w) (sym h)
  events_fold host (Spent meter) (event.HostCall f words) b i w h = absurd h
  events_fold host Stuck e b i w h = absurd h
  events_fold host (Ask f args memory meter on) (event.Done n) b i w h = absurd h
  events_fold host (Ask f args memory meter on) (event.Trap k) b i w h = absurd h
  events_fold host (Ask f args memory meter on) event.Spent b i w h = absurd h
  events_fold host (Ask f args memory meter on) (event.HostCall g words) b i w h =
      (on, h.4, asked host f words memory g args i.store.memory.bytes b meter w (λ v bytes c u. interp host (on v bytes c) u) h.0 h.1 h.2 h.3)

  whole_not : (e : End W Q) → IsWhole e → e ≢ Broken
  whole_not e h q = subst IsWhole q h

  pub never_breaks : NeverBreaks W Q
  never_breaks host m export args f store b w typed e =
      whole_not (interp host (meaning m f args store b) w) (interp_whole host m [] (I64 ∷ []) (meaning m f args store b) w (meaning_good m args f store b typed (begins m export (length args) f store e)))
