-- Among the functions of a host, calls that differ in the count alone come to the same.
use Rattle.std.proofs.Common.{◌≡◌, ℕ, List, map, reverse, refl, ap, ◌∙◌, arith}
use Rattle.budget_meter.specs.Meter.{Meter}
use Rattle.wasm_spec.specs.declared.values.Value.TheVariants as value
use Rattle.wasm_spec.specs.Runs.{Run, Normal, Branch, Return, Trap, Spent, Stuck, Ask}
use Rattle.wasm_spec.specs.Meaning.{MOST_CALLS, call_of, beginning, meaning}
use Rattle.wasm_spec.specs.Worlds.{Reply, Answers, Quits, Host, End, after_reply, interp}
use Rattle.wasm_spec.specs.Spending.{IsLater}
use Rattle.wasm_machine.proofs.Lemmas.{Alike, Twins, begins_enough, call_alike}
use Rattle.wasm_spec.specs.Sums.{IsLaterReply, NeverLowers}
use Rattle.wasm_run.specs.Laws.{SameWithMore}

module _ {W Q : Type 0} (host : Host W Q) (never : NeverLowers host) where
  reply_same : (b : Meter) (x : Reply W Q) (go og : ℕ → List ℕ → Meter → W → End W Q) → IsLaterReply b x → ((v : ℕ) (bytes : List ℕ) (c : Meter) (w : W) → IsLater b c → og v bytes c w ≡ go v bytes c w) → after_reply x og ≡ after_reply x go
  reply_same b (Answers w v bytes c) go og later h = h v bytes c w later
  reply_same b (Quits q) go og later h = refl

  interp_alike : (j k : ℕ) (r q : Run) (w : W) → Alike j k r q → interp host q w ≡ interp host r w
  interp_alike j k (Normal ops s) q w h = ap (λ (x : Run). interp host x w) h.1
  interp_alike j k (Branch d ops s) q w h = ap (λ (x : Run). interp host x w) h.1
  interp_alike j k (Return ops s) q w h = ap (λ (x : Run). interp host x w) h.1
  interp_alike j k (Trap kind b) q w h = ap (λ (x : Run). interp host x w) h
  interp_alike j k (Spent b) q w h = ap (λ (x : Run). interp host x w) h
  interp_alike j k Stuck q w h = ap (λ (x : Run). interp host x w) h
  interp_alike j k (Ask f args memory b on) q w h =
      ap (λ (x : Run). interp host x w) h.1
      ∙ reply_same b (host f args memory b w) (λ v bytes c u. interp host (on v bytes c) u) (λ v bytes c u. interp host (h.0 v bytes c) u) (never f args memory b w)
      (λ v bytes c u later. interp_alike j k (on v bytes c) (h.0 v bytes c) u (h.2 v bytes c later))

-- A larger count does not change the outcome of a call.
pub same_with_more : {W Q : Type 0} → SameWithMore W Q
same_with_more {W} {Q} host m f args store b w n never small one le =
    let s = beginning store b in
    let tw : Twins s n = record { enough = begins_enough store b small; other = omega arith; costs = one } in
    interp_alike host never s.left n (meaning m f args store b) (call_of m MOST_CALLS f (reverse (map value.I64 args)) (record s { left = n })) w (call_alike m MOST_CALLS f (reverse (map value.I64 args)) s n tw)
