-- The sums of a run: with a host that lowers none, no call lowers any (own).
use Rattle.std.specs.Prelude.{◌≡◌, ℕ, List}
use Rattle.budget_meter.specs.Meter.{Meter}
use Rattle.wasm_spec.specs.declared.module.Module.{Module}
use Rattle.wasm_spec.specs.Stores.{Store}
use Rattle.wasm_spec.specs.Spending.{IsLater}
use Rattle.wasm_spec.specs.Meaning.{meaning}
use Rattle.wasm_spec.specs.Worlds.{Reply, Answers, Quits, Host, End, Returned, Trapped, Exhausted, Quit, Broken, interp}

-- a reply of a host that lowers no sum and keeps the limits and terms
abbrev pub IsLaterReply : {W Q : Type 0} → Meter → Reply W Q → Type 0
IsLaterReply b (Answers w v memory c) = IsLater b c
IsLaterReply b (Quits q) = Unit {0}

-- each reply of the host is such a reply
abbrev pub NeverLowers : {W Q : Type 0} → Host W Q → Type 0
NeverLowers {W} {Q} host = (f : ℕ) (args memory : List ℕ) (b : Meter) (w : W) → IsLaterReply b (host f args memory b w)

-- the host quits with sums that are no lower than before the call
abbrev pub QuitsLater : {W Q : Type 0} → (Q → Meter) → Host W Q → Type 0
QuitsLater {W} {Q} sums host =
    (f : ℕ) (args memory : List ℕ) (b : Meter) (w : W) (q : Q) → host f args memory b w ≡ Quits q → IsLater b (sums q)

-- the end of a run has sums that are no lower, with the same limits and terms
abbrev pub EndsLater : {W Q : Type 0} → (Q → Meter) → Meter → End W Q → Type 0
EndsLater sums b (Returned results c w) = IsLater b c
EndsLater sums b (Trapped kind c w) = IsLater b c
EndsLater sums b (Exhausted c w) = IsLater b c
EndsLater sums b (Quit q) = IsLater b (sums q)
EndsLater sums b Broken = Unit {0}

-- With a host that never lowers the sums, no call lowers them. So a host whose functions call modules never lowers them either,
-- by induction on the calls that can still be opened.
abbrev pub SumsGrow : Type 0 → Type 0 → Type 0
SumsGrow W Q = (sums : Q → Meter) (host : Host W Q) (m : Module) (f : ℕ) (args : List ℕ) (store : Store) (b : Meter) (w : W)
    → NeverLowers host → QuitsLater sums host → EndsLater sums b (interp host (meaning m f args store b) w)
