-- The count of instructions never ends a run: where it stands at none, the budget has no room for one more.
use Rattle.std.proofs.Common.{◌≡◌, ℕ, zero, suc, ◌-◌, ◌^◌, ◌<◌, ◌≤◌, Bool, true, false, inl, inr, refl, sym, ap, arith}
use Rattle.std.specs.Prelude.{nat_le}
use Rattle.std.proofs.lemmas.Bool.{and_parts}
use borrow.Author.Tests.{leb-true}
use Rattle.budget_meter.specs.declared.kind.Kind.TheVariants.{WasmInsnExec}
use Rattle.budget_meter.specs.declared.budget.Limits.{Limits}
use Rattle.budget_meter.specs.Meter.{Meter, used_after}
use Rattle.wasm_spec.specs.Stores.{Store}
use Rattle.wasm_spec.specs.Runs.{State, Run, Spent, has_room, charged_if, charged, counted, executed}
use Rattle.wasm_spec.specs.Spending.{Enough, paid, PaidIfRoom}
use Rattle.wasm_spec.specs.Meaning.{beginning}
use Rattle.wasm_spec.specs.Spending.{IsLater}

no_room : (b : Bool) (m : Meter) → has_room m.limits (used_after m WasmInsnExec 1) ≡ b → m.limits.instructions ≤ m.used.instructions → 1 ≤ m.terms.wasm_insn_exec.instructions.constant → b ≡ false
no_room false m e le one = refl
no_room true m e le one =
    let used = used_after m WasmInsnExec 1 in
    let fits = leb-true used.instructions m.limits.instructions (and_parts (nat_le used.instructions m.limits.instructions) (nat_le used.memory m.limits.memory) e).0 in
    absurd (omega (arith, fits))

-- So an instruction is what its charge is.
counted_is : {A : Type 0} (n : ℕ) (spent : Meter → A) (s : State) (go : State → A) → s.left ≡ n → Enough s → 1 ≤ s.meter.terms.wasm_insn_exec.instructions.constant → counted n spent s go ≡ charged WasmInsnExec 1 spent (record s { left = n - 1 }) go
counted_is zero spent s go e enough one =
    let used = used_after s.meter WasmInsnExec 1 in
    ap (λ b. charged_if b spent (record s.meter { used = used }) (record s { left = 0 - 1 }) go) (sym (no_room (has_room s.meter.limits used) s.meter refl (omega (arith, enough)) one))
counted_is (suc n) spent s go e enough one = let q : n ≡ suc n - 1 = omega arith in ap (λ k. charged WasmInsnExec 1 spent (record s { left = k }) go) q

pub executed_is : {A : Type 0} (spent : Meter → A) (s : State) (go : State → A) → Enough s → 1 ≤ s.meter.terms.wasm_insn_exec.instructions.constant → executed spent s go ≡ charged WasmInsnExec 1 spent (record s { left = s.left - 1 }) go
executed_is spent s go enough one = counted_is s.left spent s go refl enough one

pub begins_enough : (store : Store) (b : Meter) → b.limits.instructions < 2 ^ 64 → Enough (beginning store b)
begins_enough store b h = omega arith

pub later_enough : (s : State) (b : Meter) → IsLater s.meter b → Enough s → Enough (record s { meter = b })
later_enough s b h enough = let same = ap (λ (l : Limits). l.instructions) h.limits in omega arith

pub some_left : (n : ℕ) (s : State) → s.left ≡ n → has_room s.meter.limits (used_after s.meter WasmInsnExec 1) ≡ true → 1 ≤ s.meter.terms.wasm_insn_exec.instructions.constant → Enough s → 1 ≤ s.left
some_left zero s e room one enough = let none = no_room true s.meter room (omega (arith, enough)) one in cc
some_left (suc n) s e room one enough = omega arith

-- An instruction that is paid for leaves enough, as it spends one at least.
pub paid_enough : (n : ℕ) (s : State) → s.left ≡ n → has_room s.meter.limits (used_after s.meter WasmInsnExec 1) ≡ true → 1 ≤ s.meter.terms.wasm_insn_exec.instructions.constant → Enough s → Enough (paid s)
paid_enough zero s e room one enough = let none = no_room true s.meter room (omega (arith, enough)) one in cc
paid_enough (suc n) s e room one enough = omega (arith, enough)

paid_if : (x : Bool) (s : State) (go : State → Run) (r : Run) → has_room s.meter.limits (used_after s.meter WasmInsnExec 1) ≡ x → 1 ≤ s.meter.terms.wasm_insn_exec.instructions.constant → Enough s
    → r ≡ charged_if x Spent (record s.meter { used = used_after s.meter WasmInsnExec 1 }) (record s { left = s.left - 1 }) go → PaidIfRoom s go r
paid_if false s go r room one enough e = inl (room, e)
paid_if true s go r room one enough e = inr (room, paid_enough s.left s refl room one enough, e)

pub executed_paid : (s : State) (go : State → Run) → Enough s → 1 ≤ s.meter.terms.wasm_insn_exec.instructions.constant → PaidIfRoom s go (executed Spent s go)
executed_paid s go enough one = paid_if (has_room s.meter.limits (used_after s.meter WasmInsnExec 1)) s go (executed Spent s go) refl one enough (executed_is Spent s go enough one)
