-- The start of a frame's run.
use Rattle.std.proofs.Common.{◌≡◌, ℕ, ◌*◌, List, [], ◌∷◌, Result, Ok, Err, refl, sym, ap, ◌∙◌, subst}
use Rattle.std.specs.Prelude.{Vec}
use Rattle.std.specs.declared.alloc.Global.{Global}
use Rattle.budget_meter.specs.Meter.{Meter}
use Rattle.budget_meter.specs.declared.kind.Kind.TheVariants.{MemAlloc, InvokeVmFunction}
use Rattle.value_types.specs.Datum.{Datum}
use Rattle.wasm_spec.specs.declared.types.ResizableLimits.{ResizableLimits}
use Rattle.wasm_spec.specs.Stores.{PAGE}
use Rattle.host_spec.specs.Acts.{charged}
use Rattle.host_spec.specs.VecRows.{all_given}
use Rattle.host_spec.specs.declared.error.HostErr.{HostErr}
use Rattle.call_spec.specs.World.{World}
use Rattle.call_spec.specs.Acts.{Act, Out, then_do, gives, lift, paying}
use Rattle.call_spec.specs.Frames.{paying_pages}
use Rattle.call_spec.specs.Outcomes.{quiet, Says}
use Rattle.call_parts.specs.Steps.{Charges, Shows}
use Rattle.call_host.specs.Framed.{argument_words}
use Rattle.call_host.proofs.Joining.{says_stopped, traced}
use Rattle.call_host.proofs.Splitting.{joined, same_after}

run_first : {A : Type 0} (next : Act A) (w : World) → paying InvokeVmFunction 1 next w ≡ then_do (paying InvokeVmFunction 1 (gives (tt {0})) w) (λ _. next)
run_first next w = sym (joined (lift (charged InvokeVmFunction 1) w) (λ _. gives (tt {0})) (λ _. next))

pub charges_first : {A : Type 0} (memories : List ResizableLimits) (next : Act A) (w : World)
    → paying_pages memories (paying InvokeVmFunction 1 next) w ≡ then_do (paying_pages memories (paying InvokeVmFunction 1 (gives (tt {0}))) w) (λ _. next)
charges_first [] next w = run_first next w
charges_first (limits ∷ more) next w =
    let paid = lift (charged MemAlloc (PAGE * limits.min)) w in
    same_after paid (λ _. paying InvokeVmFunction 1 next) (λ _ u. then_do (paying InvokeVmFunction 1 (gives (tt {0})) u) (λ _. next)) (λ _ u. run_first next u)
    ∙ sym (joined paid (λ _. paying InvokeVmFunction 1 (gives (tt {0}))) (λ _. next))

abbrev pub words_of : Vec ℕ Global → List ℕ
words_of words = words.items

pub words_shown : (before mid after : Meter) (old new : List Datum) (memories : List ResizableLimits) (args : List Datum) (r : Result (Vec ℕ Global) HostErr)
    → (let paid : Result (Unit {0}) HostErr = Ok tt in Charges paid (λ u. u) (paying_pages memories (paying InvokeVmFunction 1 (gives (tt {0})))) before mid) → Shows r words_of (all_given args) old new mid after
    → (w : World) → w.frame.shown ≡ old → w.meter ≡ before
    → Says r words_of (argument_words memories args w) (quiet w (λ trace. record w { frame = record w.frame { shown = new }; trace = trace; meter = after }))
words_shown before mid after old new memories args r charges shows w i j =
    traced r words_of (argument_words memories args w) (λ trace. trace ≡ w.trace) (record w { frame = record w.frame { shown = new }; meter = after })
    (subst (λ (o : Out (List ℕ)). Says r words_of o (quiet w (λ trace. record w { frame = record w.frame { shown = new }; meter = after })))
    (sym (charges_first memories (lift (all_given args)) w ∙ ap (λ o. then_do o (λ _. lift (all_given args))) (charges w j).1)) (shows (record w { meter = mid }) i refl))

pub words_stopped : (e : HostErr) (before mid : Meter) (old : List Datum) (memories : List ResizableLimits) (args : List Datum)
    → (let paid : Result (Unit {0}) HostErr = Err e in Charges paid (λ u. u) (paying_pages memories (paying InvokeVmFunction 1 (gives (tt {0})))) before mid)
    → (w : World) → w.frame.shown ≡ old → w.meter ≡ before
    → (let none : Result (Vec ℕ Global) HostErr = Err e in Says none words_of (argument_words memories args w) (quiet w (λ trace. record w { frame = record w.frame { shown = old }; trace = trace; meter = mid })))
words_stopped e before mid old memories args charges w i j =
    let none : Result (Vec ℕ Global) HostErr = Err e in
    traced none words_of (argument_words memories args w) (λ trace. trace ≡ w.trace) (record w { frame = record w.frame { shown = old }; meter = mid })
    (subst (λ (z : List Datum). Says none words_of (argument_words memories args w) (quiet w (λ trace. record w { frame = record w.frame { shown = z }; meter = mid }))) i
    (says_stopped (λ u. u) words_of e (λ _. lift (all_given args)) (paying_pages memories (paying InvokeVmFunction 1 (gives (tt {0}))) w) (argument_words memories args w) (λ trace. trace ≡ w.trace) (record w { meter = mid })
    (charges_first memories (lift (all_given args)) w) (charges w j)))
