-- As many words as arguments.
use Rattle.std.proofs.Common.{◌≡◌, ℕ, suc, List, [], ◌∷◌, length, None, Result, Ok, Err, refl, sym, ap, subst}
use Rattle.std.specs.FinMap.{empty}
use Rattle.std.specs.Prelude.{Vec, IfOk}
use Rattle.std.specs.declared.alloc.Global.{Global}
use Rattle.budget_meter.specs.Meter.{Meter}
use Rattle.value_types.specs.Datum.{Datum}
use Rattle.wasm_spec.specs.declared.types.ResizableLimits.{ResizableLimits}
use Rattle.host_spec.specs.Acts as values
use Rattle.host_spec.specs.Answers.{value, given}
use Rattle.host_spec.specs.VecRows.{all_given}
use Rattle.host_spec.specs.declared.error.HostErr.{HostErr}
use Rattle.budget_meter.specs.declared.kind.Kind.TheVariants.{InvokeVmFunction}
use Rattle.call_spec.specs.World.{World, outside}
use Rattle.call_spec.specs.Acts.{Out, Good, Bad, Undeclared, then_do, gives, lift, lifted, paying, state_of}
use Rattle.call_spec.specs.Frames.{paying_pages}
use Rattle.call_spec.specs.Outcomes.{quiet, Says}
use Rattle.call_host.specs.Framed.{argument_words}
use Rattle.call_host.proofs.Beginning.{charges_first, words_of}

abbrev IsGiven : values.Out (List ℕ) → ℕ → Type 0
IsGiven (values.Good ws s) n = length ws ≡ n
IsGiven (values.Failed e s) n = Unit {0}
IsGiven (values.Spent s) n = Unit {0}

abbrev IsCounted : Out (List ℕ) → ℕ → Type 0
IsCounted (Good ws w) n = length ws ≡ n
IsCounted (Bad e w) n = Unit {0}
IsCounted (Undeclared a w) n = Unit {0}

one_more : (word : ℕ) (o : values.Out (List ℕ)) (n : ℕ) → IsGiven o n → IsGiven (values.then_do o (λ words. values.gives (word ∷ words))) (suc n)
one_more word (values.Good ws s) n h = ap suc h
one_more word (values.Failed e s) n h = tt
one_more word (values.Spent s) n h = tt

after_one : (o : values.Out ℕ) (ds : List Datum) → ((s : values.State) → IsGiven (all_given ds s) (length ds))
    → IsGiven (values.then_do o (λ word u. values.then_do (all_given ds u) (λ words. values.gives (word ∷ words)))) (suc (length ds))
after_one (values.Good word u) ds h = one_more word (all_given ds u) (length ds) (h u)
after_one (values.Failed e s) ds h = tt
after_one (values.Spent s) ds h = tt

all_counted : (ds : List Datum) (s : values.State) → IsGiven (all_given ds s) (length ds)
all_counted [] s = refl
all_counted (d ∷ ds) s = after_one (given (value d) s) ds (all_counted ds)

lifted_counted : (w : World) (o : values.Out (List ℕ)) (n : ℕ) → IsGiven o n → IsCounted (lifted w o) n
lifted_counted w (values.Good ws s) n h = h
lifted_counted w (values.Failed e s) n h = tt
lifted_counted w (values.Spent s) n h = tt

after_charges : (o : Out (Unit {0})) (ds : List Datum) → IsCounted (then_do o (λ _. lift (all_given ds))) (length ds)
after_charges (Good u w) ds = lifted_counted w (all_given ds (state_of w)) (length ds) (all_counted ds (state_of w))
after_charges (Bad e w) ds = tt
after_charges (Undeclared a w) ds = tt

words_counted : (memories : List ResizableLimits) (ds : List Datum) (w : World) → IsCounted (argument_words memories ds w) (length ds)
words_counted memories ds w =
    subst (λ o. IsCounted o (length ds)) (sym (charges_first memories (lift (all_given ds)) w)) (after_charges (paying_pages memories (paying InvokeVmFunction 1 (gives (tt {0}))) w) ds)

pub counted : (r : Result (Vec ℕ Global) HostErr) (memories : List ResizableLimits) (ds shown new : List Datum) (before after : Meter)
    → ((w : World) → w.frame.shown ≡ shown → w.meter ≡ before → Says r words_of (argument_words memories ds w) (quiet w (λ trace. record w { frame = record w.frame { shown = new }; trace = trace; meter = after })))
    → IfOk r (λ words. length words.items ≡ length ds)
counted (Ok words) memories ds shown new before after does =
    let w : World = record { entries = empty; events = []; pairs = []; noted = None; frame = record outside { shown = shown }; contracts = []; trace = []; meter = before } in
    subst (λ o. IsCounted o (length ds)) (does w refl refl).1 (words_counted memories ds w)
counted (Err e) memories ds shown new before after does = tt
