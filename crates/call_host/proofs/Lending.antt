-- Parts of the state, lent.
use Rattle.std.proofs.Common.{◌≡◌, Result, Ok, Err, refl, sym, subst}
use Rattle.budget_meter.specs.Meter.{Meter}
use Rattle.host_spec.specs.Answers.{Answer}
use Rattle.host_spec.specs.declared.error.HostErr.{HostErr}
use Rattle.host_spec.specs.declared.error.HostErr.TheVariants as ends
use Rattle.object_store.specs.Shown.{shown_of}
use Rattle.call_spec.specs.World.{Env}
use Rattle.call_spec.specs.Acts.{Failed, Bad, Act}
use Rattle.host_frame.specs.Answered.{answer_of}
use Rattle.host_frame.specs.declared.answer.Answer.{Answer as Answer'}
use Rattle.call_spec.specs.Outcomes.{trace_of}
use Rattle.host_ledger.proofs.Lemmas.{quietly}
use Rattle.call_host.specs.Worlds.{world_in}
use Rattle.call_host.specs.Taken.{Takes, TakesIn}
use Rattle.call_host.specs.declared.host.Host.{Host}
use Rattle.host_ledger.specs.declared.state.HostLedger.{HostLedger}

-- the state with another budget
abbrev pub paid : {G V : Type 0} → HostLedger G V → Meter → HostLedger G V
paid l m = record l { budget = m }

abbrev pub around : {G U V : Type 0} → Host G U V → HostLedger G V → Host G U V
around h l = record h { ledger = l }

taken_by : {A G U V : Type 0} (r : Result A HostErr) (act : Env → Act Answer) (next : Env → A → Act Answer) (old : Host G U V) (m : Meter)
    → ((env : Env) → Takes r (act env) (next env) (shown_of old.ledger.objects old.ledger.frame.shown) old.ledger.budget m) → TakesIn r act next old (around old (paid old.ledger m))
taken_by (Ok a) act next old m h = (refl, λ env is rest trace. h env (world_in rest old trace) refl refl)
taken_by (Err (ends.Failed d)) act next old m h = λ env is rest trace.
    let none : Result Answer' HostErr = Err (ends.Failed d) in
    let w = world_in rest old trace in
    let p = h env w refl refl in
    quietly none answer_of (act env w) old.ledger.storage w (world_in rest (around old (paid old.ledger m)))
    (p.0, subst (λ o. o ≡ Bad (Failed d) (world_in rest (around old (paid old.ledger m)) (trace_of o))) (sym p.1) refl)
taken_by (Err ends.Spent) act next old m h = λ env is rest trace.
    let none : Result Answer' HostErr = Err ends.Spent in
    let w = world_in rest old trace in
    quietly none answer_of (act env w) old.ledger.storage w (world_in rest (around old (paid old.ledger m))) (h env w refl refl)
taken_by (Err (ends.Archived key)) act next old m h = λ env is rest trace.
    let none : Result Answer' HostErr = Err (ends.Archived key) in
    let w = world_in rest old trace in
    quietly none answer_of (act env w) old.ledger.storage w (world_in rest (around old (paid old.ledger m))) (h env w refl refl)
taken_by (Err (ends.Undeclared key)) act next old m h = λ env is rest trace.
    let none : Result Answer' HostErr = Err (ends.Undeclared key) in
    let w = world_in rest old trace in
    quietly none answer_of (act env w) old.ledger.storage w (world_in rest (around old (paid old.ledger m))) (h env w refl refl)
taken_by (Err ends.NoMemory) act next old m h = λ env is rest trace. tt

pub taken_in : {A G U V : Type 0} (r : Result A HostErr) (act : Env → Act Answer) (next : Env → A → Act Answer) (old : Host G U V) (new : HostLedger G V) → new ≡ paid old.ledger new.budget
    → ((env : Env) → Takes r (act env) (next env) (shown_of old.ledger.objects old.ledger.frame.shown) old.ledger.budget new.budget) → TakesIn r act next old (around old new)
taken_in r act next old new e h = subst (λ l. TakesIn r act next old (around old l)) (sym e) (taken_by r act next old new.budget h)
