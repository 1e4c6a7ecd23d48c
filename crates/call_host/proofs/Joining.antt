-- Acts one after another, as calls of the program do them.
use Rattle.std.proofs.Common.{◌≡◌, List, [], Option, Result, Ok, Err, sym, ap, ◌∙◌, subst}
use Rattle.budget_meter.specs.Meter.{Meter}
use Rattle.auth_spec.specs.Noted.{Notes}
use Rattle.host_spec.specs.declared.error.HostErr.{HostErr}
use Rattle.host_spec.specs.declared.error.HostErr.TheVariants as ends
use Rattle.call_spec.specs.World.{AccessKind, Access, World}
use Rattle.call_spec.specs.Acts.{Failure, Failed, Spent, Archived, Out, Good, Bad, Undeclared, Act, world_of, then_do}
use Rattle.call_spec.specs.Outcomes.{Leaves, Says, trace_of, stopped_kind}

-- how a state shows itself as a world
abbrev pub Showing : Type 0
Showing = World → List Access → World

-- what is known of the accesses at the end of an act
abbrev pub Telling : Type 1
Telling = List Access → Type 0

-- what an act leaves: the world that the state shows, and what is known of its accesses
abbrev pub lefts : Showing → Telling → World → Leaves
lefts shows told rest = record { world = shows rest; told = told }

-- the same of any worlds
abbrev pub knowing : Telling → (List Access → World) → Leaves
knowing told world = record { world = world; told = told }

-- its budget, and what it has noted
abbrev pub Pays : Showing → Meter → Option Notes → Type 0
Pays shows m n = (w : World) (t : List Access) → ((shows w t).meter ≡ m) × ((shows w t).noted ≡ n)

-- what of a world the state does not hold: the rest at the end of an act, by the rest at its start and the world at its end
abbrev pub Keeping : Type 0
Keeping = World → World → World

abbrev pub IsKeeping : Keeping → Type 0
IsKeeping keep = (rest a b : World) → keep (keep rest a) b ≡ keep rest b

abbrev pub keep_rest : Keeping
keep_rest rest w = rest

abbrev pub keep_memory : Keeping
keep_memory rest w = record rest { frame = record rest.frame { memory = w.frame.memory } }

-- ---- an act that ends without a value, and so all that would come after it

abbrev at_end : Showing → Keeping → World → World → World
at_end shows keep rest w = shows (keep rest w) w.trace

bad_then : {B D : Type 0} (shows : Showing) (keep : Keeping) (x : Failure) (rest : World) (out : Out B) (next : B → Act D) → out ≡ Bad x (at_end shows keep rest (world_of out))
    → then_do out next ≡ Bad x (at_end shows keep rest (world_of (then_do out next)))
bad_then shows keep x rest out next p =
    let e : then_do out next ≡ Bad x (at_end shows keep rest (world_of out)) = ap (λ o. then_do o next) p in
    e ∙ ap (λ w. Bad x (at_end shows keep rest w)) (ap world_of p ∙ sym (ap world_of e))

same_trace : {B D : Type 0} (shows : Showing) (keep : Keeping) (x : Failure) (rest : World) (out : Out B) (next : B → Act D) → out ≡ Bad x (at_end shows keep rest (world_of out))
    → trace_of (then_do out next) ≡ trace_of out
same_trace shows keep x rest out next p =
    let e : then_do out next ≡ Bad x (at_end shows keep rest (world_of out)) = ap (λ o. then_do o next) p in ap trace_of e ∙ sym (ap trace_of p)

ended_then : {B D : Type 0} (x : Failure) (out : Out B) (next : B → Act D) → out ≡ Bad x (world_of out) → (then_do out next ≡ Bad x (world_of (then_do out next))) × (world_of (then_do out next) ≡ world_of out)
ended_then x out next p =
    let e : then_do out next ≡ Bad x (world_of out) = ap (λ o. then_do o next) p in
    let same : world_of (then_do out next) ≡ world_of out = ap world_of e in
    (e ∙ ap (Bad x) (sym same), same)

-- a call of the program that fails
abbrev pub FailsAs : {D : Type 0} → Showing → Keeping → Telling → HostErr → World → Out D → Type 0
FailsAs {D} shows keep told e rest out = let r : Result D HostErr = Err e in Says r (λ d. d) out (lefts shows told (keep rest (world_of out)))

pub stop : {B D : Type 0} (shows : Showing) (keep : Keeping) (told : Telling) (m : Meter) (n : Option Notes) → Pays shows m n → (e : HostErr) (rest : World) (out : Out B) (next : B → Act D)
    → FailsAs shows keep told e rest out → FailsAs shows keep told e rest (then_do out next)
stop shows keep told m n pays (ends.Failed d) rest out next p =
    (subst told (sym (same_trace shows keep (Failed d) rest out next p.1)) p.0, bad_then shows keep (Failed d) rest out next p.1)
stop shows keep told m n pays ends.Spent rest out next p =
    let t = ended_then Spent out next p.1 in (subst told (sym (ap (λ (w : World). w.trace) t.1)) p.0, t.0, ap (λ (w : World). w.meter) t.1 ∙ p.2 ∙ (pays _ _).0 ∙ sym (pays _ _).0, ap (λ (w : World). w.noted) t.1 ∙ p.3 ∙ (pays _ _).1 ∙ sym (pays _ _).1)
stop shows keep told m n pays (ends.Archived key) rest out next p =
    let t = ended_then (Archived key) out next p.1 in (subst told (sym (ap (λ (w : World). w.trace) t.1)) p.0, t.0, ap (λ (w : World). w.meter) t.1 ∙ p.2 ∙ (pays _ _).0 ∙ sym (pays _ _).0, ap (λ (w : World). w.noted) t.1 ∙ p.3 ∙ (pays _ _).1 ∙ sym (pays _ _).1)
stop {B} {D} shows keep told m n pays (ends.Undeclared key) rest out next p =
    let at : AccessKind → Meter → World → Out D = λ kind meter w. Undeclared (record { kind = kind; key = key; used = meter.used }) w in
    let then : Out D = then_do out next in
    let e : then ≡ at (stopped_kind out) (shows (keep rest (world_of out)) []).meter (world_of out) = ap (λ o. then_do o next) p.1 in
    let same : world_of then ≡ world_of out = ap world_of e in
    let kind : stopped_kind then ≡ stopped_kind out = ap stopped_kind e in
    let paid : (shows (keep rest (world_of out)) []).meter ≡ (shows (keep rest (world_of then)) []).meter = (pays _ _).0 ∙ sym (pays _ _).0 in (
      subst told (sym (ap (λ (w : World). w.trace) same)) p.0,
      e ∙ ap (λ k. at k (shows (keep rest (world_of out)) []).meter (world_of out)) (sym kind) ∙ ap (λ z. at (stopped_kind then) z (world_of out)) paid
          ∙ ap (at (stopped_kind then) (shows (keep rest (world_of then)) []).meter) (sym same),
      ap (λ (w : World). w.meter) same ∙ p.2 ∙ paid,
    )
stop shows keep told m n pays ends.NoMemory rest out next p = tt

-- the type of the value that does not come means nothing
pub fails_as : {A B : Type 0} (e : HostErr) (view : A → B) (out : Out B) (left : Leaves) → (let r : Result A HostErr = Err e in Says r view out left)
    → (let r : Result B HostErr = Err e in Says r (λ b. b) out left)
fails_as (ends.Failed d) view out left p = p
fails_as ends.Spent view out left p = p
fails_as (ends.Archived key) view out left p = p
fails_as (ends.Undeclared key) view out left p = p
fails_as ends.NoMemory view out left p = tt

pub as_fails : {A B : Type 0} (e : HostErr) (view : A → B) (out : Out B) (left : Leaves) → (let r : Result B HostErr = Err e in Says r (λ b. b) out left)
    → (let r : Result A HostErr = Err e in Says r view out left)
as_fails (ends.Failed d) view out left p = p
as_fails ends.Spent view out left p = p
as_fails (ends.Archived key) view out left p = p
as_fails (ends.Undeclared key) view out left p = p
as_fails ends.NoMemory view out left p = tt

-- ---- an act that gives a value, and the act after it

pub go_on : {A B C D : Type 0} (mid new : Showing) (keep : Keeping) (first told : Telling) → IsKeeping keep → (a : A) (r : Result C HostErr) (view : A → B) (other : C → D) (rest : World) (out : Out B) (next : B → Act D)
    → (let given : Result A HostErr = Ok a in Says given view out (lefts mid first (keep rest (world_of out))))
    → ((w : World) (trace : List Access) → first trace → Says r other (next (view a) (mid w trace)) (lefts new told (keep w (world_of (next (view a) (mid w trace))))))
    → Says r other (then_do out next) (lefts new told (keep rest (world_of (then_do out next))))
go_on mid new keep first told law a r view other rest out next p h =
    let at = keep rest (world_of out) in
    let two = next (view a) (mid at (trace_of out)) in
    let e : then_do out next ≡ two = ap (λ o. then_do o next) p.1 in
    subst (λ o. Says r other o (lefts new told (keep rest (world_of o)))) (sym e)
    (subst (λ z. Says r other two (lefts new told z)) (law rest (world_of out) (world_of two)) (h at (trace_of out) p.0))

-- an act under an equation
pub same_act : {C D : Type 0} (shows : Showing) (keep : Keeping) (told : Telling) (r : Result C HostErr) (view : C → D) (rest : World) (one other : Out D) → one ≡ other
    → Says r view other (lefts shows told (keep rest (world_of other))) → Says r view one (lefts shows told (keep rest (world_of one)))
same_act shows keep told r view rest one other e p = subst (λ o. Says r view o (lefts shows told (keep rest (world_of o)))) (sym e) p

-- the same without what the state does not hold: an act that leaves one world
pub says_stopped : {A B C D : Type 0} (view : A → B) (other : C → D) (e : HostErr) (next : B → Act D) (out : Out B) (then : Out D) (told : Telling) (left : World) → then ≡ then_do out next
    → (let r : Result A HostErr = Err e in Says r view out (knowing told (λ trace. left))) → (let r : Result C HostErr = Err e in Says r other then (knowing told (λ trace. left)))
says_stopped view other (ends.Failed d) next out then told left is p =
    let e = is ∙ ap (λ o. then_do o next) p.1 in (subst told (ap trace_of p.1 ∙ sym (ap trace_of e)) p.0, e)
says_stopped view other ends.Spent next out then told left is p =
    let e = is ∙ ap (λ o. then_do o next) p.1 in (subst told (sym (ap trace_of e)) p.0, e ∙ ap (Bad Spent) (sym (ap world_of e)), ap (λ o. (world_of o).meter) e ∙ p.2, ap (λ o. (world_of o).noted) e ∙ p.3)
says_stopped view other (ends.Archived key) next out then told left is p =
    let e = is ∙ ap (λ o. then_do o next) p.1 in (subst told (sym (ap trace_of e)) p.0, e ∙ ap (Bad (Archived key)) (sym (ap world_of e)), ap (λ o. (world_of o).meter) e ∙ p.2, ap (λ o. (world_of o).noted) e ∙ p.3)
says_stopped {D = D} view other (ends.Undeclared key) next out then told left is p =
    let at : AccessKind → World → Out D = λ kind w. Undeclared (record { kind = kind; key = key; used = left.meter.used }) w in
    let e : then ≡ at (stopped_kind out) (world_of out) = is ∙ ap (λ o. then_do o next) p.1 in
    (subst told (sym (ap trace_of e)) p.0, e ∙ ap (λ k. at k (world_of out)) (sym (ap stopped_kind e)) ∙ ap (at (stopped_kind then)) (sym (ap world_of e)), ap (λ o. (world_of o).meter) e ∙ p.2)
says_stopped view other ends.NoMemory next out then told left is p = tt

-- the trace of the world that is left is that of the act's end
pub traced : {A B : Type 0} (r : Result A HostErr) (view : A → B) (out : Out B) (told : Telling) (left : World) → Says r view out (knowing told (λ trace. left)) → Says r view out (knowing told (λ trace. record left { trace = trace }))
traced (Ok a) view out told left p = (p.0, p.1 ∙ ap (λ t. Good (view a) (record left { trace = t })) (sym (ap trace_of p.1)))
traced (Err (ends.Failed d)) view out told left p = (p.0, p.1 ∙ ap (λ t. Bad (Failed d) (record left { trace = t })) (sym (ap trace_of p.1)))
traced (Err ends.Spent) view out told left p = p
traced (Err (ends.Archived key)) view out told left p = p
traced (Err (ends.Undeclared key)) view out told left p = p
traced (Err ends.NoMemory) view out told left p = tt
