-- Failures that leave the state as it was.
use Rattle.std.proofs.Common.{◌≡◌, ◌<◌, ◌^◌, ℕ, List, inl, inr, arith, length, take, append-nil, Some, Result, Ok, Err, refl, sym, ap, ◌∙◌, subst}
use Rattle.std.proofs.Math.Seq.{take-append_seam}
use Rattle.xdr_spec.specs.Format.{number32}
use Rattle.value_types.specs.Error.{error_format, code_format}
use Rattle.value_types.specs.Datum.{Datum, error}
use Rattle.value_types.specs.Views.{datum}
use Rattle.value_types.specs.declared.value.ScVal.{ScVal}
use Rattle.value_types.specs.declared.value.ScVal.TheVariants as values
use Rattle.value_types.specs.declared.error.ScError.{ScError}
use Rattle.value_types.specs.declared.error.ScError.TheVariants as errors
use Rattle.value_xdr.specs.Bytes.{IsBounded}
use Rattle.ledger_spec.specs.LedgerMap.{LedgerMap}
use Rattle.invoke_types.specs.declared.event.ContractEvent.{ContractEvent}
use Rattle.host_spec.specs.declared.error.HostErr.{HostErr}
use Rattle.host_spec.specs.declared.error.HostErr.TheVariants as ends
use Rattle.contract_storage.specs.Stored.{Stored, IsLater, IsRead, IsRestored, with_touched}
use Rattle.contract_storage.specs.Touched.{Known}
use Rattle.contract_storage.proofs.Lemmas.{goes_back, goes_half_on, goes_on}
use Rattle.host_ledger.proofs.Lemmas.{later_read, tells_still}
use Rattle.call_spec.specs.World.{Access, World, Env}
use Rattle.call_spec.specs.Acts.{Act, Failed, Out, Good, world_of}
use Rattle.call_spec.specs.Calling.{Call, restored, caught, catching, calls}
use Rattle.call_spec.specs.Errors.{HIDDEN_ERROR}
use Rattle.call_spec.specs.HostFunctions.{opener_of}
use Rattle.call_host.specs.Paths.{HasRoom}
use Rattle.value_types.specs.declared.address.ScAddress.{ScAddress}
use Rattle.value_types.specs.declared.address.ScAddress.TheVariants.{Contract}
use Rattle.call_spec.specs.Frames.{passed_on}
use Rattle.call_spec.specs.Outcomes.{Says, trace_of}
use Rattle.host_ledger.specs.Traced.{Tells}
use Rattle.call_host.specs.Worlds.{world_around, uncounted, leaving_by, DoesAround, IsEnvOf, Stays}
use Rattle.call_host.specs.Undone.{opened, IsMark, IsBack, IsInStorage, IsReleasedHost, IsHalfReleasedHost, Releases, Undoes, Catches}
use Rattle.auth_spec.specs.Authorities.{Authorised, point_of, demands_of, noted_back, undone_to, IsLaterState}
use Rattle.auth_spec.specs.declared.point.Point.{Point}
use Rattle.auth_trees.proofs.Lemmas.{goes_back_to, later_back}
use Rattle.call_host.specs.declared.host.Host.{Host}
use Rattle.call_host.specs.declared.undo.Mark.{Mark}
use Rattle.call_host.proofs.Joining.{Telling, knowing, same_act, traced, keep_rest}
use Rattle.call_host.proofs.Showing.{shown_as, telling}

-- ---- back at the mark

-- the entries, the events and the authorisations that were used of another state, after what was noted later
pub record IsAsAt {G U V : Type 0} (start old new : Host G U V) : Type 0 where
  pub storage : IsRead start.ledger.storage new.ledger.storage
  pub events : new.ledger.events ≡ start.ledger.events
  pub marks : new.marks ≡ record start.marks { noted = noted_back (demands_of start.marks.noted) old.marks.noted }

-- a storage that knows other accesses
as_read : (s t : Stored) (touched : Known) → t ≡ with_touched s touched → IsRead s t
as_read s t touched e = e ∙ ap (λ (x : Known). with_touched s x) (sym (ap (λ (u : Stored). u.touched) e))

-- what was told is told after the writes were undone
restored_tells : (old new : Stored) (trace : List Access) → IsRestored old new → Tells old new trace trace
restored_tells old new trace back = tells_still old new trace (ap (λ (s : Stored). s.declared) back.same) (ap (λ (s : Stored). s.touched) back.same)

pub gone_back : {G U V : Type 0} (mark : Mark) (start old new : Host G U V) → IsMark mark start → Stays (opened start) old → IsBack mark old new → IsAsAt start old new
gone_back mark start old new marks stays back =
    let first = start.ledger.events in
    record {
      storage = as_read start.ledger.storage new.ledger.storage old.ledger.storage.touched (goes_back start.ledger.storage old.ledger.storage new.ledger.storage stays.storage back.storage);
      events = back.events ∙ ap (λ (n : ℕ). take n old.ledger.events) marks.events ∙ ap (take (length first)) stays.events.1 ∙ take-append_seam first stays.events.0;
      marks = back.marks ∙ ap (λ (to : Point). undone_to to old.marks) marks.marks ∙ goes_back_to start.marks old.marks stays.marks;
    }

restored_is : {G U V : Type 0} (mark : Mark) (start old new : Host G U V) → IsMark mark start → Stays (opened start) old → IsBack mark old new → (rest : World) (trace later : List Access)
    → restored (world_around rest start trace) (world_around rest old later) ≡ world_around rest new later
restored_is {G} {U} {V} mark start old new marks stays back rest trace later =
    let same = gone_back mark start old new marks stays back in
    let at : LedgerMap → List ContractEvent → Authorised → World = λ m events s. record (world_around rest old later) { entries = m; events = events; pairs = s.pairs; noted = s.noted } in
    sym (ap (λ (h : Host G U V). world_around rest h later) back.rest
    ∙ ap (λ (s : Stored). at s.map new.ledger.events new.marks) same.storage ∙ ap (λ (e : List ContractEvent). at start.ledger.storage.map e new.marks) same.events
    ∙ ap (λ (s : Authorised). at start.ledger.storage.map start.ledger.events s) same.marks)

pub stays_back : {G U V : Type 0} (mark : Mark) (start old new : Host G U V) → IsMark mark start → Stays (opened start) old → IsBack mark old new → Stays start new
stays_back {G} {U} {V} mark start old new marks stays back =
    let same = gone_back mark start old new marks stays back in
    record {
      header = ap (λ (h : Host G U V). h.ledger.header.now) back.rest ∙ stays.header;
      storage = later_read start.ledger.storage new.ledger.storage same.storage;
      events = (_, same.events ∙ sym (append-nil start.ledger.events));
      objects = ap (λ (h : Host G U V). h.ledger.objects) back.rest ∙ stays.objects;
      frame = ap (λ (h : Host G U V). uncounted h.ledger.frame) back.rest ∙ stays.frame;
      contracts = ap (λ (h : Host G U V). h.open.items) back.rest ∙ stays.contracts;
      marks = subst (λ (s : Authorised). IsLaterState start.marks s) (sym (back.marks ∙ ap (λ (to : Point). undone_to to old.marks) marks.marks)) (later_back start.marks old.marks (point_of start.marks) stays.marks (omega arith));
      verdicts = ap (λ (h : Host G U V). h.verdicts.now) back.rest ∙ stays.verdicts;
    }

-- ---- a snapshot that is open

-- the state with one more open snapshot
pub opened_env : {G U V : Type 0} (env : Env) (h : Host G U V) → IsEnvOf env h → IsEnvOf env (opened h)
opened_env env h is = record {
  ledger = record { header = is.ledger.header; serves = record { number = is.ledger.serves.number; lives = is.ledger.serves.lives; judge = is.ledger.serves.judge } };
  authority = is.authority;
}

-- an act over it is one over the state
pub does_opened : {A B G U V : Type 0} (r : Result A HostErr) (view : A → B) (act : Env → Act B) (start next old : Host G U V) → next ≡ opened start → DoesAround r view act next old → DoesAround r view act start old
does_opened {G = G} {U = U} {V = V} r view act start next old is does env at rest trace =
    subst (λ (x : Host G U V). DoesAround r view act x old) is does env (opened_env env start at) rest trace

pub stays_opened : {G U V : Type 0} (start next old : Host G U V) → next ≡ opened start → Stays next old → Stays (opened start) old
stays_opened {G} {U} {V} start next old is stays = subst (λ (x : Host G U V). Stays x old) is stays

-- a call by the contract of the running frame
pub called_opened : {G U V : Type 0} (made : Result ScVal HostErr) (room : ℕ) (address : ScAddress) (function : List ℕ) (args : List Datum) (start next old : Host G U V) → next ≡ opened start
    → (let c : Call = record { caller = Some (Contract next.ledger.frame.contract); address = address; function = function; args = args } in DoesAround made datum (λ env. calls env (opener_of env room) c) next old)
    → (let c : Call = record { caller = Some (Contract start.ledger.frame.contract); address = address; function = function; args = args } in DoesAround made datum (λ env. calls env (opener_of env room) c) start old)
called_opened {G} {U} {V} made room address function args start next old is does =
    let c : Host G U V → Call = λ h. record { caller = Some (Contract h.ledger.frame.contract); address = address; function = function; args = args } in
    does_opened made datum (λ env. calls env (opener_of env room) (c start)) start (opened start) old refl
    (subst (λ (h : Host G U V). DoesAround made datum (λ env. calls env (opener_of env room) (c h)) h old) is does)

pub room_opened : {G U V : Type 0} (room : ℕ) (start next : Host G U V) → next ≡ opened start → HasRoom room start → HasRoom room next
room_opened {G} {U} {V} room start next is has = subst (λ (h : Host G U V). HasRoom room h) (sym is) has

-- ---- a snapshot that is released

-- the same with these open snapshots
abbrev with_past : {G U V : Type 0} → List LedgerMap → Host G U V → Host G U V
with_past snapshots h = record h { ledger = record h.ledger { storage = record h.ledger.storage { snapshots = snapshots } } }

released_is : {G U V : Type 0} (old new : Host G U V) → IsReleasedHost old new → new ≡ with_past new.ledger.storage.snapshots old
released_is {G} {U} {V} old new done = done.rest ∙ ap (λ (s : Stored). record old { ledger = record old.ledger { storage = s } }) done.storage.same

-- what the work since a snapshot left, with another storage
stays_with : {G U V : Type 0} (start old new : Host G U V) → Stays (opened start) old → IsInStorage old new → IsLater start.ledger.storage new.ledger.storage → Stays start new
stays_with {G} {U} {V} start old new stays rest later = record {
  header = ap (λ (h : Host G U V). h.ledger.header.now) rest ∙ stays.header;
  storage = later;
  events = (stays.events.0, ap (λ (h : Host G U V). h.ledger.events) rest ∙ stays.events.1);
  objects = ap (λ (h : Host G U V). h.ledger.objects) rest ∙ stays.objects;
  frame = ap (λ (h : Host G U V). uncounted h.ledger.frame) rest ∙ stays.frame;
  contracts = ap (λ (h : Host G U V). h.open.items) rest ∙ stays.contracts;
  marks = subst (λ (s : Authorised). IsLaterState start.marks s) (sym (ap (λ (h : Host G U V). h.marks) rest)) stays.marks;
  verdicts = ap (λ (h : Host G U V). h.verdicts.now) rest ∙ stays.verdicts;
}

pub stays_released : {G U V : Type 0} (start old new : Host G U V) → Stays (opened start) old → IsReleasedHost old new → Stays start new
stays_released start old new stays done =
    stays_with start old new stays done.rest (goes_on start.ledger.storage old.ledger.storage new.ledger.storage stays.storage done.storage).1

stays_half : {G U V : Type 0} (start old new : Host G U V) → Stays (opened start) old → IsHalfReleasedHost old new → Stays start new
stays_half start old new stays done =
    stays_with start old new stays done.rest (goes_half_on start.ledger.storage old.ledger.storage new.ledger.storage stays.storage done.storage).1

releases_stay : {R G U V : Type 0} (memory end r : R) (start old new : Host G U V) → Stays (opened start) old → Releases memory end r old new → Stays start new
releases_stay memory end r start old new stays (inl done) = stays_released start old new stays done.1
releases_stay memory end r start old new stays (inr half) = stays_half start old new stays half.1

-- an end that a change leaves as it is
pub same_end : {A B G U V : Type 0} (change : World → Out B → Out B) (r : Result A HostErr) (view : A → B) (act : Env → Act B) (start old new : Host G U V) → IsReleasedHost old new
    → ((env : Env) (rest : World) (trace : List Access) → (let w = world_around rest start trace in let out = act env w in Says r view out (leaving_by start old trace (world_around rest old)) → change w out ≡ out))
    → DoesAround r view act start old → DoesAround r view (λ env w. change w (act env w)) start new
same_end {G = G} {U = U} {V = V} change r view act start old new done same does env at rest trace =
    let w = world_around rest start trace in
    let out = act env w in
    let says = does env at rest trace in
    subst (λ (h : Host G U V). Says r view (change w out) (leaving_by start h trace (world_around rest h))) (sym (released_is old new done))
    (same_act (λ v t. world_around v old t) keep_rest (telling start old trace) r view rest (change w out) out (same env rest trace says) says)

released_end : {A B G U V : Type 0} (change : World → Out B → Out B) (e r : Result A HostErr) (view : A → B) (act : Env → Act B) (start old new : Host G U V) → Releases (Err ends.NoMemory) e r old new
    → ((env : Env) (rest : World) (trace : List Access) → (let w = world_around rest start trace in let out = act env w in Says e view out (leaving_by start old trace (world_around rest old)) → change w out ≡ out))
    → DoesAround e view act start old → DoesAround r view (λ env w. change w (act env w)) start new
released_end {A} change e r view act start old new (inl done) same does =
    subst (λ (x : Result A HostErr). DoesAround x view (λ env w. change w (act env w)) start new) (sym done.0) (same_end change e view act start old new done.1 same does)
released_end {A} change e r view act start old new (inr half) same does =
    subst (λ (x : Result A HostErr). DoesAround x view (λ env w. change w (act env w)) start new) (sym half.0) (λ env at rest trace. tt)

-- ---- failures that are undone

left_is : {A B G U V : Type 0} (r : Result A HostErr) (view : A → B) (rest : World) (t : List Access) (told : Telling) (new : Host G U V) (out : Out B) → Says r view out (knowing told (λ _. world_around rest new t))
    → Says r view out (knowing told (world_around rest new))
left_is r view rest t told new out p =
    let left = world_around rest new t in
    shown_as (λ v u. world_around v new u) keep_rest told new.ledger.budget new.marks.noted (λ _ _. (refl, refl)) r view rest out (λ u. record left { trace = u }) (λ u. refl) (traced r view out told left p)

-- what is told of the accesses of an act whose writes were undone
told_back : {B G U V : Type 0} (start old new : Host G U V) (trace : List Access) (out other : Out B) (rest : World) → IsRestored old.ledger.storage new.ledger.storage
    → world_of other ≡ world_around rest new (trace_of out) → telling start old trace (trace_of out) → telling start new trace (trace_of other)
told_back start old new trace out other rest back is told =
    subst (telling start new trace) (sym (ap (λ (w : World). w.trace) is)) (λ first. restored_tells old.ledger.storage new.ledger.storage (trace_of out) back (told first))

-- ---- failures that are caught

caught_failed : {G U V : Type 0} (mark : Mark) (d : ScError) (act : Env → Act Datum) (start old new : Host G U V) → IsMark mark start → Stays (opened start) old → IsBack mark old new
    → (let r : Result ScVal HostErr = Err (ends.Failed d) in DoesAround r datum act start old)
    → (let r : Result ScVal HostErr = Ok (values.Error (passed_on d)) in DoesAround r datum (λ env. catching (act env)) start new)
caught_failed mark d act start old new marks stays back does env is rest trace =
    let r : Result ScVal HostErr = Ok (values.Error (passed_on d)) in
    let w = world_around rest start trace in
    let out = act env w in
    let says = does env is rest trace in
    let e = ap (λ (o : Out Datum). caught w o) says.1 ∙ ap (Good (datum (values.Error (passed_on d)))) (restored_is mark start old new marks stays back rest trace (trace_of out)) in
    left_is r datum rest (trace_of out) (telling start new trace) new (caught w out) (told_back start old new trace out (caught w out) rest back.storage (ap (λ (o : Out Datum). world_of o) e) says.0, e)

abbrev Caught : {G U V : Type 0} → Result ScVal HostErr → (Env → Act Datum) → Host G U V → Host G U V → Type 0
Caught r act start new = DoesAround r datum (λ env. catching (act env)) start new

catches_as : {G U V : Type 0} (mark : Mark) (e : HostErr) (r : Result ScVal HostErr) (act : Env → Act Datum) (start old new : Host G U V) → IsMark mark start → Stays (opened start) old → Catches mark e r old new
    → (let none : Result ScVal HostErr = Err e in DoesAround none datum act start old) → Caught r act start new
catches_as mark (ends.Failed d) r act start old new marks stays c does =
    subst (λ (x : Result ScVal HostErr). Caught x act start new) (sym c.0) (caught_failed mark d act start old new marks stays c.1 does)
catches_as mark ends.Spent r act start old new marks stays c does =
    released_end caught (Err ends.Spent) r datum act start old new c (λ env rest trace says. ap (λ (o : Out Datum). caught (world_around rest start trace) o) says.1 ∙ sym says.1) does
catches_as mark (ends.Archived key) r act start old new marks stays c does =
    released_end caught (Err (ends.Archived key)) r datum act start old new c (λ env rest trace says. ap (λ (o : Out Datum). caught (world_around rest start trace) o) says.1 ∙ sym says.1) does
catches_as mark (ends.Undeclared key) r act start old new marks stays c does =
    released_end caught (Err (ends.Undeclared key)) r datum act start old new c (λ env rest trace says. ap (λ (o : Out Datum). caught (world_around rest start trace) o) says.1 ∙ sym says.1) does
catches_as mark ends.NoMemory r act start old new marks stays (inl done) does =
    subst (λ (x : Result ScVal HostErr). Caught x act start new) (sym done.0) (λ env is rest trace. tt)
catches_as mark ends.NoMemory r act start old new marks stays (inr half) does =
    subst (λ (x : Result ScVal HostErr). Caught x act start new) (sym half.0) (λ env is rest trace. tt)

pub catches_end : {G U V : Type 0} (mark : Mark) (made : Result ScVal HostErr) (e : HostErr) (r : Result ScVal HostErr) (act : Env → Act Datum) (start old new : Host G U V) → made ≡ Err e → IsMark mark start → Stays (opened start) old
    → Catches mark e r old new → DoesAround made datum act start old → Caught r act start new
catches_end mark made e r act start old new given marks stays c does =
    catches_as mark e r act start old new marks stays c (subst (λ (x : Result ScVal HostErr). DoesAround x datum act start old) given does)

-- ---- the state

pub undo_stays : {G U V : Type 0} (mark : Mark) (e d : HostErr) (start old new : Host G U V) → IsMark mark start → Stays (opened start) old → Undoes mark e d old new → Stays start new
undo_stays mark (ends.Failed f) d start old new marks stays back = stays_back mark start old new marks stays back.1
undo_stays mark ends.Spent d start old new marks stays done = releases_stay ends.NoMemory ends.Spent d start old new stays done
undo_stays mark (ends.Archived key) d start old new marks stays done = releases_stay ends.NoMemory (ends.Archived key) d start old new stays done
undo_stays mark (ends.Undeclared key) d start old new marks stays done = releases_stay ends.NoMemory (ends.Undeclared key) d start old new stays done
undo_stays mark ends.NoMemory d start old new marks stays done = releases_stay ends.NoMemory ends.NoMemory d start old new stays done

pub catch_stays : {G U V : Type 0} (mark : Mark) (e : HostErr) (r : Result ScVal HostErr) (start old new : Host G U V) → IsMark mark start → Stays (opened start) old → Catches mark e r old new → Stays start new
catch_stays mark (ends.Failed d) r start old new marks stays c = stays_back mark start old new marks stays c.1
catch_stays mark ends.Spent r start old new marks stays c = releases_stay (Err ends.NoMemory) (Err ends.Spent) r start old new stays c
catch_stays mark (ends.Archived key) r start old new marks stays c = releases_stay (Err ends.NoMemory) (Err (ends.Archived key)) r start old new stays c
catch_stays mark (ends.Undeclared key) r start old new marks stays c = releases_stay (Err ends.NoMemory) (Err (ends.Undeclared key)) r start old new stays c
catch_stays mark ends.NoMemory r start old new marks stays c = releases_stay (Err ends.NoMemory) (Err ends.NoMemory) r start old new stays c

-- ---- errors as values

pub contract_bounded : (code : ℕ) → code < 2 ^ 32 → IsBounded (error (errors.Contract code))
unfolding error_format number32
contract_bounded code h = h

pub hidden_bounded : IsBounded (error HIDDEN_ERROR)
unfolding error_format code_format
hidden_bounded = refl

pub passed_hidden : (e : ScError) → ((code : ℕ) → e ≡ errors.Contract code → ⊥) → HIDDEN_ERROR ≡ passed_on e
passed_hidden (errors.Contract code) h = absurd (h code refl)
passed_hidden _ h = refl
