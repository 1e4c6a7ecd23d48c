-- What a transaction does, from the calls that do it.
use Rattle.std.proofs.Common.{◌≡◌, ℕ, List, [], ◌∷◌, Result, Ok, Err, append-nil, refl, sym, ap, ◌∙◌, subst}
use Rattle.value_types.specs.Datum.{Datum}
use Rattle.host_spec.specs.Hosted.{AreHosted}
use Rattle.host_spec.specs.declared.error.HostErr.{HostErr}
use Rattle.host_spec.specs.declared.error.HostErr.TheVariants as ends
use Rattle.host_frame.specs.Made.{AreMade}
use Rattle.contract_storage.specs.Stored.{IsLater, Stored}
use Rattle.auth_trees.proofs.Lemmas.{later_self}
use Rattle.call_spec.specs.World.{Access, World, Env}
use Rattle.call_spec.specs.Acts.{Act, after, gives}
use Rattle.call_spec.specs.Calling.{undoing}
use Rattle.call_spec.specs.HostFunctions.{MOST_FRAMES, opener_of}
use Rattle.call_spec.specs.WholeRuns.{Work, does, done_under}
use Rattle.call_parts.specs.Steps.{Steps}
use Rattle.host_ledger.specs.declared.state.HostLedger.{HostLedger}
use Rattle.call_host.specs.Paths.{HasRoom}
use Rattle.call_host.specs.Undone.{opened, IsMark}
use Rattle.call_host.specs.Worlds.{world_around, uncounted, DoesAround, Stays}
use Rattle.call_host.specs.declared.host.Host.{Host}
use Rattle.call_host.specs.declared.undo.Mark.{Mark}
use Rattle.host_ledger.specs.Traced.{Tells}
use Rattle.call_host.proofs.Lemmas.{does_opened, go_on, keep_rest, shown_as, stays_opened, telling}
use Rattle.contract_call.proofs.Calling.{around_stop}

-- ---- values

pub hosted_made : (ds : List Datum) → AreHosted ds → AreMade ds
hosted_made [] h = h
hosted_made (d ∷ ds) h = (h.0.made, hosted_made ds h.1)

-- ---- paths

-- the transaction's path is short enough for the most open frames
pub has_room : {G U V : Type 0} (room : ℕ) (h : Host G U V) → room ≡ MOST_FRAMES → HasRoom 64 h → HasRoom room h
unfolding MOST_FRAMES
has_room room h most room_for = subst (λ n. HasRoom n h) (sym most) room_for

-- ---- steps of the host

pub steps_around : {A B G U V : Type 0} (r : Result A HostErr) (view : A → B) (act : Env → Act B) (old : Host G U V) (ledger : HostLedger G V)
    → ledger ≡ record old.ledger { storage = ledger.storage; budget = ledger.budget } → Steps r view act old.ledger.storage ledger.storage old.ledger.budget ledger.budget
    → DoesAround r view act old (record old { ledger = ledger })
steps_around {G = G} {V = V} r view act old ledger stays steps env is rest trace =
    let w = world_around rest old trace in
    let left : List Access → World = λ t. record w { entries = ledger.storage.map; trace = t; meter = ledger.budget } in
    shown_as (λ v t. world_around v (record old { ledger = ledger }) t) keep_rest (Tells old.ledger.storage ledger.storage trace) ledger.budget old.marks.noted (λ _ _. (refl, refl)) r view rest (act env w) left
    (λ t. subst (λ (l : HostLedger G V). world_around rest (record old { ledger = l }) t ≡ left t) (sym stays) refl) (steps env is.ledger.serves w refl refl)

pub steps_stay : {G U V : Type 0} (old : Host G U V) (ledger : HostLedger G V) → ledger ≡ record old.ledger { storage = ledger.storage; budget = ledger.budget } → IsLater old.ledger.storage ledger.storage
    → Stays old (record old { ledger = ledger })
steps_stay {G} {U} {V} old ledger stays later = record {
  header = ap (λ (l : HostLedger G V). l.header.now) stays;
  storage = later;
  events = ([], ap (λ (l : HostLedger G V). l.events) stays ∙ sym (append-nil old.ledger.events));
  objects = ap (λ (l : HostLedger G V). l.objects) stays;
  frame = ap (λ (l : HostLedger G V). uncounted l.frame) stays;
  contracts = refl;
  marks = later_self old.marks;
  verdicts = refl;
}

-- a value that is viewed in another way
pub viewed : {A B D G U V : Type 0} (a : A) (view : A → B) (of : B → D) (act : Env → Act B) (old new : Host G U V) → (let r : Result A HostErr = Ok a in DoesAround r view act old new)
    → (let r : Result A HostErr = Ok a in DoesAround r (λ x. of (view x)) (λ env. after (act env) (λ b. gives (of b))) old new)
viewed {A} a view of act old new one env is rest trace =
    let r : Result A HostErr = Ok a in
    go_on (λ w t. world_around w new t) (λ w t. world_around w new t) keep_rest (telling old new trace) (telling old new trace) (λ _ _ _. refl) a r view (λ x. of (view x)) rest (act env (world_around rest old trace))
    (λ b. gives (of b)) (one env is rest trace) (λ w t told. (told, refl))

-- a result that is viewed in another way
pub viewed_as : {A B D G U V : Type 0} (r : Result A HostErr) (view : A → B) (of : B → D) (act : Env → Act B) (old new : Host G U V) → DoesAround r view act old new
    → DoesAround r (λ x. of (view x)) (λ env. after (act env) (λ b. gives (of b))) old new
viewed_as (Ok a) view of act old new one = viewed a view of act old new one
viewed_as (Err e) view of act old new one = around_stop e view (λ x. of (view x)) act (λ env b. gives (of b)) old new one

-- ---- works

-- what ends an act that a mark began, with a failure undone
abbrev Ending : {A G U V : Type 0} → Mark → Result A HostErr → Result A HostErr → (A → Datum) → Host G U V → Host G U V → Host G U V → Type 0
Ending mark made r view start old new =
    (act : Env → Act Datum) → IsMark mark start → Stays (opened start) old → DoesAround made view act start old → DoesAround r view (λ env. undoing (act env)) start new

pub work_does : {A G U V : Type 0} (room : ℕ) (mark : Mark) (made r : Result A HostErr) (view : A → Datum) (work : Work) (start next old new : Host G U V) → room ≡ MOST_FRAMES → IsMark mark start → next ≡ opened start → Stays next old
    → Ending mark made r view start old new → DoesAround made view (λ env. does env (opener_of env room) work) next old → DoesAround r view (λ env. done_under env.judge env.header env.authority work) start new
unfolding done_under
work_does room mark made r view work start next old new most marks is stays ends done =
    let act : Env → Act Datum = λ env. does env (opener_of env room) work in
    subst (λ (n : ℕ). DoesAround r view (λ env. undoing (does env (opener_of env n) work)) start new) most
    (ends act marks (stays_opened start next old is stays) (does_opened made view act start next old is done))

-- ---- what stays of the storage

pub same_declared : {G U V : Type 0} (old new : Host G U V) → Stays old new → new.ledger.storage.declared ≡ old.ledger.storage.declared
same_declared old new stays = ap (λ (s : Stored). s.declared) stays.storage
