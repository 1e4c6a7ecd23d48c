-- One act after another.
use Rattle.std.proofs.Common.{◌≡◌, List, Result, Ok, Err, refl, sym, ap, subst}
use Rattle.host_spec.specs.declared.error.HostErr.{HostErr}
use Rattle.host_spec.specs.declared.error.HostErr.TheVariants as ends
use Rattle.contract_storage.specs.Stored.{Stored, IsLater, IsRead}
use Rattle.call_spec.specs.World.{Access, World, Env}
use Rattle.call_spec.specs.Acts.{Act, Out, Good, Bad, Undeclared, then_do}
use Rattle.call_spec.specs.Outcomes.{Leaves, Says, trace_of}
use Rattle.host_acts.specs.Served.{Serves}
use Rattle.host_acts.specs.Traced.{leaving}
use Rattle.host_acts.proofs.Tracing.{since}

-- what ends the first act ends both
pub ends_then : {A B X Y : Type 0} (f : X → A) (g : Y → B) (out : Out A) (next : A → Act B) (left : Leaves) (e : HostErr) → (let r : Result X HostErr = Err e in Says r f out left)
    → let q : Result Y HostErr = Err e in Says q g (then_do out next) left
ends_then f g (Good a w) next left (ends.Failed x) h = absurd (let k = h.1 in cc)
ends_then f g (Good a w) next left ends.Spent h = absurd (let k = h.1 in cc)
ends_then f g (Good a w) next left (ends.Archived key) h = absurd (let k = h.1 in cc)
ends_then f g (Good a w) next left (ends.Undeclared key) h = absurd (let k = h.1 in cc)
ends_then f g (Good a w) next left ends.NoMemory h = tt
ends_then f g (Bad d w) next left (ends.Failed x) h = (h.0, let k = h.1 in cc)
ends_then f g (Bad d w) next left ends.Spent h = (h.0, (let k = h.1 in cc), h.2, h.3)
ends_then f g (Bad d w) next left (ends.Archived key) h = (h.0, (let k = h.1 in cc), h.2, h.3)
ends_then f g (Bad d w) next left (ends.Undeclared key) h = absurd (let k = h.1 in cc)
ends_then f g (Bad d w) next left ends.NoMemory h = tt
ends_then f g (Undeclared a w) next left (ends.Failed x) h = absurd (let k = h.1 in cc)
ends_then f g (Undeclared a w) next left ends.Spent h = absurd (let k = h.1 in cc)
ends_then f g (Undeclared a w) next left (ends.Archived key) h = absurd (let k = h.1 in cc)
ends_then f g (Undeclared a w) next left (ends.Undeclared key) h = (h.0, (let k = h.1 in cc), h.2)
ends_then f g (Undeclared a w) next left ends.NoMemory h = tt

-- the second act starts where the first one ended
pub goes_then : {A B X Y : Type 0} (f : X → A) (g : Y → B) (out : Out A) (next : A → Act B) (left then : Leaves) (x : X) (q : Result Y HostErr)
    → (let r : Result X HostErr = Ok x in Says r f out left) → ((trace : List Access) → left.told trace → Says q g (next (f x) (left.world trace)) then)
    → Says q g (then_do out next) then
goes_then {A} {B} f g out next left then x q h k =
    subst (λ (o : Out B). Says q g o then) (sym (ap (λ (o : Out A). then_do o next) h.1)) (k (trace_of out) h.0)

-- the same with what a storage knows, which the first act and the second one lead on
pub goes_on : {A B X Y : Type 0} (f : X → A) (g : Y → B) (out : Out A) (next : A → Act B) (old mid new : Stored) (before : List Access) (at world : List Access → World) (x : X) (q : Result Y HostErr)
    → (let r : Result X HostErr = Ok x in Says r f out (leaving old mid before at)) → ((trace : List Access) → Says q g (next (f x) (at trace)) (leaving mid new trace world))
    → Says q g (then_do out next) (leaving old new before world)
goes_on f g out next old mid new before at world x q h k =
    goes_then f g out next (leaving old mid before at) (leaving old new before world) x q h (λ trace told. since q g (next (f x) (at trace)) old mid new before trace world told (k trace))

-- ---- storages

-- a state is later than itself
pub later_same : (old new : Stored) → new ≡ old → IsLater old new
later_same old new e = subst (λ (s : Stored). IsLater old s) (sym e) refl

-- a state in which keys were touched is later
pub later_read : (old new : Stored) → IsRead old new → IsLater old new
later_read old new e = subst (λ (s : Stored). IsLater old s) (sym e) refl

pub serves_later : (env : Env) (old new : Stored) → IsLater old new → Serves env old → Serves env new
serves_later env old new later serves =
    subst (λ (s : Stored). Serves env s) (sym later) (record { number = serves.number; lives = serves.lives; judge = serves.judge })
