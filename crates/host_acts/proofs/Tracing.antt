-- What a storage knows of the accesses, through an act.
use Rattle.std.proofs.Common.{◌≡◌, ℕ, List, ◌∷◌, Bool, Option, Result, Ok, Err, sym, ap, ap₂, subst, ◌∙◌}
use Rattle.budget_meter.specs.declared.budget.Used.{Used}
use Rattle.ledger_types.specs.declared.key.LedgerKey.{LedgerKey}
use Rattle.host_spec.specs.declared.error.HostErr.{HostErr}
use Rattle.host_spec.specs.declared.error.HostErr.TheVariants as ends
use Rattle.contract_storage.specs.Stored.{Stored}
use Rattle.contract_storage.specs.Touched.{Known, noted}
use Rattle.call_spec.specs.World.{AccessKind, Access, World}
use Rattle.call_spec.specs.Acts.{Out}
use Rattle.call_spec.specs.Outcomes.{Leaves, Says, quiet}
use Rattle.host_acts.specs.Traced.{kind_of, known_of, IsTold, Tells, leaving}

-- ---- what is told

-- through no access, between storages that know the same
pub tells_still : (old new : Stored) (before : List Access) → new.declared ≡ old.declared → new.touched ≡ old.touched → Tells old new before before
tells_still old new before same is told =
    is ∙ told ∙ ap₂ (λ (d : Option (List (LedgerKey × Bool))) (n : ℕ). known_of d n before) (sym same) (sym (ap (λ (k : Known). k.seen.limit) is))

-- through no access, between equal storages
pub tells_equal : (old new : Stored) (before : List Access) → new ≡ old → Tells old new before before
tells_equal old new before e told = subst (λ (s : Stored). IsTold s before) (sym e) told

-- through two acts
pub tells_then : (old mid new : Stored) (before between after : List Access) → Tells old mid before between → Tells mid new between after → Tells old new before after
tells_then old mid new before between after one other told = other (one told)

-- through an access that the storage allowed
pub tells_access : (old new : Stored) (kind : AccessKind) (key : LedgerKey) (used : Used) (before : List Access) → new.declared ≡ old.declared
    → new.touched ≡ noted old.declared (kind_of kind) key old.touched → Tells old new before (record { kind = kind; key = key; used = used } ∷ before)
tells_access old new kind key used before same is told =
    is ∙ ap (noted old.declared (kind_of kind) key) told
    ∙ ap₂ (λ (d : Option (List (LedgerKey × Bool))) (n : ℕ). noted d (kind_of kind) key (known_of d n before)) (sym same) (sym (ap (λ (k : Known). k.seen.limit) is))

-- ---- what is said

-- the same outcome with something else that is known of its accesses
pub retold : {A B : Type 0} (r : Result A HostErr) (view : A → B) (out : Out B) (world : List Access → World) (T U : List Access → Type 0) → ((trace : List Access) → T trace → U trace)
    → (let left : Leaves = record { world = world; told = T } in Says r view out left) → (let left : Leaves = record { world = world; told = U } in Says r view out left)
retold (Ok a) view out world T U k h = (k _ h.0, h.1)
retold (Err (ends.Failed e)) view out world T U k h = (k _ h.0, h.1)
retold (Err ends.Spent) view out world T U k h = (k _ h.0, h.1, h.2, h.3)
retold (Err (ends.Archived key)) view out world T U k h = (k _ h.0, h.1, h.2, h.3)
retold (Err (ends.Undeclared key)) view out world T U k h = (k _ h.0, h.1, h.2)
retold (Err ends.NoMemory) view out world T U k h = tt

-- an act without accesses, after what is told
pub afterwards : {A B : Type 0} (r : Result A HostErr) (view : A → B) (out : Out B) (old new : Stored) (before : List Access) (w : World) (world : List Access → World)
    → Tells old new before w.trace → Says r view out (quiet w world) → Says r view out (leaving old new before world)
afterwards r view out old new before w world told h =
    retold r view out world (λ trace. trace ≡ w.trace) (Tells old new before) (λ trace e. subst (Tells old new before) (sym e) told) h

-- an act without accesses, while the storage does not change
pub quietly : {A B : Type 0} (r : Result A HostErr) (view : A → B) (out : Out B) (s : Stored) (w : World) (world : List Access → World)
    → Says r view out (quiet w world) → Says r view out (leaving s s w.trace world)
quietly r view out s w world h = afterwards r view out s s w.trace w world (λ told. told) h

-- what comes after an act, as what comes after the accesses before it
pub since : {A B : Type 0} (r : Result A HostErr) (view : A → B) (out : Out B) (old mid new : Stored) (before between : List Access) (world : List Access → World)
    → Tells old mid before between → Says r view out (leaving mid new between world) → Says r view out (leaving old new before world)
since r view out old mid new before between world told h =
    retold r view out world (Tells mid new between) (Tells old new before) (λ after other. tells_then old mid new before between after told other) h

-- the same outcome between equal storages
pub as_storages : {A B : Type 0} (r : Result A HostErr) (view : A → B) (out : Out B) (old new old' new' : Stored) (before : List Access) (world : List Access → World) → old ≡ old' → new ≡ new'
    → Says r view out (leaving old new before world) → Says r view out (leaving old' new' before world)
as_storages r view out old new old' new' before world e f h =
    subst (λ (s : Stored). Says r view out (leaving s new' before world)) e (subst (λ (s : Stored). Says r view out (leaving old s before world)) f h)
