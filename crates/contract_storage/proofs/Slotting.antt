-- The state of a storage with its slots, as contracts see it.
use Rattle.std.specs.Prelude.{cond, is_some, not, ◌||◌, slice_get}
use Rattle.std.specs.Option.{option_and_then, option_map}
use Rattle.std.proofs.Common.{◌≡◌, ℕ, zero, suc, Bool, true, false, List, [], ◌∷◌, ◌++◌, length, Option, Some, None, Ok, Err, refl, sym, ap, subst, ◌∙◌}
use Rattle.ledger_types.specs.KeyOrder.{ranked_key}
use Rattle.ledger_types.specs.declared.key.LedgerKey.{LedgerKey}
use Rattle.ledger_spec.specs.LedgerMap.{LedgerMap}
use Rattle.contract_storage.specs.Acts.{Act, Does, Reads, judged, left, noting}
use Rattle.contract_storage.specs.Footprint.{allows, permits}
use Rattle.contract_storage.specs.Layered.{Layered, HasOtherMaps, IsMixed, with_slots, with_touches, with_snapshot as layer_opened}
use Rattle.contract_storage.specs.Listed.{WasNoted}
use Rattle.contract_storage.specs.Places.{at, named, place_in, IsSpot}
use Rattle.contract_storage.specs.Slotted.{Slotted, declared_by, stored_of, IsSlotFor}
use Rattle.contract_storage.specs.Stored.{Stored, with_keys, with_seen, with_snapshot, with_touched, IsHalfReleased, IsReleased, IsRestored}
use Rattle.contract_storage.specs.Touched.{admits, touch, touched_by, IsNoted, IsNotedIn}
use Rattle.contract_storage.specs.Watched.{Seen, see}
use Rattle.contract_storage.specs.declared.access.Access.{Access}
use Rattle.contract_storage.specs.declared.access.Access.TheVariants.{Read, Extend, Write}
use Rattle.contract_storage.specs.declared.access.StoErr.{StoErr}
use Rattle.contract_storage.specs.declared.access.StoErr.TheVariants as err
use Rattle.contract_storage.specs.declared.spot.Spot.{Spot}
use Rattle.contract_storage.specs.declared.touched.Noted.{Noted}
use Rattle.contract_storage.specs.declared.touched.Touch.{Touch}
use Rattle.contract_storage.proofs.Laying.{at_lookup}
use Rattle.contract_storage.proofs.Placing.{Keys, at_named, place_last, stands}

-- ---- another layer

-- the state with another layer
abbrev pub with_layer : Slotted → Layered → Slotted
with_layer s layer = record s { layer = layer }

-- the maps of the layer alone are others
other_maps : (s : Slotted) (layer : Layered) → HasOtherMaps s.layer layer
    → stored_of (with_layer s layer) ≡ record (stored_of s) { map = layer.map; snapshots = layer.snapshots }
unfolding stored_of
other_maps s layer maps = ap (λ (l : Layered). stored_of (with_layer s l)) maps

pub restored : (s : Slotted) (layer : Layered) → HasOtherMaps s.layer layer → s.layer.snapshots ≡ layer.snapshots ++ layer.map ∷ []
    → IsRestored (stored_of s) (stored_of (with_layer s layer))
unfolding stored_of
restored s layer maps back = record { same = other_maps s layer maps; back = back }

pub released : (s : Slotted) (layer : Layered) → HasOtherMaps s.layer layer → layer.map ≡ s.layer.map → (map : LedgerMap) → s.layer.snapshots ≡ layer.snapshots ++ map ∷ []
    → IsReleased (stored_of s) (stored_of (with_layer s layer))
unfolding stored_of
released s layer maps same map closed = record {
  same = other_maps s layer maps ∙ ap (λ (m : LedgerMap). record (stored_of s) { map = m; snapshots = layer.snapshots }) same;
  closed = (map, closed);
}

pub half_released : (s : Slotted) (layer : Layered) → HasOtherMaps s.layer layer → (map : LedgerMap) → s.layer.snapshots ≡ layer.snapshots ++ map ∷ [] → IsMixed s.layer.map map layer.map
    → IsHalfReleased (stored_of s) (stored_of (with_layer s layer))
unfolding stored_of
half_released s layer maps map closed mixed = record { same = other_maps s layer maps; closed = (map, closed); mixed = mixed }

-- ---- what the slots allow

-- the flags of keys
abbrev flags : Keys → List Bool
flags [] = []
flags (k ∷ ks) = k.1 ∷ flags ks

with_flags : (keys : Keys) → named keys (flags keys) ≡ keys
with_flags [] = refl
with_flags (k ∷ ks) = ap (λ (es : Keys). k ∷ es) (with_flags ks)

flag_at : (keys : Keys) (i : ℕ) → slice_get (flags keys) i ≡ option_map (λ (k : LedgerKey × Bool). k.1) (slice_get keys i)
flag_at [] i = refl
flag_at (k ∷ ks) zero = refl
flag_at (k ∷ ks) (suc i) = flag_at ks i

-- a key whose slot is known is allowed what its flag permits
pub allowed_at : (keys : Keys) (access : Access) (key : LedgerKey) (i : ℕ) (w : Bool) → place_in key keys ≡ Some i → option_map (λ (k : LedgerKey × Bool). k.1) (slice_get keys i) ≡ Some w
    → allows keys access key ≡ permits access (Some w)
allowed_at keys access key i w place flag =
    ap (permits access)
    (at_lookup key keys ∙ ap (at (ranked_key key)) (sym (with_flags keys)) ∙ at_named (ranked_key key) keys (flags keys)
    ∙ ap (option_and_then (slice_get (flags keys))) place ∙ flag_at keys i ∙ flag)

-- what a slot's key permits
some_flag : (keys : Keys) (key : LedgerKey) (i : ℕ) → place_in key keys ≡ Some i → (w : Bool) × (option_map (λ (k : LedgerKey × Bool). k.1) (slice_get keys i) ≡ Some w)
some_flag keys key i place =
    let s = stands (ranked_key key) keys i place in
    (s.key.1, ap (option_map (λ (k : LedgerKey × Bool). k.1)) s.there)

-- a key with a slot may be read and extended
pub may_read : (enforces : Bool) (keys : Keys) (key : LedgerKey) (i : ℕ) → place_in key keys ≡ Some i → admits (declared_by enforces keys) Read key ≡ true
may_read false keys key i place = refl
may_read true keys key i place = let f = some_flag keys key i place in allowed_at keys Read key i f.0 place f.1

pub may_extend : (enforces : Bool) (keys : Keys) (key : LedgerKey) (i : ℕ) → place_in key keys ≡ Some i → admits (declared_by enforces keys) Extend key ≡ true
may_extend false keys key i place = refl
may_extend true keys key i place = let f = some_flag keys key i place in allowed_at keys Extend key i f.0 place f.1

-- a key with a slot may be written if it is read-write, or if all accesses are allowed
pub may_write : (enforces : Bool) (keys : Keys) (key : LedgerKey) (i : ℕ) (w : Bool) → place_in key keys ≡ Some i → option_map (λ (k : LedgerKey × Bool). k.1) (slice_get keys i) ≡ Some w
    → (w || not enforces) ≡ admits (declared_by enforces keys) Write key
may_write false keys key i true place flag = refl
may_write false keys key i false place flag = refl
may_write true keys key i true place flag = sym (allowed_at keys Write key i true place flag)
may_write true keys key i false place flag = sym (allowed_at keys Write key i false place flag)

-- ---- accesses that are not allowed, or for whose keys no slot could be made

-- an access that is not allowed leaves all as it is
refused : {A : Type 0} (access : Access) (key : LedgerKey) (act : Act A) (s : Stored) → admits s.declared access key ≡ false → judged access key act s ≡ (Err err.Undeclared, left s)
refused access key act s e = ap (λ (b : Bool). cond b (noting access key act s) (Err err.Undeclared, left s)) e

pub denied_reads : {A : Type 0} (access : Access) (key : LedgerKey) (act : Act A) (e : StoErr) (old new : Slotted) → IsSlotFor access key (Err e) old new
    → Reads (judged access key act) (Err e) (stored_of old) (stored_of new)
denied_reads access key act err.Undeclared old new is =
    subst (λ (n : Slotted). Reads (judged access key act) (Err err.Undeclared) (stored_of old) (stored_of n)) (sym is.1)
    (refused access key act (stored_of old) is.0, refl)
denied_reads access key act err.NoMemory old new is = (is.0, ap stored_of is.1)
denied_reads access key act err.Archived old new is = absurd is
denied_reads access key act err.Missing old new is = absurd is
denied_reads access key act (err.BadExtend why) old new is = absurd is

pub denied_does : {A : Type 0} (access : Access) (key : LedgerKey) (act : Act A) (e : StoErr) (old new : Slotted) → IsSlotFor access key (Err e) old new
    → Does (judged access key act) (Err e) (stored_of old) (stored_of new)
denied_does access key act err.Undeclared old new is =
    subst (λ (n : Slotted). Does (judged access key act) (Err err.Undeclared) (stored_of old) (stored_of n)) (sym is.1)
    (refused access key act (stored_of old) is.0, refl)
denied_does access key act err.NoMemory old new is =
    (λ some. let no : false ≡ true = sym (ap is_some is.0) ∙ some in absurd cc, ap stored_of is.1)
denied_does access key act err.Archived old new is = absurd is
denied_does access key act err.Missing old new is = absurd is
denied_does access key act (err.BadExtend why) old new is = absurd is

-- ---- notes

-- a note that a storage took was made at the key's slot
pub was_noted : (s : Slotted) (access : Access) (spot : Spot) (noted : Noted) (before : List Touch) → IsSpot s.layer.keys spot
    → (stored_of s).touched.keys ≡ touched_by (stored_of s).declared access spot.key.now before → IsNotedIn (stored_of s).declared spot.key.now before (Some noted)
    → WasNoted s.layer.keys spot.at noted before s.layer.touches
unfolding stored_of
was_noted s access spot noted before is e n =
    elim (s.enforces) as (λ b. s.layer.touches ≡ touched_by (declared_by b s.layer.keys) access spot.key.now before → IsNotedIn (declared_by b s.layer.keys) spot.key.now before (Some noted)
    → WasNoted s.layer.keys spot.at noted before s.layer.touches) [
      | true ↦ λ f m. absurd cc
      | false ↦ λ f m. record { access = access; key = spot.key.now; fits = is.fits; at-place = is.place; is = f; noted = m }
    ] e n

-- no note was taken
pub none_noted : (s : Stored) (access : Access) (key : LedgerKey) (before : List Touch) → s.touched.keys ≡ touched_by s.declared access key before → IsNotedIn s.declared key before None
    → s ≡ with_keys s before
none_noted s access key before e n =
    elim (s.declared) as (λ d. s.touched.keys ≡ touched_by d access key before → IsNotedIn d key before None → s ≡ with_keys s before) [
      | Some declared ↦ λ f m. ap (with_keys s) f
      | None ↦ λ f m. absurd m
    ] e n

-- ---- what the accesses of the layer leave

-- the observer sees the access after its key was noted
pub noted_all : (old : Stored) (mid : Slotted) (keys : List Touch) (access : Access) (key : LedgerKey) (seen : Seen) → stored_of mid ≡ with_keys old keys → seen ≡ see access key mid.seen
    → stored_of (record mid { seen = seen }) ≡ with_touched old (record { keys = keys; seen = see access key old.touched.seen })
unfolding stored_of
noted_all old mid keys access key seen e told =
    ap (λ (x : Stored). with_seen x seen) e
    ∙ ap (λ (x : Seen). with_touched old (record { keys = keys; seen = x })) (told ∙ ap (λ (x : Stored). see access key x.touched.seen) e)

pub opened : (s : Slotted) (layer : Layered) → layer ≡ layer_opened s.layer → stored_of (with_layer s layer) ≡ with_snapshot (stored_of s)
unfolding stored_of
opened s layer e = ap (λ (l : Layered). stored_of (with_layer s l)) e

-- other touched keys
pub retouched : (s : Slotted) (layer : Layered) (touches : List Touch) → layer ≡ with_touches s.layer touches → stored_of (with_layer s layer) ≡ with_keys (stored_of s) touches
unfolding stored_of
retouched s layer touches e = ap (λ (l : Layered). stored_of (with_layer s l)) e

-- ---- slots that are looked for

-- a key without a place is not declared
not_allowed : (keys : Keys) (access : Access) (key : LedgerKey) → place_in key keys ≡ None → allows keys access key ≡ false
not_allowed keys access key absent =
    ap (permits access)
    (at_lookup key keys ∙ ap (at (ranked_key key)) (sym (with_flags keys)) ∙ at_named (ranked_key key) keys (flags keys) ∙ ap (option_and_then (slice_get (flags keys))) absent)
    ∙ nothing access
  where
    nothing : (a : Access) → permits a None ≡ false
    nothing Read = refl
    nothing Extend = refl
    nothing Write = refl

pub found_slot : (s : Slotted) (access : Access) (key : LedgerKey) (i : ℕ) (r : Bool) → place_in key s.layer.keys ≡ Some i → r ≡ admits (stored_of s).declared access key → r ≡ true → IsSlotFor access key (Ok i) s s
found_slot s access key i r place is allowed = (sym is ∙ allowed, place, refl)

pub denied_slot : (s : Slotted) (access : Access) (key : LedgerKey) (r : Bool) → r ≡ admits (stored_of s).declared access key → r ≡ false → IsSlotFor access key (Err err.Undeclared) s s
denied_slot s access key r is denied = (sym is ∙ denied, refl)

pub no_slot : (s : Slotted) (access : Access) (key : LedgerKey) → s.enforces ≡ true → place_in key s.layer.keys ≡ None → IsSlotFor access key (Err err.Undeclared) s s
unfolding stored_of
no_slot s access key e absent =
    (subst (λ (b : Bool). admits (declared_by b s.layer.keys) access key ≡ false) (sym e) (not_allowed s.layer.keys access key absent), refl)

pub added_slot : (s : Slotted) (layer : Layered) (access : Access) (key : LedgerKey) (number : ℕ) → s.enforces ≡ false → place_in key s.layer.keys ≡ None
    → layer ≡ with_slots s.layer (s.layer.keys ++ (key, true) ∷ []) → number ≡ length s.layer.keys → IsSlotFor access key (Ok number) s (with_layer s layer)
unfolding stored_of
added_slot s layer access key number e absent is count =
    let keys = s.layer.keys in
    let more : Keys = keys ++ (key, true) ∷ [] in
    let same : declared_by s.enforces more ≡ declared_by s.enforces keys = subst (λ (b : Bool). declared_by b more ≡ declared_by b keys) (sym e) refl in (
      subst (λ (b : Bool). admits (declared_by b keys) access key ≡ true) (sym e) refl,
      ap (λ (l : Layered). place_in key l.keys) is ∙ place_last key true keys absent ∙ ap Some (sym count),
      ap (λ (l : Layered). stored_of (with_layer s l)) is ∙ ap (λ (d : Option Keys). record (stored_of s) { declared = d }) same,
    )

pub unmade_slot : (s : Slotted) (layer : Layered) (access : Access) (key : LedgerKey) → s.enforces ≡ false → layer ≡ s.layer → IsSlotFor access key (Err err.NoMemory) s (with_layer s layer)
unfolding stored_of
unmade_slot s layer access key e same = (subst (λ (b : Bool). declared_by b s.layer.keys ≡ None) (sym e) refl, ap (with_layer s) same)

-- ---- notes that are made

-- one that records notes the key
pub noted_key : (s : Slotted) (layer : Layered) (access : Access) (key : LedgerKey) → s.enforces ≡ false → layer ≡ with_touches s.layer (touch access key s.layer.touches)
    → stored_of (with_layer s layer) ≡ with_keys (stored_of s) (touched_by (stored_of s).declared access key (stored_of s).touched.keys)
unfolding stored_of
noted_key s layer access key e is =
    let touches = s.layer.touches in
    ap (λ (l : Layered). stored_of (with_layer s l)) is
    ∙ ap (with_keys (stored_of s)) (subst (λ (b : Bool). touch access key touches ≡ touched_by (declared_by b s.layer.keys) access key touches) (sym e) refl)

pub noted_by : (s : Slotted) (key : LedgerKey) (noted : Noted) → s.enforces ≡ false → IsNoted key s.layer.touches noted → IsNotedIn (stored_of s).declared key (stored_of s).touched.keys (Some noted)
unfolding stored_of
noted_by s key noted e is = subst (λ (b : Bool). IsNotedIn (declared_by b s.layer.keys) key s.layer.touches (Some noted)) (sym e) is

-- ---- the same of the state that contracts see, with the slot of a key

pub slot_may_read : (s : Slotted) (key : LedgerKey) (i : ℕ) → place_in key s.layer.keys ≡ Some i → admits (stored_of s).declared Read key ≡ true
unfolding stored_of
slot_may_read s key i place = may_read s.enforces s.layer.keys key i place

pub slot_may_extend : (s : Slotted) (key : LedgerKey) (i : ℕ) → place_in key s.layer.keys ≡ Some i → admits (stored_of s).declared Extend key ≡ true
unfolding stored_of
slot_may_extend s key i place = may_extend s.enforces s.layer.keys key i place

pub slot_may_write : (s : Slotted) (key : LedgerKey) (i : ℕ) (w : Bool) → place_in key s.layer.keys ≡ Some i → option_map (λ (k : LedgerKey × Bool). k.1) (slice_get s.layer.keys i) ≡ Some w
    → (w || not s.enforces) ≡ admits (stored_of s).declared Write key
unfolding stored_of
slot_may_write s key i w place flag = may_write s.enforces s.layer.keys key i w place flag
