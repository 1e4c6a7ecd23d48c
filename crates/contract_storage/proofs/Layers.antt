-- A layer: the maps that its slots show, and what stays true of its states.
use Rattle.std.specs.Prelude.{◌⊎◌, cond, is_some, map, IfSome, IsSomeAnd, slice_get, slice_set, slice_index_or}
use Rattle.std.specs.List.{AllByRecursion}
use Rattle.std.specs.Map.{lookup}
use Rattle.std.specs.BTreeMap.{insert_entry, is_at}
use Rattle.std.specs.Option.{option_and_then, option_map}
use Rattle.std.specs.declared.cmp.Ordering.TheVariants.{Less, Equal, Greater}
use Rattle.std.specs.Ordering.{nat_cmp, match_ordering}
use Rattle.std.specs.FinMap.{get, nat_cmp-IsAntisymmetric}
use Rattle.std.proofs.Common.{◌≡◌, ℕ, zero, suc, ◌+◌, ◌<◌, Bool, true, false, List, [], ◌∷◌, ◌++◌, length, Option, Some, None, inl, inr, refl, sym, ap, ap₂, subst, ◌∙◌, arith}
use Rattle.std.proofs.lemmas.List.{length-set, length_push, map-append}
use Rattle.std.proofs.lemmas.Option.{slice_get_read, slice_get_within}
use Rattle.ledger_types.specs.Key.{key_format}
use Rattle.ledger_types.specs.KeyOrder.{ranked_key}
use Rattle.ledger_types.specs.declared.key.LedgerKey.{LedgerKey}
use Rattle.ledger_types.proofs.Lemmas.{key_ranked}
use Rattle.ledger_spec.specs.LedgerMap.{LedgerMap, find, key_bytes, IsKeptAt}
use Rattle.contract_storage.specs.Layered.{set_at, with_slots, with_snapshot, with_write, IsMixed}
use Rattle.contract_storage.specs.Overlays.{all_states, back, kept_in, laid, layered, over, over_entry, overlay_of, shown, undone, with_saved, with_state}
use Rattle.contract_storage.specs.Overlays.{AreMixed, IsHeldAt, IsSound, IsState, IsWithin}
use Rattle.contract_storage.specs.Places.{named, place_at, place_in}
use Rattle.contract_storage.specs.declared.layer.Overlay.{Overlay}
use Rattle.contract_storage.specs.declared.layer.Overlay.TheVariants.{Same}
use Rattle.contract_storage.specs.declared.layer.Shared.{Shared}
use Rattle.contract_storage.specs.declared.layer.Undo.{Undo}
use Rattle.contract_storage.specs.declared.touched.Touch.{Touch}
use Rattle.contract_storage.proofs.Laying.{after_change, given, over_gets, over_more, over_with}
use Rattle.contract_storage.proofs.Placing.{Keys, at_named, at_set, known, named_more, stands, still_there, within}
use Rattle.contract_storage.proofs.Undoing.{States, all_more, all_push, all_stay, unset}

-- ---- lists

-- a fact of each element follows from another one
pub all_map : {X : Type 0} (P Q : X → Type 0) (xs : List X) → ((x : X) → P x → Q x) → AllByRecursion P xs → AllByRecursion Q xs
all_map P Q [] f h = tt
all_map P Q (x ∷ xs) f h = (f x h.0, all_map P Q xs f h.1)

-- ---- states and their keys

-- an entry in the state of a key's slot is one of the key
pub held_there : (keys : Keys) (k : LedgerKey) (i : ℕ) (o : Overlay) → key_format.fits k → place_in k keys ≡ Some i → IsState keys (i, o) → IsHeldAt (key_bytes k) o
held_there keys k i o fits place is =
    let s = stands (ranked_key k) keys i place in
    let held : IsHeldAt (ranked_key s.key.0) o = subst (λ (x : Option (LedgerKey × Bool)). IsSomeAnd x (λ e. IsHeldAt (ranked_key e.0) o)) s.there is in
    subst (λ (b : List ℕ). IsHeldAt b o) (sym s.bytes ∙ key_ranked k fits) held

pub state_there : (keys : Keys) (k : LedgerKey) (i : ℕ) (o : Overlay) → key_format.fits k → place_in k keys ≡ Some i → IsHeldAt (key_bytes k) o → IsState keys (i, o)
state_there keys k i o fits place held =
    let s = stands (ranked_key k) keys i place in
    subst (λ (x : Option (LedgerKey × Bool)). IsSomeAnd x (λ e. IsHeldAt (ranked_key e.0) o)) (sym s.there)
    (subst (λ (b : List ℕ). IsHeldAt b o) (sym (key_ranked k fits) ∙ s.bytes) held)

held_now : (bytes : List ℕ) (now : Option Shared) → IfSome now (λ shared. IsKeptAt bytes (kept_in shared)) → IsHeldAt bytes (overlay_of now)
held_now bytes None h = tt
held_now bytes (Some shared) h = h

-- a state is one of a slot that is there
pub state_within : (keys : Keys) (e : ℕ × Overlay) → IsState keys e → IsWithin (length keys) e
state_within keys e is =
    elim (slice_get keys e.0) as (λ o. slice_get keys e.0 ≡ o → IsSomeAnd o (λ k. IsHeldAt (ranked_key k.0) e.1) → e.0 < length keys) [
      | Some k ↦ λ p h. slice_get_within keys e.0 k p
      | None ↦ λ p h. absurd h
    ] refl is

pub states_within : (keys : Keys) (s : States) (n : ℕ) → length keys ≡ n → AllByRecursion (IsState keys) s → AllByRecursion (IsWithin n) s
states_within keys s n e h =
    subst (λ (m : ℕ). AllByRecursion (IsWithin m) s) e (all_map (IsState keys) (IsWithin (length keys)) s (state_within keys) h)

saved_within : (keys : Keys) (ss : List States) (n : ℕ) → length keys ≡ n → AllByRecursion (AllByRecursion (IsState keys)) ss → AllByRecursion (AllByRecursion (IsWithin n)) ss
saved_within keys ss n e h = all_map (AllByRecursion (IsState keys)) (AllByRecursion (IsWithin n)) ss (λ s. states_within keys s n e) h

-- it stays one with more slots
state_still : (keys more : Keys) (e : ℕ × Overlay) → IsState keys e → IsState (keys ++ more) e
state_still keys more e is =
    elim (slice_get keys e.0) as (λ o. slice_get keys e.0 ≡ o → IsSomeAnd o (λ k. IsHeldAt (ranked_key k.0) e.1) → IsState (keys ++ more) e) [
      | Some k ↦ λ p h. subst (λ (x : Option (LedgerKey × Bool)). IsSomeAnd x (λ k. IsHeldAt (ranked_key k.0) e.1)) (sym (still_there keys more e.0 k p)) h
      | None ↦ λ p h. absurd h
    ] refl is

-- ---- a write

-- a fact of each state holds after one was set, if it holds of this
pub set_held : (P : ℕ → Overlay → Type 0) (x : List Overlay) (i : ℕ) (c : Overlay) → P i c → ((j : ℕ) (z : Overlay) → slice_get x j ≡ Some z → P j z)
    → (j : ℕ) (z : Overlay) → slice_get (slice_set x i c) j ≡ Some z → P j z
set_held P [] i c is h j z e = h j z e
set_held P (y ∷ x) zero c is h zero z e = let same : c ≡ z = cc in subst (P 0) same is
set_held P (y ∷ x) zero c is h (suc j) z e = h (suc j) z e
set_held P (y ∷ x) (suc i) c is h zero z e = h zero z e
set_held P (y ∷ x) (suc i) c is h (suc j) z e = set_held (λ n. P (suc n)) x i c is (λ k. h (suc k)) j z e

state_inserted : (keys : Keys) (s : States) (i : ℕ) (o : Overlay) → IsState keys (i, o) → AllByRecursion (IsState keys) s → AllByRecursion (IsState keys) (insert_entry nat_cmp s i o)
state_inserted keys [] i o is h = (is, tt)
state_inserted keys (e ∷ s) i o is h =
    elim (nat_cmp i e.0) as (λ r. nat_cmp i e.0 ≡ r → AllByRecursion (IsState keys) (match_ordering r ((i, o) ∷ e ∷ s) ((e.0, o) ∷ s) (e ∷ insert_entry nat_cmp s i o))) [
      | Less ↦ λ p. (is, h)
      | Equal ↦ λ p. (subst (λ (j : ℕ). IsState keys (j, o)) (nat_cmp-IsAntisymmetric i e.0 p) is, h.1)
      | Greater ↦ λ p. (h.0, state_inserted keys s i o is h.1)
    ] refl

-- one more state is saved, unless there is one of the slot
pub state_saved : (keys : Keys) (s : States) (u : Undo) → IsState keys (undone u) → AllByRecursion (IsState keys) s → AllByRecursion (IsState keys) (with_state s u)
state_saved keys s u is h =
    elim (is_some (lookup (is_at (nat_cmp u.at)) s)) as (λ b. AllByRecursion (IsState keys) (cond b s (insert_entry nat_cmp s u.at u.before))) [
      | true ↦ h
      | false ↦ state_inserted keys s u.at u.before is h
    ]

all_saved : (keys : Keys) (ss : List States) (u : Undo) → IsState keys (undone u) → AllByRecursion (AllByRecursion (IsState keys)) ss → AllByRecursion (AllByRecursion (IsState keys)) (with_saved ss u)
all_saved keys [] u is h = tt
all_saved keys (s ∷ []) u is h = (state_saved keys s u is h.0, tt)
all_saved keys (s ∷ t ∷ ss) u is h = (h.0, all_saved keys (t ∷ ss) u is h.1)

-- the map after a slot was set
pub shown_set : (g : LedgerMap) (keys : Keys) (x : List Overlay) (k : LedgerKey) (i : ℕ) (o : Overlay) → place_in k keys ≡ Some i → i < length x
    → shown g keys (slice_set x i o) ≡ laid g (shown g keys x) k o
shown_set g keys x k i o place w = over_with g (named keys x) (named keys (slice_set x i o)) (ranked_key k) o (λ q. at_set q (ranked_key k) keys x i o place w)

-- a slot of a key, with the state that the code writes there and the one that it found
module _ (keys : Keys) (x : List Overlay) (ss : List States) (k : LedgerKey) (i : ℕ) (now : Option Shared) (c b : Overlay)
    (sound : IsSound keys x ss) (fits : key_format.fits k) (place : place_in k keys ≡ Some i) (is : c ≡ overlay_of now) (was : b ≡ slice_index_or x i b) where
  inside : i < length x
  inside = let w : i < length keys = within (ranked_key k) keys i place in omega (arith, w, sound.each)

  pub wrote : (g : LedgerMap) (touches : List Touch) (y : List Overlay) (ts : List States) → y ≡ slice_set x i c → ts ≡ with_saved ss (record { at = i; before = b })
      → layered g keys touches y ts ≡ with_write (layered g keys touches x ss) (key_bytes k) (option_map kept_in now)
  wrote g touches y ts set saved =
      ap₂ (λ (m : LedgerMap) (ms : List LedgerMap). record { base = g; map = m; snapshots = ms; keys = keys; touches = touches })
      (ap (shown g keys) set ∙ shown_set g keys x k i c place inside
      ∙ ap (set_at (shown g keys x) (ranked_key k)) (ap (over_entry (get g (ranked_key k))) is ∙ after_change (get g (ranked_key k)) now)
      ∙ ap (λ (bytes : List ℕ). set_at (shown g keys x) bytes (option_map kept_in now)) (key_ranked k fits))
      (ap (map (shown g keys)) (ap₂ all_states set saved ∙ all_stay x (slice_set x i c) (record { at = i; before = b }) (unset x i c b was) ss))

  pub wrote_sound : (y : List Overlay) (ts : List States) → IfSome now (λ shared. IsKeptAt (key_bytes k) (kept_in shared)) → y ≡ slice_set x i c
      → ts ≡ with_saved ss (record { at = i; before = b }) → IsSound keys y ts
  wrote_sound y ts kept set saved =
      let new : IsState keys (i, c) =
      subst (λ (o : Overlay). IsState keys (i, o)) (sym is) (state_there keys k i (overlay_of now) fits place (held_now (key_bytes k) now kept)) in
      let old : IsState keys (i, b) = sound.held i b (slice_get_read x (length x) i b refl inside was) in
      subst (λ (z : List Overlay). IsSound keys z ts) (sym set)
      (subst (IsSound keys (slice_set x i c)) (sym saved) (record {
        each = length-set x i c ∙ sound.each;
        held = set_held (λ j z. IsState keys (j, z)) x i c new sound.held;
        saved = all_saved keys ss (record { at = i; before = b }) old sound.saved;
      }))

  -- the state before, written again
  pub unwrote : (y : List Overlay) (d : Overlay) → d ≡ b → y ≡ slice_set (slice_set x i c) i d → y ≡ x
  unwrote y d same set = set ∙ ap (slice_set (slice_set x i c) i) same ∙ unset x i c b was

-- ---- what is found

-- a key has the entry that the state of its slot gives
pub shown_at : (g : LedgerMap) (keys : Keys) (x : List Overlay) (k : LedgerKey) (i : ℕ) (o : Overlay) → key_format.fits k → place_in k keys ≡ Some i → slice_get x i ≡ Some o
    → over_entry (find g k) o ≡ find (shown g keys x) k
shown_at g keys x k i o fits place state =
    ap (λ (b : List ℕ). over_entry (get g b) o) (sym (key_ranked k fits))
    ∙ ap (given (get g (ranked_key k))) (sym (known (ranked_key k) keys x i o place state))
    ∙ sym (over_gets g (named keys x) (ranked_key k))
    ∙ ap (get (shown g keys x)) (key_ranked k fits)

-- ---- one more slot

shown_more : (g : LedgerMap) (keys : Keys) (k : LedgerKey) (w : Bool) (z : List Overlay) → length z ≡ length keys
    → shown g (keys ++ (k, w) ∷ []) (z ++ Same ∷ []) ≡ shown g keys z
shown_more g keys k w z e = ap (over g) (named_more keys z k w Same e) ∙ over_more g (named keys z) k

-- it shows nothing new
pub added : (g : LedgerMap) (keys : Keys) (touches : List Touch) (x : List Overlay) (ss : List States) (k : LedgerKey) (w : Bool) → IsSound keys x ss
    → layered g (keys ++ (k, w) ∷ []) touches (x ++ Same ∷ []) ss ≡ with_slots (layered g keys touches x ss) (keys ++ (k, w) ∷ [])
added g keys touches x ss k w sound =
    ap₂ (λ (m : LedgerMap) (ms : List LedgerMap). record { base = g; map = m; snapshots = ms; keys = keys ++ (k, w) ∷ []; touches = touches })
    (shown_more g keys k w x sound.each)
    (all_push (shown g (keys ++ (k, w) ∷ [])) (shown g keys) x Same ss (saved_within keys ss (length x) (sym sound.each) sound.saved) (λ z e. shown_more g keys k w z (e ∙ sound.each)))

-- what stands in a list with one more at its end
push_get : {X : Type 0} (xs : List X) (y : X) (i : ℕ) (z : X) → slice_get (xs ++ y ∷ []) i ≡ Some z → (slice_get xs i ≡ Some z) ⊎ ((length xs ≡ i) × (y ≡ z))
push_get [] y zero z e = let same : y ≡ z = cc in inr (refl, same)
push_get [] y (suc i) z e = cc
push_get (x ∷ xs) y zero z e = inl e
push_get (x ∷ xs) y (suc i) z e =
    elim (push_get xs y i z e) as (λ _. (slice_get xs i ≡ Some z) ⊎ ((length (x ∷ xs) ≡ suc i) × (y ≡ z))) [
      | inl p ↦ inl p
      | inr p ↦ inr (ap suc p.0, p.1)
    ]

get_last : (keys : Keys) (k : LedgerKey × Bool) → slice_get (keys ++ k ∷ []) (length keys) ≡ Some k
get_last [] k = refl
get_last (j ∷ keys) k = get_last keys k

pub added_sound : (keys : Keys) (x : List Overlay) (ss : List States) (k : LedgerKey) (w : Bool) → IsSound keys x ss → IsSound (keys ++ (k, w) ∷ []) (x ++ Same ∷ []) ss
added_sound keys x ss k w sound = record {
  each = length_push x Same ∙ ap (λ (n : ℕ). n + 1) sound.each ∙ sym (length_push keys (k, w));
  held = λ i z e.
      elim (push_get x Same i z e) as (λ _. IsState (keys ++ (k, w) ∷ []) (i, z)) [
        | inl p ↦ state_still keys ((k, w) ∷ []) (i, z) (sound.held i z p)
        | inr p ↦
            subst (λ (j : ℕ). IsState (keys ++ (k, w) ∷ []) (j, z)) (sym sound.each ∙ p.0)
            (subst (λ (o : Overlay). IsState (keys ++ (k, w) ∷ []) (length keys, o)) p.1
            (subst (λ (o : Option (LedgerKey × Bool)). IsSomeAnd o (λ e. IsHeldAt (ranked_key e.0) Same)) (sym (get_last keys (k, w))) tt))
      ];
  saved = all_map (AllByRecursion (IsState keys)) (AllByRecursion (IsState (keys ++ (k, w) ∷ []))) ss
      (λ s. all_map (IsState keys) (IsState (keys ++ (k, w) ∷ [])) s (state_still keys ((k, w) ∷ []))) sound.saved;
}

-- ---- snapshots

-- one more snapshot is open
pub opened : (g : LedgerMap) (keys : Keys) (touches : List Touch) (x : List Overlay) (ss : List States)
    → layered g keys touches x (ss ++ [] ∷ []) ≡ with_snapshot (layered g keys touches x ss)
opened g keys touches x ss =
    ap (λ (ms : List LedgerMap). record { base = g; map = shown g keys x; snapshots = ms; keys = keys; touches = touches })
    (ap (map (shown g keys)) (all_more x ss []) ∙ map-append (shown g keys) (all_states x ss) (x ∷ []))

-- the maps at the open snapshots before the newest one is closed
pub closing : (g : LedgerMap) (keys : Keys) (x : List Overlay) (whole front : List States) (s : States) → whole ≡ front ++ s ∷ []
    → map (shown g keys) (all_states x whole) ≡ map (shown g keys) (all_states (back s x) front) ++ shown g keys (back s x) ∷ []
closing g keys x whole front s e =
    ap (λ (ss : List States). map (shown g keys) (all_states x ss)) e
    ∙ ap (map (shown g keys)) (all_more x front s) ∙ map-append (shown g keys) (all_states (back s x) front) (back s x ∷ [])

-- states that are put back are those of slots
pub back_held : (keys : Keys) (x : List Overlay) (s : States) → AllByRecursion (IsState keys) s → ((i : ℕ) (z : Overlay) → slice_get x i ≡ Some z → IsState keys (i, z))
    → (i : ℕ) (z : Overlay) → slice_get (back s x) i ≡ Some z → IsState keys (i, z)
back_held keys x [] h held = held
back_held keys x (e ∷ s) h held = set_held (λ j z. IsState keys (j, z)) (back s x) e.0 e.1 h.0 (back_held keys x s h.1 held)

-- ---- the code's read of a state

-- the state that the code reads at a slot
pub read_state : (keys : Keys) (x : List Overlay) (k : LedgerKey) (i : ℕ) (v o : Overlay) → length x ≡ length keys → place_in k keys ≡ Some i → v ≡ slice_index_or x i v → v ≡ o → slice_get x i ≡ Some o
read_state keys x k i v o each place read is =
    let w : i < length keys = within (ranked_key k) keys i place in
    slice_get_read x (length x) i v refl (omega (arith, w, each)) read ∙ ap Some is

pub state_index : (keys : Keys) (x : List Overlay) (k : LedgerKey) (i : ℕ) → length x ≡ length keys → place_in k keys ≡ Some i → i < length x
state_index keys x k i each place = let w : i < length keys = within (ranked_key k) keys i place in omega (arith, w, each)

-- ---- maps between two others

-- states between two others show a map between theirs
pub shown_mixed : (g : LedgerMap) (keys : Keys) (one other mixed : List Overlay) → AreMixed one other mixed → IsMixed (shown g keys one) (shown g keys other) (shown g keys mixed)
shown_mixed g keys one other mixed h q =
    elim (place_at q keys) as (λ o. place_at q keys ≡ o
    → (get (shown g keys mixed) q ≡ get (shown g keys one) q) ⊎ (get (shown g keys mixed) q ≡ get (shown g keys other) q)) [
      | None ↦ λ p. inl (shows mixed None p ∙ sym (shows one None p))
      | Some i ↦ λ p.
          elim (h i) as (λ _. (get (shown g keys mixed) q ≡ get (shown g keys one) q) ⊎ (get (shown g keys mixed) q ≡ get (shown g keys other) q)) [
            | inl e ↦ inl (shows mixed (Some i) p ∙ ap (given (get g q)) e ∙ sym (shows one (Some i) p))
            | inr e ↦ inr (shows mixed (Some i) p ∙ ap (given (get g q)) e ∙ sym (shows other (Some i) p))
          ]
    ] refl
  where
    shows : (x : List Overlay) (o : Option ℕ) → place_at q keys ≡ o → get (shown g keys x) q ≡ given (get g q) (option_and_then (slice_get x) o)
    shows x o p = over_gets g (named keys x) q ∙ ap (given (get g q)) (at_named q keys x ∙ ap (option_and_then (slice_get x)) p)

-- ---- a slot that the code adds

pub added_sound_code : (keys more : Keys) (x y : List Overlay) (ss : List States) (k : LedgerKey) (w : Bool) → IsSound keys x ss → more ≡ keys ++ (k, w) ∷ [] → y ≡ x ++ Same ∷ [] → IsSound more y ss
added_sound_code keys more x y ss k w sound e f =
    subst (λ (ks : Keys). IsSound ks y ss) (sym e) (subst (λ (z : List Overlay). IsSound (keys ++ (k, w) ∷ []) z ss) (sym f) (added_sound keys x ss k w sound))
