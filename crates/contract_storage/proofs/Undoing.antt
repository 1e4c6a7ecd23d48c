-- States of slots that are put back.
use Rattle.std.specs.Prelude.{◌⊎◌, cond, is_some, map, slice_get, slice_set, slice_index_or}
use Rattle.std.specs.List.{AllByRecursion}
use Rattle.std.specs.Map.{lookup}
use Rattle.std.specs.BTreeMap.{insert_entry, is_at}
use Rattle.std.specs.Cmp.{nat_cmp_total}
use Rattle.std.specs.declared.cmp.Ordering.TheVariants.{Less, Equal, Greater}
use Rattle.std.specs.Ordering.{nat_cmp, is_eq, match_ordering}
use Rattle.std.specs.FinMap.{nat_cmp-IsAntisymmetric}
use Rattle.std.proofs.Common.{◌≡◌, ℕ, zero, suc, ◌<◌, Bool, true, false, List, [], ◌∷◌, ◌++◌, length, Option, Some, None, inl, refl, sym, ap, ap₂, subst, ◌∙◌}
use Rattle.std.proofs.lemmas.Cmp.{tied_itself}
use Rattle.std.proofs.lemmas.List.{length-set, set-append_left, set-get_or, set-set, set_comm}
use Rattle.contract_storage.specs.Overlays.{all_states, back, states_at, undone, with_saved, with_state, AreMixed, IsWithin}
use Rattle.contract_storage.specs.declared.layer.Overlay.{Overlay}
use Rattle.contract_storage.specs.declared.layer.Undo.{Undo}
use Rattle.contract_storage.proofs.Laying.{equal_from}

abbrev pub States : Type 0
States = List (ℕ × Overlay)

-- ---- numbers of slots

same_number : (i j : ℕ) → is_at (nat_cmp i) j ≡ true → i ≡ j
same_number i j e = nat_cmp-IsAntisymmetric i j (equal_from (nat_cmp i j) e)

other_number : (i j : ℕ) → is_at (nat_cmp i) j ≡ false → j ≡ i → ⊥
other_number i j e q =
    let yes : is_at (nat_cmp i) j ≡ true = subst (λ (k : ℕ). is_at (nat_cmp i) k ≡ true) (sym q) (ap is_eq (tied_itself nat_cmp_total i)) in
    cc

-- nothing is found
none_of : {X : Type 0} (b : Bool) (x : X) (rest : Option X) → cond b (Some x) rest ≡ None → (b ≡ false) × (rest ≡ None)
none_of true x rest e = cc
none_of false x rest e = (refl, e)

-- ---- one slot

-- a slot that is set twice, with another one between
again_here : (y z : List Overlay) (i j : ℕ) (c d : Overlay) → i ≡ j → slice_set y i c ≡ slice_set z i c → slice_set (slice_set y j d) i c ≡ slice_set (slice_set z j d) i c
again_here y z i j c d e h =
    subst (λ (k : ℕ). slice_set (slice_set y k d) i c ≡ slice_set (slice_set z k d) i c) e (set-set y i d c ∙ h ∙ sym (set-set z i d c))

again_apart : (y z : List Overlay) (i j : ℕ) (c d : Overlay) → (j ≡ i → ⊥) → slice_set y i c ≡ slice_set z i c → slice_set (slice_set y j d) i c ≡ slice_set (slice_set z j d) i c
again_apart y z i j c d ne h = set_comm y j i d c ne ∙ ap (λ (w : List Overlay). slice_set w j d) h ∙ sym (set_comm z j i d c ne)

set_again : (s : States) (x : List Overlay) (i : ℕ) (b c : Overlay) → slice_set (back s (slice_set x i b)) i c ≡ slice_set (back s x) i c
set_again [] x i b c = set-set x i b c
set_again (e ∷ s) x i b c =
    elim (is_at (nat_cmp i) e.0) as (λ t. is_at (nat_cmp i) e.0 ≡ t → slice_set (slice_set (back s (slice_set x i b)) e.0 e.1) i c ≡ slice_set (slice_set (back s x) e.0 e.1) i c) [
      | true ↦ λ p. again_here (back s (slice_set x i b)) (back s x) i e.0 c e.1 (same_number i e.0 p) (set_again s x i b c)
      | false ↦ λ p. again_apart (back s (slice_set x i b)) (back s x) i e.0 c e.1 (other_number i e.0 p) (set_again s x i b c)
    ] refl

-- a slot whose state is put back may have any other before
set_under : (s : States) (x : List Overlay) (i : ℕ) (b c : Overlay) → lookup (is_at (nat_cmp i)) s ≡ Some c → back s (slice_set x i b) ≡ back s x
set_under [] x i b c h = cc
set_under (e ∷ s) x i b c h =
    elim (is_at (nat_cmp i) e.0) as (λ t. is_at (nat_cmp i) e.0 ≡ t → cond t (Some e.1) (lookup (is_at (nat_cmp i)) s) ≡ Some c
    → slice_set (back s (slice_set x i b)) e.0 e.1 ≡ slice_set (back s x) e.0 e.1) [
      | true ↦ λ p f. subst (λ (k : ℕ). slice_set (back s (slice_set x i b)) k e.1 ≡ slice_set (back s x) k e.1) (same_number i e.0 p) (set_again s x i b e.1)
      | false ↦ λ p f. ap (λ (y : List Overlay). slice_set y e.0 e.1) (set_under s x i b c f)
    ] refl h

-- a slot whose state is not put back keeps its own
set_over : (s : States) (x : List Overlay) (i : ℕ) (b : Overlay) → lookup (is_at (nat_cmp i)) s ≡ None → slice_set (back s x) i b ≡ back s (slice_set x i b)
set_over [] x i b h = refl
set_over (e ∷ s) x i b h =
    let f = none_of (is_at (nat_cmp i) e.0) e.1 (lookup (is_at (nat_cmp i)) s) h in
    set_comm (back s x) e.0 i e.1 b (other_number i e.0 f.0) ∙ ap (λ (y : List Overlay). slice_set y e.0 e.1) (set_over s x i b f.1)

-- one more state is put back
kept_new : (s : States) (x : List Overlay) (i : ℕ) (b : Overlay) → lookup (is_at (nat_cmp i)) s ≡ None → back (insert_entry nat_cmp s i b) x ≡ back s (slice_set x i b)
kept_new [] x i b h = refl
kept_new (e ∷ s) x i b h =
    elim (nat_cmp i e.0) as (λ o. nat_cmp i e.0 ≡ o → cond (is_eq o) (Some e.1) (lookup (is_at (nat_cmp i)) s) ≡ None
    → back (match_ordering o ((i, b) ∷ e ∷ s) ((e.0, b) ∷ s) (e ∷ insert_entry nat_cmp s i b)) x ≡ slice_set (back s (slice_set x i b)) e.0 e.1) [
      | Less ↦ λ p f. set_over (e ∷ s) x i b h
      | Equal ↦ λ p f. cc
      | Greater ↦ λ p f. ap (λ (y : List Overlay). slice_set y e.0 e.1) (kept_new s x i b f)
    ] refl h

-- A state that is saved, unless there is one of the slot, is put back under those that are there.
pub kept_first : (s : States) (x : List Overlay) (u : Undo) → back (with_state s u) x ≡ back s (slice_set x u.at u.before)
kept_first s x u =
    elim (lookup (is_at (nat_cmp u.at)) s) as (λ o. lookup (is_at (nat_cmp u.at)) s ≡ o
    → back (cond (is_some o) s (insert_entry nat_cmp s u.at u.before)) x ≡ back s (slice_set x u.at u.before)) [
      | Some c ↦ λ p. sym (set_under s x u.at u.before c p)
      | None ↦ λ p. kept_new s x u.at u.before p
    ] refl

-- the last of the states is put back first
pub back_more : (t : States) (x : List Overlay) (e : ℕ × Overlay) → back (t ++ e ∷ []) x ≡ back t (slice_set x e.0 e.1)
back_more [] x e = refl
back_more (y ∷ t) x e = ap (λ (z : List Overlay). slice_set z y.0 y.1) (back_more t x e)

-- the code puts the last of them back
pub put_back_one : (x y : List Overlay) (s t : States) (u : Undo) → s ≡ t ++ undone u ∷ [] → y ≡ slice_set x u.at u.before → back t y ≡ back s x
put_back_one x y s t u e is = ap (back t) is ∙ sym (back_more t x (undone u)) ∙ ap (λ (z : States). back z x) (sym e)

-- as many slots
pub back_length : (s : States) (x : List Overlay) → length (back s x) ≡ length x
back_length [] x = refl
back_length (e ∷ s) x = length-set (back s x) e.0 e.1 ∙ back_length s x

-- ---- the states at the open snapshots

-- a newer snapshot
states_more : (x : List Overlay) (ss : List States) (s : States) → states_at x (ss ++ s ∷ []) ≡ states_at (back s x) ss
states_more x [] s = refl
states_more x (t ∷ ss) s = ap (back t) (states_more x ss s)

pub all_more : (x : List Overlay) (ss : List States) (s : States) → all_states x (ss ++ s ∷ []) ≡ all_states (back s x) ss ++ back s x ∷ []
all_more x [] s = refl
all_more x (t ∷ ss) s = ap₂ (λ (y : List Overlay) (z : List (List Overlay)). y ∷ z) (states_more x (t ∷ ss) s) (all_more x ss s)

-- They stay as they are over a write whose state before it is saved.
module _ (x new : List Overlay) (u : Undo) (was : slice_set new u.at u.before ≡ x) where
  first_stays : (s : States) (ss : List States) → states_at new (with_saved (s ∷ ss) u) ≡ states_at x (s ∷ ss)
  first_stays s [] = kept_first s new u ∙ ap (back s) was
  first_stays s (t ∷ ss) = ap (back s) (first_stays t ss)

  pub all_stay : (ss : List States) → all_states new (with_saved ss u) ≡ all_states x ss
  all_stay [] = refl
  all_stay (s ∷ []) = ap (λ (y : List Overlay). y ∷ []) (first_stays s [])
  all_stay (s ∷ t ∷ ss) = ap₂ (λ (y : List Overlay) (z : List (List Overlay)). y ∷ z) (first_stays s (t ∷ ss)) (all_stay (t ∷ ss))

-- the state before a write, written again
pub unset : (x : List Overlay) (i : ℕ) (o b : Overlay) → b ≡ slice_index_or x i b → slice_set (slice_set x i o) i b ≡ x
unset x i o b e = set-set x i o b ∙ ap (slice_set x i) e ∙ set-get_or x i b

-- ---- one more slot

-- its state stays behind the others
back_push : (s : States) (x : List Overlay) (y : Overlay) → AllByRecursion (IsWithin (length x)) s → back s (x ++ y ∷ []) ≡ back s x ++ y ∷ []
back_push [] x y h = refl
back_push (e ∷ s) x y h =
    ap (λ (z : List Overlay). slice_set z e.0 e.1) (back_push s x y h.1)
    ∙ set-append_left (back s x) (y ∷ []) e.0 e.1 (subst (λ (n : ℕ). e.0 < n) (sym (back_length s x)) h.0)

states_length : (x : List Overlay) (ss : List States) → length (states_at x ss) ≡ length x
states_length x [] = refl
states_length x (s ∷ ss) = back_length s (states_at x ss) ∙ states_length x ss

states_push : (x : List Overlay) (y : Overlay) (ss : List States) → AllByRecursion (AllByRecursion (IsWithin (length x))) ss → states_at (x ++ y ∷ []) ss ≡ states_at x ss ++ y ∷ []
states_push x y [] h = refl
states_push x y (s ∷ ss) h =
    ap (back s) (states_push x y ss h.1)
    ∙ back_push s (states_at x ss) y (subst (λ (n : ℕ). AllByRecursion (IsWithin n) s) (sym (states_length x ss)) h.0)

-- a function of the states at the snapshots that the new slot does not change
pub all_push : {M : Type 0} (f g : List Overlay → M) (x : List Overlay) (y : Overlay) (ss : List States) → AllByRecursion (AllByRecursion (IsWithin (length x))) ss
    → ((z : List Overlay) → length z ≡ length x → f (z ++ y ∷ []) ≡ g z) → map f (all_states (x ++ y ∷ []) ss) ≡ map g (all_states x ss)
all_push f g x y [] h same = refl
all_push {M} f g x y (s ∷ ss) h same =
    ap₂ (λ (m : M) (ms : List M). m ∷ ms)
    (ap f (states_push x y (s ∷ ss) h) ∙ same (states_at x (s ∷ ss)) (states_length x (s ∷ ss)))
    (all_push f g x y ss h.1 same)

-- ---- states between two others

get_apart : (z : List Overlay) (j k : ℕ) (o : Overlay) → (j ≡ k → ⊥) → slice_get (slice_set z j o) k ≡ slice_get z k
get_apart [] j k o ne = refl
get_apart (y ∷ z) zero zero o ne = absurd (ne refl)
get_apart (y ∷ z) zero (suc k) o ne = refl
get_apart (y ∷ z) (suc j) zero o ne = refl
get_apart (y ∷ z) (suc j) (suc k) o ne = get_apart z j k o (λ e. ne (ap suc e))

-- a slot whose state is not put back has its own
other_state : (s : States) (x : List Overlay) (i : ℕ) → lookup (is_at (nat_cmp i)) s ≡ None → slice_get (back s x) i ≡ slice_get x i
other_state [] x i h = refl
other_state (e ∷ s) x i h =
    let f = none_of (is_at (nat_cmp i) e.0) e.1 (lookup (is_at (nat_cmp i)) s) h in
    get_apart (back s x) e.0 i e.1 (other_number i e.0 f.0) ∙ other_state s x i f.1

-- If each slot has a state of one of two lists after these were put back, so it has with the first of them less.
pub mixed_less : (now whole : List Overlay) (n m : States) (i : ℕ) (b : Overlay) → n ≡ (i, b) ∷ m → lookup (is_at (nat_cmp i)) m ≡ None
    → AreMixed now whole (back n now) → AreMixed now whole (back m now)
mixed_less now whole n m i b e none h k =
    elim (is_at (nat_cmp i) k) as (λ t. is_at (nat_cmp i) k ≡ t → (slice_get (back m now) k ≡ slice_get now k) ⊎ (slice_get (back m now) k ≡ slice_get whole k)) [
      | true ↦ λ p. inl (subst (λ (j : ℕ). slice_get (back m now) j ≡ slice_get now j) (same_number i k p) (other_state m now i none))
      | false ↦ λ p.
          subst (λ (o : Option Overlay). (o ≡ slice_get now k) ⊎ (o ≡ slice_get whole k))
          (ap (λ (s : States). slice_get (back s now) k) e ∙ get_apart (back m now) i k b (λ q. other_number i k p (sym q)))
          (h k)
    ] refl

-- ---- a state that moves to the next older snapshot

pub merged : (now : List Overlay) (o p n m : States) (u : Undo) → n ≡ undone u ∷ m → p ≡ with_state o u → back p (back m now) ≡ back o (back n now)
merged now o p n m u e is =
    ap (λ (s : States). back s (back m now)) is ∙ kept_first o (back m now) u ∙ sym (ap (λ (s : States). back o (back s now)) e)

-- the elements of a list with one more at its end
pub all_less : {X : Type 0} (P : X → Type 0) (xs : List X) (x : X) → AllByRecursion P (xs ++ x ∷ []) → AllByRecursion P xs × P x
all_less P [] x h = (tt, h.0)
all_less P (y ∷ xs) x h = let r = all_less P xs x h.1 in ((h.0, r.0), r.1)

-- the numbers of the states to put back, and of the one that the code puts back
pub put_back_within : (x : List Overlay) (s t : States) (u : Undo) → s ≡ t ++ undone u ∷ [] → AllByRecursion (IsWithin (length x)) s → AllByRecursion (IsWithin (length x)) t × (u.at < length x)
put_back_within x s t u e h = all_less (IsWithin (length x)) t (undone u) (subst (AllByRecursion (IsWithin (length x))) e h)

pub still_within : (x y : List Overlay) (t : States) (u : Undo) → y ≡ slice_set x u.at u.before → AllByRecursion (IsWithin (length x)) t → AllByRecursion (IsWithin (length y)) t
still_within x y t u is h = subst (λ (n : ℕ). AllByRecursion (IsWithin n) t) (sym (ap length is ∙ length-set x u.at u.before)) h
