-- What snapshots saved, where the code writes the newest one.
use Rattle.std.specs.Prelude.{slice_set, slice_index_or}
use Rattle.std.specs.List.{AllByRecursion}
use Rattle.std.proofs.Common.{◌≡◌, ℕ, zero, suc, ◌+◌, List, [], ◌∷◌, ◌++◌, length, Result, Ok, Err, OnOk, OnErr, refl, sym, ap, ap₂, subst, ◌∙◌, arith}
use Rattle.contract_storage.specs.Overlays.{all_states, back, saved_in, states_at, undone, with_saved, with_state, IsState}
use Rattle.contract_storage.specs.declared.layer.Overlay.{Overlay}
use Rattle.contract_storage.specs.declared.layer.Saved.{Saved}
use Rattle.contract_storage.specs.declared.layer.Undo.{Undo}
use Rattle.contract_storage.proofs.Layers.{state_saved}
use Rattle.contract_storage.proofs.Placing.{Keys}
use Rattle.contract_storage.proofs.Undoing.{States}

pub on_ok : {A B : Type 0} {P Q : Type 0} (r : Result A B) → (P → Q) → OnOk r P → OnOk r Q
on_ok (Ok x) f h = f h
on_ok (Err e) f h = tt

pub on_err : {A B : Type 0} {P Q : Type 0} (r : Result A B) → (P → Q) → OnErr r P → OnErr r Q
on_err (Ok x) f h = tt
on_err (Err e) f h = f h

-- the newest snapshot is written
abbrev Sets : List Saved → ℕ → Saved → Saved → Undo → Type 0
Sets xs i x s u = x ≡ slice_index_or xs i x → s.states.entries ≡ with_state x.states.entries u → saved_in (slice_set xs i s) ≡ with_saved (saved_in xs) u

pub newest_set : (xs : List Saved) (i : ℕ) (x s : Saved) (u : Undo) → i + 1 ≡ length xs → Sets xs i x s u
newest_set [] i x s u n p e = absurd (omega (arith, n))
newest_set (y ∷ []) i x s u n p e =
    let z : 0 ≡ i = omega (arith, n) in
    subst (λ (k : ℕ). Sets (y ∷ []) k x s u) z (λ q f. ap (λ (t : States). t ∷ []) (f ∙ ap (λ (w : Saved). with_state w.states.entries u) q)) p e
newest_set (y ∷ z ∷ ys) zero x s u n p e = absurd (omega (arith, n))
newest_set (y ∷ z ∷ ys) (suc j) x s u n p e =
    ap (λ (t : List States). y.states.entries ∷ t) (newest_set (z ∷ ys) j x s u (omega (arith, n)) p e)

-- it is written with what it has
abbrev Stays : List Saved → ℕ → Saved → Saved → Type 0
Stays xs i x s = x ≡ slice_index_or xs i x → s.states.entries ≡ x.states.entries → saved_in (slice_set xs i s) ≡ saved_in xs

pub newest_stays : (xs : List Saved) (i : ℕ) (x s : Saved) → i + 1 ≡ length xs → Stays xs i x s
newest_stays [] i x s n p e = absurd (omega (arith, n))
newest_stays (y ∷ []) i x s n p e =
    let z : 0 ≡ i = omega (arith, n) in
    subst (λ (k : ℕ). Stays (y ∷ []) k x s) z (λ q f. ap (λ (t : States). t ∷ []) (f ∙ ap (λ (w : Saved). w.states.entries) q)) p e
newest_stays (y ∷ z ∷ ys) zero x s n p e = absurd (omega (arith, n))
newest_stays (y ∷ z ∷ ys) (suc j) x s n p e =
    ap (λ (t : List States). y.states.entries ∷ t) (newest_stays (z ∷ ys) j x s (omega (arith, n)) p e)

-- one more snapshot, and one less
pub saved_more : (xs : List Saved) (s : Saved) → saved_in (xs ++ s ∷ []) ≡ saved_in xs ++ s.states.entries ∷ []
saved_more [] s = refl
saved_more (x ∷ xs) s = ap (λ (t : List States). x.states.entries ∷ t) (saved_more xs s)

-- a fact of what each snapshot has saved
pub all_at : (P : States → Type 0) (xs : List Saved) (i : ℕ) (x : Saved) → i + 1 ≡ length xs → AllByRecursion P (saved_in xs) → x ≡ slice_index_or xs i x → P x.states.entries
all_at P [] i x n h p = absurd (omega (arith, n))
all_at P (y ∷ []) i x n h p =
    let z : 0 ≡ i = omega (arith, n) in
    let same : x ≡ y = subst (λ (k : ℕ). x ≡ slice_index_or (y ∷ []) k x) (sym z) p in
    subst (λ (w : Saved). P w.states.entries) (sym same) h.0
all_at P (y ∷ z ∷ ys) zero x n h p = absurd (omega (arith, n))
all_at P (y ∷ z ∷ ys) (suc j) x n h p = all_at P (z ∷ ys) j x (omega (arith, n)) h.1 p

pub all_set : (P : States → Type 0) (xs : List Saved) (i : ℕ) (s : Saved) → i + 1 ≡ length xs → AllByRecursion P (saved_in xs) → P s.states.entries
    → AllByRecursion P (saved_in (slice_set xs i s))
all_set P [] i s n h p = absurd (omega (arith, n))
all_set P (y ∷ []) i s n h p =
    let z : 0 ≡ i = omega (arith, n) in
    subst (λ (k : ℕ). AllByRecursion P (saved_in (slice_set (y ∷ []) k s))) z (p, tt)
all_set P (y ∷ z ∷ ys) zero s n h p = absurd (omega (arith, n))
all_set P (y ∷ z ∷ ys) (suc j) s n h p = (h.0, all_set P (z ∷ ys) j s (omega (arith, n)) h.1 p)

-- the states at the snapshots stay where those at the newest one do
module _ (old new : List Overlay) (x s : Saved) (same : back s.states.entries new ≡ back x.states.entries old) where
  abbrev Keeps : List Saved → ℕ → Type 0
  Keeps xs i = x ≡ slice_index_or xs i x → states_at new (saved_in (slice_set xs i s)) ≡ states_at old (saved_in xs)

  states_set : (y : Saved) (ys : List Saved) (i : ℕ) → i ≡ length ys → Keeps (y ∷ ys) i
  states_set y [] i n p =
      let z : 0 ≡ i = omega (arith, n) in
      subst (λ (k : ℕ). Keeps (y ∷ []) k) z (λ q. same ∙ ap (λ (w : Saved). back w.states.entries old) q) p
  states_set y (z ∷ ys) zero n p = absurd (omega (arith, n))
  states_set y (z ∷ ys) (suc j) n p = ap (back y.states.entries) (states_set z ys j (omega (arith, n)) p)

  pub snapshots_set : (xs : List Saved) (i : ℕ) → i + 1 ≡ length xs → x ≡ slice_index_or xs i x → all_states new (saved_in (slice_set xs i s)) ≡ all_states old (saved_in xs)
  snapshots_set [] i n p = absurd (omega (arith, n))
  snapshots_set (y ∷ []) i n p =
      let z : 0 ≡ i = omega (arith, n) in
      let here : Keeps (y ∷ []) 0 = states_set y [] 0 refl in
      subst (λ (k : ℕ). x ≡ slice_index_or (y ∷ []) k x → all_states new (saved_in (slice_set (y ∷ []) k s)) ≡ all_states old (saved_in (y ∷ []))) z
      (λ q. ap (λ (m : List Overlay). m ∷ []) (here q)) p
  snapshots_set (y ∷ z ∷ ys) zero n p = absurd (omega (arith, n))
  snapshots_set (y ∷ z ∷ ys) (suc j) n p =
      ap₂ (λ (m : List Overlay) (ms : List (List Overlay)). m ∷ ms) (states_set y (z ∷ ys) (suc j) (omega (arith, n)) p) (snapshots_set (z ∷ ys) j (omega (arith, n)) p)

-- ---- a state that moves to the next older snapshot

pub merged_states : (keys : Keys) (o p n m : States) (u : Undo) → n ≡ undone u ∷ m → p ≡ with_state o u → AllByRecursion (IsState keys) o → AllByRecursion (IsState keys) n
    → AllByRecursion (IsState keys) p × AllByRecursion (IsState keys) m
merged_states keys o p n m u e is a b =
    let h = subst (AllByRecursion (IsState keys)) e b in
    (subst (AllByRecursion (IsState keys)) (sym is) (state_saved keys o u h.0 a), h.1)
