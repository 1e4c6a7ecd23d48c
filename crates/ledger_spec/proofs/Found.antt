-- What a map has at a key after a change at a key.
use Rattle.std.specs.declared.cmp.Ordering.{Ordering}
use Rattle.std.specs.declared.cmp.Ordering.TheVariants.{Less, Equal, Greater}
use Rattle.std.specs.Ordering.{nat_cmp, eq_by_cmp, is_eq}
use Rattle.std.specs.Cmp.Lexicographic.{slice_cmp, nat_list_cmp_total}
use Rattle.std.specs.FinMap.{get, insert, remove, get-insert, get-remove, same_map, IsAntisymmetric, slice_cmp-IsAntisymmetric, nat_cmp-IsAntisymmetric}
use Rattle.std.specs.Str.{bytes_eq}
use Rattle.std.proofs.Common.{◌≡◌, ◌≢◌, ℕ, Bool, true, false, cond, List, Some, None, refl, sym, ap, ◌∙◌}
use Rattle.std.proofs.lemmas.Cmp.{tied_itself}
use Rattle.std.proofs.lemmas.Map.Text.{is_eq-slice_cmp}
use Rattle.std.proofs.lemmas.Slice.Eq.{bytes_eq-Decides}
use Rattle.ledger_spec.specs.declared.Kept.{Kept}
use Rattle.ledger_spec.specs.LedgerMap.{LedgerMap}

tied : (k : List ℕ) → eq_by_cmp (slice_cmp nat_cmp) k k ≡ true
tied k = rw (tied_itself nat_list_cmp_total k) refl

apart : (q k : List ℕ) → q ≢ k → eq_by_cmp (slice_cmp nat_cmp) q k ≡ false
apart q k ne =
    is_eq-slice_cmp q k
    ∙ elim (bytes_eq q k) as (λ b. bytes_eq q k ≡ b → b ≡ false) [
      | true ↦ λ is. absurd (ne ((bytes_eq-Decides q k).0 is))
      | false ↦ λ is. refl
    ] refl

pub put_here : (m : LedgerMap) (k : List ℕ) (v : Kept) → get (insert m k v) k ≡ Some v
put_here m k v = get-insert nat_list_cmp_total m k v k ∙ ap (λ b. cond b (Some v) (get m k)) (tied k)

pub put_elsewhere : (m : LedgerMap) (k : List ℕ) (v : Kept) (q : List ℕ) → q ≢ k → get (insert m k v) q ≡ get m q
put_elsewhere m k v q ne = get-insert nat_list_cmp_total m k v q ∙ ap (λ b. cond b (Some v) (get m q)) (apart q k ne)

pub taken_here : (m : LedgerMap) (k : List ℕ) → get (remove m k) k ≡ None
taken_here m k = get-remove nat_list_cmp_total m k k ∙ ap (λ b. cond b None (get m k)) (tied k)

pub taken_elsewhere : (m : LedgerMap) (k q : List ℕ) → q ≢ k → get (remove m k) q ≡ get m q
taken_elsewhere m k q ne = get-remove nat_list_cmp_total m k q ∙ ap (λ b. cond b None (get m q)) (apart q k ne)

-- ---- an entry taken out and put back

antisymmetric : IsAntisymmetric (slice_cmp nat_cmp)
antisymmetric = slice_cmp-IsAntisymmetric nat_cmp-IsAntisymmetric

back_at : (m : LedgerMap) (k : List ℕ) (v : Kept) (q : List ℕ) → get m k ≡ Some v → cond (eq_by_cmp (slice_cmp nat_cmp) q k) (Some v) (get (remove m k) q) ≡ get m q
back_at m k v q e =
    elim (slice_cmp nat_cmp q k) as (λ o. slice_cmp nat_cmp q k ≡ o → cond (is_eq o) (Some v) (get (remove m k) q) ≡ get m q) [
      | Less ↦ λ p. stays p refl
      | Equal ↦ λ p. sym e ∙ ap (λ (b : List ℕ). get m b) (sym (antisymmetric q k p))
      | Greater ↦ λ p. stays p refl
    ] refl
  where
    stays : {o : Ordering} → slice_cmp nat_cmp q k ≡ o → is_eq o ≡ false → get (remove m k) q ≡ get m q
    stays p ne = get-remove nat_list_cmp_total m k q ∙ ap (λ (b : Bool). cond b None (get m q)) (ap is_eq p ∙ ne)

pub back : (m : LedgerMap) (k : List ℕ) (v : Kept) → get m k ≡ Some v → insert (remove m k) k v ≡ m
back m k v e = same_map nat_list_cmp_total antisymmetric _ m (λ q. get-insert nat_list_cmp_total (remove m k) k v q ∙ back_at m k v q e)
