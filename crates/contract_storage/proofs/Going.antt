-- States of a storage one after another.
use Rattle.std.proofs.Common.{◌≡◌, List, [], ◌∷◌, ◌++◌, refl, sym, ap, ap₂, subst, ◌∙◌}
use Rattle.ledger_spec.specs.LedgerMap.{LedgerMap}
use Rattle.contract_storage.specs.Layered.{IsMixed}
use Rattle.contract_storage.specs.Stored.{Stored, with_entries, with_maps, with_snapshot, with_touched, IsHalfReleased, IsLater, IsReleased, IsRestored}

-- a list that ends in one more element
record SameEnd (xs ys : List LedgerMap) (x y : LedgerMap) : Type 0 where
  pub front : xs ≡ ys
  pub last : x ≡ y

same_end : (xs ys : List LedgerMap) (x y : LedgerMap) → xs ++ x ∷ [] ≡ ys ++ y ∷ [] → SameEnd xs ys x y
same_end [] [] x y e = record { front = refl; last = cc }
same_end [] (b ∷ []) x y e = cc
same_end [] (b ∷ c ∷ ys) x y e = cc
same_end (a ∷ []) [] x y e = cc
same_end (a ∷ c ∷ xs) [] x y e = cc
same_end (a ∷ xs) (b ∷ ys) x y e =
    let head : a ≡ b = cc in
    let tail : xs ++ x ∷ [] ≡ ys ++ y ∷ [] = cc in
    let r = same_end xs ys x y tail in
    record { front = ap₂ (λ (p : LedgerMap) (q : List LedgerMap). p ∷ q) head r.front; last = r.last }

-- the snapshots of a later state
opened : (start later : Stored) → IsLater (with_snapshot start) later → later.snapshots ≡ start.snapshots ++ start.map ∷ []
opened start later l = ap (λ (x : Stored). x.snapshots) l

pub goes_back : (start later back : Stored) → IsLater (with_snapshot start) later → IsRestored later back → back ≡ with_touched start later.touched
goes_back start later back l r =
    let s = same_end back.snapshots start.snapshots back.map start.map (sym r.back ∙ opened start later l) in
    r.same ∙ ap (λ (x : Stored). with_maps x back) l
    ∙ ap₂ (λ (m : LedgerMap) (p : List LedgerMap). record (with_touched start later.touched) { map = m; snapshots = p }) s.last s.front

pub again : (s t u : Stored) → IsLater s t → IsLater t u → IsLater s u
again s t u a b = b ∙ ap (λ (x : Stored). with_entries x u) a

pub later_back : (first start later back : Stored) → IsLater first start → IsLater (with_snapshot start) later → IsRestored later back → IsLater first back
later_back first start later back before l r =
    again first start back before (subst (λ (x : Stored). IsLater start x) (sym (goes_back start later back l r)) refl)

pub goes_on : (start later done : Stored) → IsLater (with_snapshot start) later → IsReleased later done → (done ≡ record later { snapshots = start.snapshots }) × IsLater start done
goes_on start later done l r =
    let s = same_end done.snapshots start.snapshots r.closed.0 start.map (sym r.closed.1 ∙ opened start later l) in
    let is : done ≡ record later { snapshots = start.snapshots } = r.same ∙ ap (λ (p : List LedgerMap). record later { snapshots = p }) s.front in
    let entries : done ≡ record start { map = later.map; touched = later.touched } = is ∙ ap (λ (x : Stored). record x { snapshots = start.snapshots }) l in
    (is, subst (λ (x : Stored). IsLater start x) (sym entries) refl)

-- a release that ran out of memory
pub goes_half_on : (start later done : Stored) → IsLater (with_snapshot start) later → IsHalfReleased later done
    → (done ≡ record later { map = done.map; snapshots = start.snapshots }) × IsLater start done × IsMixed later.map start.map done.map
goes_half_on start later done l half =
    let s = same_end done.snapshots start.snapshots half.closed.0 start.map (sym half.closed.1 ∙ opened start later l) in
    let is : done ≡ record later { map = done.map; snapshots = start.snapshots } =
    half.same ∙ ap (λ (p : List LedgerMap). record later { map = done.map; snapshots = p }) s.front in
    let entries : done ≡ record start { map = done.map; touched = later.touched } = is ∙ ap (λ (x : Stored). record x { map = done.map; snapshots = start.snapshots }) l in (
      is,
      subst (λ (x : Stored). IsLater start x) (sym entries) refl,
      subst (λ (m : LedgerMap). IsMixed later.map m done.map) s.last half.mixed,
    )
