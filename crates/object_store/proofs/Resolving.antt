-- Laws of what words mean in a frame.
use Rattle.std.proofs.Common.{◌≡◌, ℕ, zero, suc, ◌<◌, List, [], ◌∷◌, ◌++◌, length, get_or, map, Option, Some, None, true, false, refl, ap, ◌∙◌, arith, length-append}
use Rattle.std.specs.List.{AllByRecursion}
use Rattle.std.specs.Prelude.{slice_get}
use Rattle.value_types.specs.Datum.{Datum, void}
use Rattle.host_spec.specs.Words.{meaning, is_object, object_of, small_meaning}
use Rattle.object_store.specs.Shown.{shown_of, AreIndices}

pub meaning_object : (shown : List Datum) (w : ℕ) (o : Option Datum) → is_object w ≡ true → object_of shown w ≡ o → meaning shown w ≡ o
unfolding meaning
meaning_object shown w o e h = rw (e, h) refl

pub meaning_small : (shown : List Datum) (w : ℕ) (o : Option Datum) → is_object w ≡ false → small_meaning w ≡ o → meaning shown w ≡ o
unfolding meaning
meaning_small shown w o e h = rw (e, h) refl

-- ---- what was shown

get-map : (f : ℕ → Datum) (ps : List ℕ) (k : ℕ) (p : ℕ) → slice_get ps k ≡ Some p → slice_get (map f ps) k ≡ Some (f p)
get-map f [] k p h = absurd cc
get-map f (q ∷ ps) zero p h = cc
get-map f (q ∷ ps) (suc k) p h = get-map f ps k p h

get-map-none : (f : ℕ → Datum) (ps : List ℕ) (k : ℕ) → slice_get ps k ≡ None → slice_get (map f ps) k ≡ None
get-map-none f [] k h = refl
get-map-none f (q ∷ ps) zero h = absurd cc
get-map-none f (q ∷ ps) (suc k) h = get-map-none f ps k h

index-below : (n : ℕ) (ps : List ℕ) (k p : ℕ) → AllByRecursion (λ q. q < n) ps → slice_get ps k ≡ Some p → p < n
index-below n [] k p a h = absurd cc
index-below n (q ∷ ps) zero p a h = let e : q ≡ p = cc in omega (arith, a.0)
index-below n (q ∷ ps) (suc k) p a h = index-below n ps k p a.1 h

get_or-get : (os : List Datum) (p : ℕ) (d : Datum) → slice_get os p ≡ Some d → get_or os p void ≡ d
get_or-get [] p d h = absurd cc
get_or-get (o ∷ os) zero d h = cc
get_or-get (o ∷ os) (suc p) d h = get_or-get os p d h

get-below : (os : List Datum) (p : ℕ) → p < length os → slice_get os p ≡ None → ⊥
get-below [] p lt h = omega arith
get-below (o ∷ os) zero lt h = cc
get-below (o ∷ os) (suc p) lt h = get-below os p (omega arith) h

pub shown_member : (os : List Datum) (ps : List ℕ) (k p : ℕ) (d : Datum) → slice_get ps k ≡ Some p → slice_get os p ≡ Some d → slice_get (shown_of os ps) k ≡ Some d
shown_member os ps k p d h g = get-map (λ q. get_or os q void) ps k p h ∙ ap (λ (x : Datum). Some x) (get_or-get os p d g)

pub shown_none : (os : List Datum) (ps : List ℕ) (k : ℕ) → slice_get ps k ≡ None → slice_get (shown_of os ps) k ≡ None
shown_none os ps k h = get-map-none (λ q. get_or os q void) ps k h

pub shown_never : (os : List Datum) (ps : List ℕ) (k p : ℕ) → AreIndices os ps → slice_get ps k ≡ Some p → slice_get os p ≡ None → ⊥
shown_never os ps k p a h g = get-below os p (index-below (length os) ps k p a h) g

get_or-front : (os : List Datum) (d : Datum) (p : ℕ) → p < length os → get_or (os ++ d ∷ []) p void ≡ get_or os p void
get_or-front [] d p lt = absurd (omega arith)
get_or-front (o ∷ os) d zero lt = refl
get_or-front (o ∷ os) d (suc p) lt = get_or-front os d p (omega arith)

get_or-last : (os : List Datum) (d : Datum) → get_or (os ++ d ∷ []) (length os) void ≡ d
get_or-last [] d = refl
get_or-last (o ∷ os) d = get_or-last os d

pub indices_more : (os : List Datum) (d : Datum) (ps : List ℕ) → AreIndices os ps → AreIndices (os ++ d ∷ []) (ps ++ length os ∷ [])
indices_more os d [] a = (omega (arith, length-append os (d ∷ [])), tt)
indices_more os d (p ∷ ps) a = (omega (arith, a.0, length-append os (d ∷ [])), indices_more os d ps a.1)

pub shown_more : (os : List Datum) (d : Datum) (ps : List ℕ) → AreIndices os ps → shown_of (os ++ d ∷ []) (ps ++ length os ∷ []) ≡ shown_of os ps ++ d ∷ []
shown_more os d [] a = ap (λ (x : Datum). x ∷ []) (get_or-last os d)
shown_more os d (p ∷ ps) a =
    ap (λ (x : Datum). x ∷ shown_of (os ++ d ∷ []) (ps ++ length os ∷ [])) (get_or-front os d p a.0)
    ∙ ap (λ (x : List Datum). get_or os p void ∷ x) (shown_more os d ps a.1)
