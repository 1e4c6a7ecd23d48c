-- Envelopes that are moved to their places.
use Rattle.std.proofs.Common.{◌≡◌, ℕ, zero, suc, ◌+◌, ◌<◌, List, [], ◌∷◌, ◌++◌, length, map, get_or, set, take, sym, ap, ap₂, subst, ◌∙◌, arith}
use Rattle.std.proofs.lemmas.List.{take_more, map-append, map-set, length_push}
use Rattle.tx_xdr.specs.declared.set.Cluster as sets
use Rattle.stage_runs.specs.Transactions.{Envelope}
use Rattle.stage_runs.specs.Runs.{Cluster, Stage}
use Rattle.stage_plan.proofs.Lemmas.{take_all}
use Rattle.set_build.specs.Built.{Building, put, start, building, joined, place_in}
use Rattle.set_build.specs.Known.{ArePlanned}
use Rattle.set_build.specs.Moved.{HasPlace}
use Rattle.set_build.specs.declared.place.Place.{Place}
use Rattle.set_build.specs.declared.place.Place.TheVariants.{NewStage, NewCluster, InCluster}
use Rattle.set_build.proofs.Places.{IsRight, place_right}
use Rattle.set_build.proofs.Planning.{one_step, planned_is}

-- ---- the clusters of a stage that ends

take_one : {A : Type 0} (all : List A) (n : ℕ) (x : A) → n < length all → x ≡ get_or all n x → take (n + 1) all ≡ take n all ++ x ∷ []
take_one all n x lt is = take_more all n x lt ∙ ap (λ y. take n all ++ y ∷ []) (sym is)

pub clusters_more : {A : Type 0} (f : A → Cluster) (cs new : List sets.Cluster) (all yielded : List A) (x : A) (c : sets.Cluster) → map (λ c. c.envelopes) cs ≡ map f (take (length yielded) all)
    → length yielded < length all → x ≡ get_or all (length yielded) x → c.envelopes ≡ f x → new ≡ cs ++ c ∷ []
    → map (λ c. c.envelopes) new ≡ map f (take (length (yielded ++ x ∷ [])) all)
clusters_more f cs new all yielded x c h lt is e push =
    ap (map (λ (c : sets.Cluster). c.envelopes)) push
    ∙ map-append (λ (c : sets.Cluster). c.envelopes) cs (c ∷ []) ∙ ap₂ (λ (a : Stage) (b : Cluster). a ++ b ∷ []) h e
    ∙ sym (map-append f (take (length yielded) all) (x ∷ []))
    ∙ ap (map f) (sym (ap (λ (n : ℕ). take n all) (length_push yielded x) ∙ take_one all (length yielded) x lt is))

pub clusters_all : {A : Type 0} (f : A → Cluster) (cs : List sets.Cluster) (all yielded : List A) → map (λ c. c.envelopes) cs ≡ map f (take (length yielded) all) → length yielded ≡ length all
    → map (λ c. c.envelopes) cs ≡ map f all
clusters_all f cs all yielded h e = h ∙ ap (map f) (take_all all (length yielded) (omega (arith, e)) (omega (arith, e)))

-- ---- an envelope that joins a cluster

mapped_at : {A : Type 0} (f : A → Cluster) (last : List A) (i : ℕ) (x : A) → i < length last → x ≡ get_or last i x → get_or (map f last) i [] ≡ f x
mapped_at f [] i x lt is = absurd (omega arith)
mapped_at f (y ∷ last) zero x lt is = ap f (sym is)
mapped_at f (y ∷ last) (suc i) x lt is = mapped_at f last i x (omega arith) is

pub shown_joined : {A : Type 0} (f : A → Cluster) (last : List A) (i : ℕ) (x y : A) (tx : Envelope) → i < length last → x ≡ get_or last i x → f y ≡ f x ++ tx ∷ []
    → map f (set last i y) ≡ joined (map f last) i tx
shown_joined f last i x y tx lt is e =
    map-set f last i y ∙ ap (set (map f last) i) (e ∙ ap (λ (c : Cluster). c ++ tx ∷ []) (sym (mapped_at f last i x lt is)))

-- ---- a list of envelopes

has_place : (max : ℕ) (stage : Stage) (tx : Envelope) (place : Place) → IsRight max stage tx place → HasPlace stage place
has_place max stage tx NewStage right = tt
has_place max stage tx NewCluster right = tt
has_place max stage tx (InCluster i) right = right.0

-- the stages shown are those of the envelopes so far, for each plan that the places are
abbrev pub AreMoved : List Envelope → List Place → List Envelope → Building → Type 0
AreMoved envelopes places yielded b =
    (max : ℕ) → ArePlanned max envelopes (length envelopes) places → b ≡ building max (take (length yielded) envelopes)

pub moved_none : (envelopes : List Envelope) (places : List Place) (b : Building) → b ≡ start → AreMoved envelopes places [] b
moved_none envelopes places b e = λ max planned. e

pub moved_there : (envelopes : List Envelope) (places : List Place) (yielded : List Envelope) (x : Envelope) (place : Place) (b : Building)
    → (max : ℕ) × (0 < max) × ArePlanned max envelopes (length envelopes) places → AreMoved envelopes places yielded b → length yielded < length envelopes
    → x ≡ get_or envelopes (length yielded) x → place ≡ get_or places (length yielded) NewStage → HasPlace b.last place
moved_there envelopes places yielded x place b plan h lt is at =
    let max = plan.0 in
    let here : place ≡ place_in max (building max (take (length yielded) envelopes)).last x = planned_is max envelopes (length yielded) x places place lt is plan.2 at in
    subst (λ (c : Building). HasPlace c.last place) (sym (h max plan.2))
    (has_place max (building max (take (length yielded) envelopes)).last x place
    (subst (IsRight max (building max (take (length yielded) envelopes)).last x) (sym here) (place_right max (building max (take (length yielded) envelopes)).last x plan.1)))

pub moved_more : (envelopes : List Envelope) (places : List Place) (yielded : List Envelope) (x : Envelope) (place : Place) (b next : Building)
    → (max : ℕ) × (0 < max) × ArePlanned max envelopes (length envelopes) places → AreMoved envelopes places yielded b → length yielded < length envelopes
    → x ≡ get_or envelopes (length yielded) x → place ≡ get_or places (length yielded) NewStage → next ≡ put b place x → AreMoved envelopes places (yielded ++ x ∷ []) next
moved_more envelopes places yielded x place b next plan h lt is at e max planned =
    e ∙ ap (λ (c : Building). put c place x) (h max planned)
    ∙ ap (λ (p : Place). put (building max (take (length yielded) envelopes)) p x) (planned_here max planned)
    ∙ sym (ap (λ (m : ℕ). building max (take m envelopes)) (length_push yielded x) ∙ more max)
  where
    planned_here : (m : ℕ) → ArePlanned m envelopes (length envelopes) places → place ≡ place_in m (building m (take (length yielded) envelopes)).last x
    planned_here m p = planned_is m envelopes (length yielded) x places place lt is p at

    more : (m : ℕ) → building m (take (length yielded + 1) envelopes) ≡ put (building m (take (length yielded) envelopes)) (place_in m (building m (take (length yielded) envelopes)).last x) x
    more m = one_step m envelopes (length yielded) x lt is

pub moved_all : (envelopes : List Envelope) (places : List Place) (yielded : List Envelope) (b : Building) → AreMoved envelopes places yielded b → length yielded ≡ length envelopes
    → (max : ℕ) → ArePlanned max envelopes (length envelopes) places → b ≡ building max envelopes
moved_all envelopes places yielded b h e max planned =
    h max planned ∙ ap (building max) (take_all envelopes (length yielded) (omega (arith, e)) (omega (arith, e)))
