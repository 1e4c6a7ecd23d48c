-- What runs report: each run adds its reports behind those that are there.
use Rattle.std.specs.List.{flat_map, slice_get}
use Rattle.std.proofs.Common.{◌≡◌, ℕ, zero, suc, ◌+◌, List, [], ◌∷◌, ◌++◌, length, take, drop, fold, Some, refl, sym, ap, ap₂, subst, ◌∙◌, arith}
use Rattle.std.proofs.lemmas.List.{append-nil, append_assoc, length-append}
use Rattle.std.proofs.lemmas.Option.{none-some, same_Some}
use Rattle.stage_runs.specs.Transactions.{Step}
use Rattle.stage_runs.specs.Runs.{Cluster, Stage, Reported, RunState, before, reported, start, run_transaction, run_all, run_next_cluster, run_clusters, run_stage, run_set}
use Rattle.set_place.specs.Places.{txs_of}

-- ---- lists

-- an item of the first of two lists
pub in_first : {A : Type 0} (xs ys : List A) (i : ℕ) (x : A) → slice_get xs i ≡ Some x → slice_get (xs ++ ys) i ≡ Some x
in_first [] ys i x e = absurd (none-some x e)
in_first (y ∷ xs) ys zero x e = e
in_first (y ∷ xs) ys (suc i) x e = in_first xs ys i x e

-- an item of the second one
pub in_second : {A : Type 0} (xs ys : List A) (i : ℕ) → slice_get (xs ++ ys) (length xs + i) ≡ slice_get ys i
in_second [] ys i = let same : 0 + i ≡ i = omega arith in ap (slice_get ys) same
in_second (x ∷ xs) ys i =
    let next : suc (length xs) + i ≡ suc (length xs + i) = omega arith in ap (slice_get (x ∷ (xs ++ ys))) next ∙ in_second xs ys i

-- the last item
pub at_end : {A : Type 0} (xs : List A) (x : A) (i : ℕ) → length xs ≡ i → slice_get (xs ++ x ∷ []) i ≡ Some x
at_end xs x i e = let last : i ≡ length xs + 0 = omega (arith, e) in ap (slice_get (xs ++ x ∷ [])) last ∙ in_second xs (x ∷ []) 0

-- a fold comes by each item
pub fold_by : {A B : Type 0} (f : B → A → B) (b : B) (xs : List A) (i : ℕ) (x : A) → slice_get xs i ≡ Some x
    → fold f b xs ≡ fold f (f (fold f b (take i xs)) x) (drop (suc i) xs)
fold_by f b [] i x e = absurd (none-some x e)
fold_by f b (y ∷ xs) zero x e = ap (λ z. fold f (f b z) xs) (same_Some y x e)
fold_by f b (y ∷ xs) (suc i) x e = fold_by f (f b y) xs i x e

-- an item of lists that stand one after the other
pub in_flat : {A B : Type 0} (f : A → List B) (xs : List A) (i j : ℕ) (x : A) (y : B) → slice_get xs i ≡ Some x → slice_get (f x) j ≡ Some y
    → slice_get (flat_map f xs) (length (flat_map f (take i xs)) + j) ≡ Some y
in_flat f [] i j x y at_x at_y = absurd (none-some x at_x)
in_flat f (z ∷ xs) zero j x y at_x at_y =
    let same : 0 + j ≡ j = omega arith in
    let here = subst (λ w. slice_get (f w) j ≡ Some y) (sym (same_Some z x at_x)) at_y in
    ap (slice_get (f z ++ flat_map f xs)) same ∙ in_first (f z) (flat_map f xs) j y here
in_flat f (z ∷ xs) (suc i) j x y at_x at_y =
    let long = length-append (f z) (flat_map f (take i xs)) in
    let same : length (f z ++ flat_map f (take i xs)) + j ≡ length (f z) + (length (flat_map f (take i xs)) + j) = omega (arith, long) in
    ap (slice_get (f z ++ flat_map f xs)) same ∙ in_second (f z) (flat_map f xs) (length (flat_map f (take i xs)) + j)
    ∙ in_flat f xs i j x y at_x at_y

-- ---- reports

-- this many reports were added
pub record Grows (old new : List Reported) (count : ℕ) : Type 0 where
  pub added : List Reported
  pub results : new ≡ old ++ added
  pub many : length added ≡ count

grows_none : (rs : List Reported) → Grows rs rs 0
grows_none rs = record { added = []; results = sym (append-nil rs); many = refl }

grows_then : (a b c : List Reported) (m n : ℕ) → Grows a b m → Grows b c n → Grows a c (m + n)
grows_then a b c m n f g = record {
  added = f.added ++ g.added;
  results = g.results ∙ ap (λ rs. rs ++ g.added) f.results ∙ append_assoc a f.added g.added;
  many = length-append f.added g.added ∙ ap₂ (λ x y. x + y) f.many g.many;
}

pub grown_length : (old new : List Reported) (count : ℕ) → Grows old new count → length new ≡ length old + count
grown_length old new count g = ap length g.results ∙ length-append old g.added ∙ ap (λ n. length old + n) g.many

-- what was reported stays
pub grown_at : (old new : List Reported) (count i : ℕ) (x : Reported) → Grows old new count → slice_get old i ≡ Some x → slice_get new i ≡ Some x
grown_at old new count i x g e = ap (λ rs. slice_get rs i) g.results ∙ in_first old g.added i x e

module _ (step : Step) where
  pub all_grow : (txs : Cluster) (r : RunState) → Grows r.results (run_all step r txs).results (length txs)
  all_grow [] r = grows_none r.results
  all_grow (tx ∷ txs) r =
      let next = all_grow txs (run_transaction step r tx) in
      let one = reported (step (before tx r).entries tx) in
      record {
        added = one ∷ next.added;
        results = next.results ∙ append_assoc r.results (one ∷ []) next.added;
        many = ap suc next.many;
      }

  next_grows : (r : RunState) (cluster : Cluster) → Grows r.results (run_next_cluster step r cluster).results (length cluster)
  next_grows r cluster =
      let own = all_grow cluster (start r.entries) in
      record { added = own.added; results = ap (λ rs. r.results ++ rs) own.results; many = own.many }

  pub clusters_grow : (clusters : Stage) (r : RunState) → Grows r.results (run_clusters step r clusters).results (length (txs_of clusters))
  clusters_grow [] r = grows_none r.results
  clusters_grow (cluster ∷ clusters) r =
      subst (Grows r.results (run_clusters step r (cluster ∷ clusters)).results) (sym (length-append cluster (txs_of clusters)))
      (grows_then r.results (run_next_cluster step r cluster).results (run_clusters step r (cluster ∷ clusters)).results
      (length cluster) (length (txs_of clusters)) (next_grows r cluster) (clusters_grow clusters (run_next_cluster step r cluster)))

  pub set_grows : (stages : List Stage) (r : RunState) → Grows r.results (run_set step r stages).results (length (flat_map txs_of stages))
  set_grows [] r = grows_none r.results
  set_grows (clusters ∷ stages) r =
      subst (Grows r.results (run_set step r (clusters ∷ stages)).results) (sym (length-append (txs_of clusters) (flat_map txs_of stages)))
      (grows_then r.results (run_stage step r clusters).results (run_set step r (clusters ∷ stages)).results
      (length (txs_of clusters)) (length (flat_map txs_of stages)) (clusters_grow clusters r) (set_grows stages (run_stage step r clusters)))
