-- The number of clusters of some stages.
use Rattle.std.specs.List.{sum_by}
use Rattle.std.proofs.Common.{◌≡◌, ℕ, ◌+◌, ◌<◌, ◌≤◌, List, [], ◌∷◌, length, map, get_or, take, refl, sym, ap, ap₂, ◌∙◌, arith}
use Rattle.std.proofs.lemmas.List.{length-map}
use Rattle.std.proofs.lemmas.List.Sums.{sum_by-cons, sum_by_more_le}
use Rattle.tx_xdr.specs.declared.set.Cluster as clusters
use Rattle.tx_xdr.specs.declared.set.Stage as sets
use Rattle.stage_runs.specs.Runs.{clusters_in}
use Rattle.set_build.specs.Placed.{cluster_count}

abbrev size : sets.Stage → ℕ
size stage = length stage.clusters

counted_as : (ss : List sets.Stage) → cluster_count (map clusters_in ss) ≡ sum_by size ss
counted_as [] = refl
counted_as (s ∷ ss) =
    sum_by-cons length (clusters_in s) (map clusters_in ss)
    ∙ ap₂ (λ (a b : ℕ). a + b) (length-map s.clusters (λ (c : clusters.Cluster). c.envelopes)) (counted_as ss) ∙ sym (sum_by-cons size s ss)

-- the clusters of one more stage can be counted
pub one_more_fits : (ss : List sets.Stage) (i : ℕ) (s : sets.Stage) (count n : ℕ) → i < length ss → s ≡ get_or ss i s → count ≡ cluster_count (map clusters_in (take i ss))
    → n ≡ length s.clusters → count + n ≤ cluster_count (map clusters_in ss)
one_more_fits ss i s count n lt is so_far here =
    let all = counted_as ss in
    let some = counted_as (take i ss) in
    let more = sum_by_more_le size ss i s lt in
    let same : size s ≡ size (get_or ss i s) = ap size is in
    omega (arith, all, some, more, same, so_far, here)
