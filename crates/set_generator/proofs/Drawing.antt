-- The set of the numbers that were drawn is that of the seed.
use Rattle.std.specs.List.{range_with_len, AllByRecursion}
use Rattle.std.proofs.Common.{◌≡◌, ℕ, ◌+◌, ◌-◌, ◌*◌, ◌%◌, ◌<◌, min, eqb, List, map, filter, get_or, ap, ◌∙◌, arith}
use Rattle.std.proofs.lemmas.List.FromFn.{length-map-range_with_len, get_or-map-range_with_len}
use Rattle.tx_xdr.specs.declared.set.Cluster.{Cluster}
use Rattle.tx_xdr.specs.declared.set.Stage.{Stage}
use Rattle.tx_xdr.specs.declared.envelope.Envelope.{Envelope}
use Rattle.set_generator.specs.RandomNumbers.{called}
use Rattle.set_generator.specs.GeneratedSet.{envelope_for, envelope_at, numbers_in, cluster_at, stage_at}
use Rattle.set_generator.specs.Drawn.{drawn_envelope, drawn_cluster, drawn_stage, drawn_stages}
use Rattle.set_generator.proofs.Ranges.{each_in_range, map_filter_same, map_same}

-- each transaction of a stage is one of all
pub within : (count stage : ℕ) → AllByRecursion (λ k. k < count) (numbers_in count stage)
within count stage = each_in_range (λ k. k < count) (λ j. 512 * stage + j) 0 (min 512 (count - 512 * stage)) (λ j low high. omega (arith, high))

module _ (count seed : ℕ) where
  abbrev all : List ℕ
  all = map (called seed) (range_with_len 0 count)

  number_at : (k : ℕ) → k < count → get_or all k 0 ≡ called seed k
  number_at k lt = get_or-map-range_with_len (called seed) 0 count k k 0 lt (omega arith)

  same_cluster : (stage cluster : ℕ) → drawn_cluster all stage cluster ≡ cluster_at count seed stage cluster
  same_cluster stage cluster =
      ap (λ (n : ℕ). let c : Cluster = record { envelopes = map (drawn_envelope all) (filter (λ k. eqb (get_or all k 0 % 8) cluster) (numbers_in n stage)) } in c)
      (length-map-range_with_len (called seed) 0 count)
      ∙ ap (λ (es : List Envelope). let c : Cluster = record { envelopes = es } in c)
      (map_filter_same (λ k. k < count) (drawn_envelope all) (envelope_at seed) (λ k. eqb (get_or all k 0 % 8) cluster) (λ k. eqb (called seed k % 8) cluster)
      (λ k lt. ap (λ (n : ℕ). envelope_for n k) (number_at k lt)) (λ k lt. ap (λ (n : ℕ). eqb (n % 8) cluster) (number_at k lt))
      (numbers_in count stage) (within count stage))

  same_stage : (stage : ℕ) → drawn_stage all stage ≡ stage_at count seed stage
  same_stage stage =
      ap (λ (cs : List Cluster). let s : Stage = record { clusters = cs } in s)
      (map_same (drawn_cluster all stage) (cluster_at count seed stage) (same_cluster stage) (range_with_len 0 8))

  pub same_stages : (n : ℕ) → drawn_stages all n ≡ map (stage_at count seed) (range_with_len 0 n)
  same_stages n = map_same (drawn_stage all) (stage_at count seed) same_stage (range_with_len 0 n)
