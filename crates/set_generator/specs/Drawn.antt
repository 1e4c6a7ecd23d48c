-- The generated set, by the numbers of the contracts that were drawn (own).
use Rattle.std.specs.Prelude.{ℕ, ◌%◌, ◌==◌, List, map, filter, get_or, length}
use Rattle.std.specs.List.{range_with_len}
use Rattle.tx_xdr.specs.declared.envelope.Envelope.{Envelope}
use Rattle.tx_xdr.specs.declared.set.Cluster.{Cluster}
use Rattle.tx_xdr.specs.declared.set.Stage.{Stage}
use Rattle.set_generator.specs.GeneratedSet.{envelope_for, numbers_in}

-- transaction k, which calls the contract that was drawn for it
abbrev pub drawn_envelope : List ℕ → ℕ → Envelope
drawn_envelope drawn k = envelope_for (get_or drawn k 0) k

-- the transactions of a stage whose contract's number modulo 8 is the cluster's index
abbrev pub drawn_cluster : List ℕ → ℕ → ℕ → Cluster
drawn_cluster drawn stage cluster =
    record {
      envelopes = map (drawn_envelope drawn)
          (filter (λ k. get_or drawn k 0 % 8 == cluster) (numbers_in (length drawn) stage));
    }

-- the stage with this index
abbrev pub drawn_stage : List ℕ → ℕ → Stage
drawn_stage drawn stage = record { clusters = map (drawn_cluster drawn stage) (range_with_len 0 8) }

-- the first stages, this many
abbrev pub drawn_stages : List ℕ → ℕ → List Stage
drawn_stages drawn count = map (drawn_stage drawn) (range_with_len 0 count)
