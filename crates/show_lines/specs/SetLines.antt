-- The lines of a transaction set (own; sets and transactions are those of the Stellar XDR files).
use Rattle.std.specs.Prelude.{ℕ, ◌+◌, List, [], ◌∷◌, ◌++◌, codes, decimal}
use Rattle.std.specs.Fmt.{signed_decimal}
use Rattle.tx_xdr.specs.Envelope.{transaction_in}
use Rattle.tx_xdr.specs.Operation.{kind, number}
use Rattle.tx_xdr.specs.Stages.{stages_of}
use Rattle.tx_xdr.specs.declared.set.Cluster.{Cluster}
use Rattle.tx_xdr.specs.declared.set.Stage.{Stage}
use Rattle.tx_xdr.specs.declared.set.TxSet.{TxSet}
use Rattle.tx_xdr.specs.declared.envelope.Envelope.{Envelope}
use Rattle.tx_xdr.specs.declared.transaction.Operation.{Operation}

-- the number of the first operation
abbrev pub operation_name : List Operation → List ℕ
operation_name [] = codes "none"
operation_name (operation ∷ others) = decimal (number (kind operation.body))

-- the number of its stage, the number of its cluster, its index, its first operation, and its sequence number; of a fee bump the
-- last two are its inner transaction's
abbrev pub envelope_line_at : ℕ → ℕ → ℕ → Envelope → List ℕ
envelope_line_at stage cluster index envelope =
    decimal stage ++ codes " " ++ decimal cluster ++ codes " " ++ decimal index ++ codes " "
    ++ operation_name (transaction_in envelope).operations ++ codes " " ++ signed_decimal (transaction_in envelope).seq_num
    ++ codes "\n"

-- the lines of the items of a list, numbered from `from`
abbrev pub numbered : {A : Type 0} → (ℕ → A → List ℕ) → ℕ → List A → List ℕ
numbered lines from [] = []
numbered lines from (x ∷ xs) = lines from x ++ numbered lines (from + 1) xs

-- the lines of a cluster
abbrev pub cluster_lines : ℕ → ℕ → Cluster → List ℕ
cluster_lines stage number cluster = numbered (envelope_line_at stage number) 0 cluster.envelopes

-- the lines of a stage
abbrev pub stage_lines : ℕ → Stage → List ℕ
stage_lines number stage = numbered (cluster_lines number) 0 stage.clusters

-- the lines of a set: each number is from 0, and stages are counted over the whole set
abbrev pub set_lines : TxSet → List ℕ
set_lines set = numbered stage_lines 0 (stages_of set)

-- the line of a transaction that stands alone
abbrev pub envelope_line : Envelope → List ℕ
envelope_line = envelope_line_at 0 0 0
