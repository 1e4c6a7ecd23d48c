-- Clusters and stages whose declared keys are within their XDR formats (own).
use Rattle.std.specs.Prelude.{All}
use Rattle.ledger_types.specs.Key.{key_format}
use Rattle.tx_xdr.specs.declared.set.Stage.{Stage}
use Rattle.stage_runs.specs.Transactions.{Envelope, declared_by}
use Rattle.stage_runs.specs.Runs.{Cluster}

-- the keys of the footprint of a transaction are within their XDR formats
pub record DeclaresSpelled (tx : Envelope) : Type 0 where
  pub read_only : All key_format.fits (declared_by tx).read_only
  pub read_write : All key_format.fits (declared_by tx).read_write

abbrev pub IsCluster : Cluster → Type 0
IsCluster cluster = All DeclaresSpelled cluster

abbrev pub IsStage : Stage → Type 0
IsStage stage = All (λ c. IsCluster c.envelopes) stage.clusters
