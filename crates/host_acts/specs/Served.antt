-- The environments that a storage serves.
use Rattle.std.specs.Prelude.{◌≡◌}
use Rattle.ledger_types.specs.Key.{key_format}
use Rattle.ledger_types.specs.declared.key.LedgerKey.{LedgerKey}
use Rattle.ledger_spec.specs.LedgerMap.{key_bytes}
use Rattle.contract_storage.specs.Stored.{Stored}
use Rattle.contract_storage.specs.Touched.{admits}
use Rattle.call_spec.specs.World.{AccessKind, Env, made_seq}
use Rattle.host_acts.specs.Traced.{kind_of}

-- A storage makes the accesses of an environment: in its ledger, with its settings, and its judge allows what the storage allows.
pub record Serves (env : Env) (s : Stored) : Type 0 where
  pub number : s.n ≡ made_seq env
  pub lives : s.lives ≡ env.header.settings
  pub judge : (kind : AccessKind) (key : LedgerKey) → key_format.fits key
      → admits s.declared (kind_of kind) key ≡ env.judge kind (key_bytes key)
