-- The transaction set that `gen` makes (own): a number of transactions, which are drawn from a seed.
use Rattle.std.specs.Prelude.{ℕ, ◌+◌, ◌-◌, ◌*◌, ◌/◌, ◌%◌, ◌==◌, min, pos, List, [], ◌∷◌, None, map, filter, codes}
use Rattle.std.specs.List.{range_with_len}
use Rattle.xdr_spec.specs.Format.{zeros}
use Rattle.value_types.specs.declared.hash.Hash.{Hash}
use Rattle.invoke_types.specs.declared.host_function.HostFunction.TheVariants.{InvokeContract}
use Rattle.tx_parts.specs.declared.account.MuxedAccount.TheVariants.{Ed25519}
use Rattle.tx_parts.specs.declared.memo.Memo.TheVariants as memos
use Rattle.tx_parts.specs.declared.preconditions.Preconditions.TheVariants as preconditions
use Rattle.tx_xdr.specs.declared.envelope.Envelope.{Envelope}
use Rattle.tx_xdr.specs.declared.envelope.Envelope.TheVariants as envelopes
use Rattle.tx_xdr.specs.declared.transaction.Operation.{Operation}
use Rattle.tx_xdr.specs.declared.transaction.OperationBody.TheVariants.{InvokeHostFunction}
use Rattle.tx_xdr.specs.declared.transaction.SorobanData.{SorobanData}
use Rattle.tx_xdr.specs.declared.transaction.TransactionExt.TheVariants.{Soroban}
use Rattle.tx_xdr.specs.declared.set.Cluster.{Cluster}
use Rattle.tx_xdr.specs.declared.set.Stage.{Stage}
use Rattle.tx_xdr.specs.declared.set.Phase.TheVariants.{Parallel}
use Rattle.tx_xdr.specs.declared.set.TxSet.{TxSet}
use Rattle.set_generator.specs.RandomNumbers.{called}
use Rattle.set_generator.specs.GeneratedContracts.{address, instance_key, counter_key, code_key}

abbrev pub zero_hash : Hash
zero_hash = record { 0 = zeros 32 }

-- ---- one transaction

-- the call of `bump` of a contract
abbrev pub bump_call : ℕ → Operation
bump_call number = record {
  source = None;
  body = InvokeHostFunction (InvokeContract (record { contract = address number; function = codes "bump"; args = [] })) [];
}

-- the footprint and the resources of that call
abbrev pub bump_data : ℕ → SorobanData
bump_data number = record {
  footprint = record { read_only = instance_key number ∷ code_key ∷ []; read_write = counter_key number ∷ [] };
  instructions = 2000;
  disk_read_bytes = 356;
  write_bytes = 76;
  resource_fee = pos 0;
}

-- transaction k, which calls the contract of this number
abbrev pub envelope_for : ℕ → ℕ → Envelope
envelope_for number k = envelopes.Transaction (record {
  tx = record {
    source = Ed25519 zero_hash;
    fee = 100;
    seq_num = pos (k + 1);
    preconditions = preconditions.None;
    memo = memos.None;
    operations = bump_call number ∷ [];
    ext = Soroban (bump_data number);
  };
  signatures = [];
})

-- transaction k of those that are drawn from a seed
abbrev pub envelope_at : ℕ → ℕ → Envelope
envelope_at seed k = envelope_for (called seed k) k

-- ---- clusters and stages

-- the transactions of a stage, of `count` transactions in all: 512 of them, or those that are left
abbrev pub numbers_in : ℕ → ℕ → List ℕ
numbers_in count stage = map (λ j. 512 * stage + j) (range_with_len 0 (min 512 (count - 512 * stage)))

-- The contract that a transaction calls decides its cluster, so no two clusters of a stage conflict.
abbrev pub cluster_at : ℕ → ℕ → ℕ → ℕ → Cluster
cluster_at count seed stage cluster =
    record { envelopes = map (envelope_at seed) (filter (λ k. called seed k % 8 == cluster) (numbers_in count stage)) }

-- A stage always has 8 clusters. Some of them may be empty.
abbrev pub stage_at : ℕ → ℕ → ℕ → Stage
stage_at count seed stage = record { clusters = map (cluster_at count seed stage) (range_with_len 0 8) }

-- the number of stages
abbrev pub stage_count : ℕ → ℕ
stage_count count = (count + 511) / 512

-- the set
abbrev pub generated_set : ℕ → ℕ → TxSet
generated_set count seed = record {
  previous_ledger_hash = zero_hash;
  phases = Parallel None (map (stage_at count seed) (range_with_len 0 (stage_count count))) ∷ [];
}
