-- The order of ledger keys (own): the order of their XDR bytes. Keys without XDR bytes, whose lengths or depths are beyond their
-- bounds, are ordered by the stand-ins of `Rattle.spelled_order.specs.Ranked`.
use Rattle.std.specs.Prelude.{ℕ, List, [], ◌++◌}
use Rattle.std.specs.Ordering.{nat_cmp, on}
use Rattle.std.specs.Cmp.{IsTotalOrder, on_total}
use Rattle.std.specs.Cmp.Lexicographic.{slice_cmp, nat_list_cmp_total}
use Rattle.std.specs.declared.cmp.Ordering.{Ordering}
use Rattle.xdr_spec.specs.Format.{signed64}
use Rattle.value_types.specs.Hash.{hash_format}
use Rattle.value_types.specs.AccountId.{account_id_format}
use Rattle.value_types.specs.Address.{address_format}
use Rattle.value_xdr.specs.Bytes.{word}
use Rattle.spelled_order.specs.Ranked.{ranked_text, ranked_value}
use Rattle.ledger_types.specs.Durability.{durability_format}
use Rattle.ledger_types.specs.AssetCode.{code4_format, code12_format}
use Rattle.ledger_types.specs.TrustLineAsset.{asset_format}
use Rattle.ledger_types.specs.EntryType.{number}
use Rattle.ledger_types.specs.Key.{kind}
use Rattle.ledger_types.specs.declared.asset.TrustLineAsset.{TrustLineAsset}
use Rattle.ledger_types.specs.declared.asset.TrustLineAsset.TheVariants as assets
use Rattle.ledger_types.specs.declared.key.LedgerKey.{LedgerKey}
use Rattle.ledger_types.specs.declared.key.LedgerKey.TheVariants as keys

-- the bytes after the number of an asset's type
abbrev pub asset_rest : TrustLineAsset → List ℕ
asset_rest assets.Native = []
asset_rest (assets.CreditAlphanum4 code issuer) = code4_format.spell code ++ account_id_format.spell issuer
asset_rest (assets.CreditAlphanum12 code issuer) = code12_format.spell code ++ account_id_format.spell issuer
asset_rest (assets.PoolShare pool) = hash_format.spell pool

-- the bytes after the number of the entry's type
abbrev pub ranked_rest : LedgerKey → List ℕ
ranked_rest (keys.Account account) = account_id_format.spell account
ranked_rest (keys.Trustline account asset) = account_id_format.spell account ++ asset_format.spell asset
ranked_rest (keys.Offer seller offer) = account_id_format.spell seller ++ signed64.spell offer
ranked_rest (keys.Data account name) = account_id_format.spell account ++ ranked_text name
ranked_rest (keys.ClaimableBalance id) = word 0 ++ hash_format.spell id
ranked_rest (keys.LiquidityPool id) = hash_format.spell id
ranked_rest (keys.ContractData contract key durability) =
    address_format.spell contract ++ (ranked_value key ++ durability_format.spell durability)
ranked_rest (keys.ContractCode hash) = hash_format.spell hash
ranked_rest (keys.Ttl hash) = hash_format.spell hash

-- the bytes by which keys are ordered
abbrev pub ranked_key : LedgerKey → List ℕ
ranked_key key = word (number (kind key)) ++ ranked_rest key

abbrev pub key_cmp : LedgerKey → LedgerKey → Ordering
key_cmp = on ranked_key (slice_cmp nat_cmp)

pub key_total : IsTotalOrder key_cmp
key_total = on_total ranked_key nat_list_cmp_total
