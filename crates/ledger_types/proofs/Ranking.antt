-- Keys and their parts in order.
use Rattle.std.proofs.Common.{◌≡◌, ℕ, ℤ, true, List, [], ◌++◌, length, Equal, refl, sym, ap, subst, ◌∙◌}
use Rattle.std.proofs.lemmas.List.{append-nil}
use Rattle.std.specs.Bool.{Decides}
use Rattle.std.specs.Ordering.{nat_cmp, eq_by_cmp}
use Rattle.std.specs.Cmp.{Equal-is, eq_by_cmp_equiv}
use Rattle.std.specs.Cmp.Lexicographic.{slice_cmp}
use Rattle.xdr_spec.proofs.Lemmas.{one_spelling}
use Rattle.value_types.specs.Rows.{text}
use Rattle.value_types.specs.RowLaws.{text-prefix}
use Rattle.value_types.proofs.Lemmas.{cmp-text, rows-exact}
use Rattle.value_types.specs.AccountId.{account_id_format}
use Rattle.value_types.specs.Address.{address_format}
use Rattle.value_xdr.specs.Bytes.{word}
use Rattle.spelled_order.specs.Against.{Against}
use Rattle.spelled_order.proofs.Lemmas.{of_one_length, text_spelled, value_spelled}
use Rattle.ledger_types.specs.Durability.{durability_format, number as durability_number}
use Rattle.ledger_types.specs.declared.durability.Durability.{Durability}
use Rattle.ledger_types.specs.declared.durability.Durability.TheVariants as durabilities
use Rattle.ledger_types.specs.AssetCode.{code4_format, code12_format}
use Rattle.ledger_types.specs.TrustLineAsset.{asset_format, number as asset_number, kind as asset_kind}
use Rattle.ledger_types.specs.Key.{key_format, key_lawful}
use Rattle.ledger_types.specs.KeyOrder.{asset_rest, ranked_key, key_cmp, key_total}
use Rattle.ledger_types.specs.declared.asset.AssetCode4.{AssetCode4}
use Rattle.ledger_types.specs.declared.asset.AssetCode12.{AssetCode12}
use Rattle.ledger_types.specs.declared.asset.TrustLineAsset.{TrustLineAsset}
use Rattle.ledger_types.specs.declared.asset.TrustLineAsset.TheVariants as assets
use Rattle.ledger_types.specs.declared.key.LedgerKey.{LedgerKey}
use Rattle.ledger_types.specs.declared.key.LedgerKey.TheVariants as keys

pub codes4 : (c d : AssetCode4) → length c.0 ≡ 4 → length d.0 ≡ 4 → Against (code4_format.spell c) (code4_format.spell d) (slice_cmp nat_cmp c.0 d.0)
unfolding code4_format
codes4 c d a b = rw (append-nil c.0, append-nil d.0) (of_one_length c.0 d.0 (rw (a, b) refl))

pub codes12 : (c d : AssetCode12) → length c.0 ≡ 12 → length d.0 ≡ 12 → Against (code12_format.spell c) (code12_format.spell d) (slice_cmp nat_cmp c.0 d.0)
unfolding code12_format
codes12 c d a b = rw (append-nil c.0, append-nil d.0) (of_one_length c.0 d.0 (rw (a, b) refl))

pub durability_bytes : (d : Durability) → durability_format.spell d ≡ word (durability_number d)
unfolding durability_format
durability_bytes durabilities.Temporary = refl
durability_bytes durabilities.Persistent = refl

pub asset_bytes : (a : TrustLineAsset) → asset_format.spell a ≡ word (asset_number (asset_kind a)) ++ asset_rest a
unfolding asset_format
asset_bytes assets.Native = refl
asset_bytes (assets.CreditAlphanum4 code issuer) = refl
asset_bytes (assets.CreditAlphanum12 code issuer) = refl
asset_bytes (assets.PoolShare pool) = refl

-- a key that has a spelling is ordered by it
pub key_ranked : (k : LedgerKey) → key_format.fits k → ranked_key k ≡ key_format.spell k
unfolding key_format
key_ranked (keys.Account account) h = refl
key_ranked (keys.Trustline account asset) h = refl
key_ranked (keys.Offer seller offer) h = refl
key_ranked (keys.Data account name) h = ap (λ (x : List ℕ). word 3 ++ (account_id_format.spell account ++ x)) (text_spelled 64 name h.1)
key_ranked (keys.ClaimableBalance id) h = refl
key_ranked (keys.LiquidityPool id) h = refl
key_ranked (keys.ContractData contract key durability) h =
    ap (λ (x : List ℕ). word 6 ++ (address_format.spell contract ++ (x ++ durability_format.spell durability))) (value_spelled key h.1.0)
key_ranked (keys.ContractCode hash) h = refl
key_ranked (keys.Ttl hash) h = refl

bytes-exact : (xs ys : List ℕ) → slice_cmp nat_cmp xs ys ≡ Equal → xs ≡ ys
bytes-exact xs ys e = (text-prefix xs ys [] [] (ap (λ (z : List ℤ). z ++ []) (rows-exact (text xs) (text ys) (cmp-text xs ys ∙ e)))).0

-- keys that have a spelling are equal only where they are the same
key_cmp-exact : (k l : LedgerKey) → key_format.fits k → key_format.fits l → key_cmp k l ≡ Equal → k ≡ l
key_cmp-exact k l h g e =
    let spelled : key_format.spell k ≡ key_format.spell l = sym (key_ranked k h) ∙ bytes-exact (ranked_key k) (ranked_key l) e ∙ key_ranked l g in
    (one_spelling key_format key_lawful k l (key_format.spell k) (key_format.spell l) [] []
    (record { fits = h; bytes-is = refl }) (record { fits = g; bytes-is = refl }) (ap (λ (z : List ℕ). z ++ []) spelled)).0

pub key_decides : (k l : LedgerKey) → key_format.fits k → key_format.fits l → Decides (eq_by_cmp key_cmp k l) (k ≡ l)
key_decides k l h g =
    (λ e. key_cmp-exact k l h g ((Equal-is (key_cmp k l)).0 e), λ e. subst (λ (z : LedgerKey). eq_by_cmp key_cmp k z ≡ true) e ((eq_by_cmp_equiv key_total).refl k))
