-- The codes of assets, filled up with zeros (XDR file Stellar-ledger-entries, `AssetCode4` and `AssetCode12`).
use Rattle.std.specs.Prelude.{List, ℕ, refl}
use Rattle.xdr_spec.specs.Format.{Format, via, fixed_opaque}
use Rattle.xdr_spec.specs.Laws.{IsFormat}
use Rattle.xdr_spec.proofs.Lemmas.{fixed_opaque_lawful, via_lawful}
use Rattle.ledger_types.specs.declared.asset.AssetCode4.{AssetCode4}
use Rattle.ledger_types.specs.declared.asset.AssetCode12.{AssetCode12}

abbrev pub code4_of : List ℕ → AssetCode4
code4_of bytes = record { 0 = bytes }

abbrev pub code4_bytes : AssetCode4 → List ℕ
code4_bytes c = c.0

unfoldable pub code4_format : Format AssetCode4
code4_format = via code4_of code4_bytes (fixed_opaque 4)

pub code4_lawful : IsFormat code4_format
unfolding code4_format
code4_lawful = via_lawful code4_of code4_bytes (fixed_opaque 4) (λ b. refl) (λ c. refl) (fixed_opaque_lawful 4)

abbrev pub code12_of : List ℕ → AssetCode12
code12_of bytes = record { 0 = bytes }

abbrev pub code12_bytes : AssetCode12 → List ℕ
code12_bytes c = c.0

unfoldable pub code12_format : Format AssetCode12
code12_format = via code12_of code12_bytes (fixed_opaque 12)

pub code12_lawful : IsFormat code12_format
unfolding code12_format
code12_lawful = via_lawful code12_of code12_bytes (fixed_opaque 12) (λ b. refl) (λ c. refl) (fixed_opaque_lawful 12)
