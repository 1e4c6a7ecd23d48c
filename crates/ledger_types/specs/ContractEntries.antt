-- The entries of contracts, after an empty extension point (XDR file Stellar-ledger-entries, `ContractDataEntry` and
-- `ContractCodeEntry`).
use Rattle.std.specs.Prelude.{List, ℕ, refl}
use Rattle.std.proofs.Common.{arith}
use Rattle.xdr_spec.specs.Format.{Format, via, pair, opaque}
use Rattle.xdr_spec.specs.Laws.{IsFormat}
use Rattle.xdr_spec.proofs.Lemmas.{opaque_lawful, pair_lawful, via_lawful}
use Rattle.value_types.specs.Headed.{headed, headed_lawful}
use Rattle.value_types.specs.Hash.{hash_format, hash_lawful}
use Rattle.value_types.specs.Address.{address_format, address_lawful}
use Rattle.value_types.specs.Formats.{scval_format}
use Rattle.value_types.proofs.Lemmas.{scval_lawful}
use Rattle.value_types.specs.declared.hash.Hash.{Hash}
use Rattle.value_types.specs.declared.address.ScAddress.{ScAddress}
use Rattle.value_types.specs.declared.value.ScVal.{ScVal}
use Rattle.ledger_types.specs.Durability.{durability_format, durability_lawful}
use Rattle.ledger_types.specs.declared.durability.Durability.{Durability}
use Rattle.ledger_types.specs.declared.contract_entries.ContractDataEntry.{ContractDataEntry}
use Rattle.ledger_types.specs.declared.contract_entries.ContractCodeEntry.{ContractCodeEntry}

-- ---- data

abbrev pub DataFields : Type 0
DataFields = ScAddress × (ScVal × (Durability × ScVal))

abbrev pub data_of : DataFields → ContractDataEntry
data_of f = record { contract = f.0; key = f.1.0; durability = f.1.1.0; val = f.1.1.1 }

abbrev pub data_fields : ContractDataEntry → DataFields
data_fields e = (e.contract, (e.key, (e.durability, e.val)))

abbrev pub data_fields_format : Format DataFields
data_fields_format = pair address_format (pair scval_format (pair durability_format scval_format))

unfoldable pub data_format : Format ContractDataEntry
data_format = headed 0 (via data_of data_fields data_fields_format)

data_fields_lawful : IsFormat data_fields_format
data_fields_lawful =
    pair_lawful _ _ address_lawful (pair_lawful _ _ scval_lawful (pair_lawful _ _ durability_lawful scval_lawful))

pub data_lawful : IsFormat data_format
unfolding data_format
data_lawful =
    headed_lawful 0 _ (omega arith) (via_lawful data_of data_fields data_fields_format (λ f. refl) (λ e. refl) data_fields_lawful)

-- ---- code

abbrev pub code_of : Hash × List ℕ → ContractCodeEntry
code_of f = record { hash = f.0; code = f.1 }

abbrev pub code_fields : ContractCodeEntry → Hash × List ℕ
code_fields e = (e.hash, e.code)

unfoldable pub code_format : Format ContractCodeEntry
code_format = headed 0 (via code_of code_fields (pair hash_format (opaque 4294967295)))

pub code_lawful : IsFormat code_format
unfolding code_format
code_lawful =
    headed_lawful 0 _ (omega arith)
    (via_lawful code_of code_fields _ (λ f. refl) (λ e. refl) (pair_lawful _ _ hash_lawful (opaque_lawful 4294967295)))
