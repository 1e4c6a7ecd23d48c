-- What a transaction declares (XDR file Stellar-transaction, `LedgerFootprint`, `SorobanResources` and `SorobanTransactionData`).
use Rattle.std.specs.Prelude.{ℕ, ℤ, List}
use Rattle.std.proofs.Common.{refl, arith}
use Rattle.xdr_spec.specs.Format.{Format, via, pair, list, number32, signed64}
use Rattle.xdr_spec.specs.Laws.{IsFormat}
use Rattle.xdr_spec.proofs.Lemmas.{list_lawful, number32_lawful, pair_lawful, signed64_lawful, via_lawful}
use Rattle.value_types.specs.Headed.{headed, headed_lawful}
use Rattle.ledger_types.specs.Key.{key_format, key_lawful}
use Rattle.ledger_types.specs.declared.key.LedgerKey.{LedgerKey}
use Rattle.tx_xdr.specs.declared.transaction.Footprint.{Footprint}
use Rattle.tx_xdr.specs.declared.transaction.SorobanData.{SorobanData}

-- ---- the footprint: the keys that are read alone, and those that are written

abbrev pub footprint_of : List LedgerKey × List LedgerKey → Footprint
footprint_of f = record { read_only = f.0; read_write = f.1 }

abbrev pub footprint_fields : Footprint → List LedgerKey × List LedgerKey
footprint_fields footprint = (footprint.read_only, footprint.read_write)

unfoldable pub footprint_format : Format Footprint
footprint_format = via footprint_of footprint_fields (pair (list 4294967295 key_format) (list 4294967295 key_format))

pub footprint_lawful : IsFormat footprint_format
unfolding footprint_format
footprint_lawful =
    via_lawful footprint_of footprint_fields _ (λ f. refl) (λ footprint. refl)
    (pair_lawful _ _ (list_lawful _ _ key_lawful) (list_lawful _ _ key_lawful))

-- ---- what is declared: ext 0, the footprint, three numbers and a fee

abbrev pub SorobanFields : Type 0
SorobanFields = Footprint × (ℕ × (ℕ × (ℕ × ℤ)))

abbrev pub soroban_of : SorobanFields → SorobanData
soroban_of f =
    record { footprint = f.0; instructions = f.1.0; disk_read_bytes = f.1.1.0; write_bytes = f.1.1.1.0; resource_fee = f.1.1.1.1 }

abbrev pub soroban_fields : SorobanData → SorobanFields
soroban_fields soroban =
    (soroban.footprint, (soroban.instructions, (soroban.disk_read_bytes, (soroban.write_bytes, soroban.resource_fee))))

unfoldable pub soroban_format : Format SorobanData
soroban_format =
    headed 0 (via soroban_of soroban_fields (pair footprint_format (pair number32 (pair number32 (pair number32 signed64)))))

pub soroban_lawful : IsFormat soroban_format
unfolding soroban_format
soroban_lawful = headed_lawful 0 _ (omega arith) (via_lawful soroban_of soroban_fields _ (λ f. refl) (λ soroban. refl)
    (pair_lawful _ _ footprint_lawful
    (pair_lawful _ _ number32_lawful (pair_lawful _ _ number32_lawful (pair_lawful _ _ number32_lawful signed64_lawful)))))
