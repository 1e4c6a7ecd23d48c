-- An entry and its live-until ledger (XDR file Stellar-ledger-entries, `TTLEntry`; the record is own).
use Rattle.std.specs.Prelude.{ℕ, refl}
use Rattle.xdr_spec.specs.Format.{Format, via, pair, number32}
use Rattle.xdr_spec.specs.Laws.{IsFormat}
use Rattle.xdr_spec.proofs.Lemmas.{number32_lawful, pair_lawful, via_lawful}
use Rattle.value_types.specs.Hash.{hash_format, hash_lawful}
use Rattle.value_types.specs.declared.hash.Hash.{Hash}
use Rattle.ledger_types.specs.Entry.{entry_format, entry_lawful}
use Rattle.ledger_types.specs.declared.entry.LedgerEntry.{LedgerEntry}
use Rattle.ledger_types.specs.declared.record.TtlEntry.{TtlEntry}
use Rattle.ledger_types.specs.declared.record.LedgerRecord.{LedgerRecord}

abbrev pub ttl_of : Hash × ℕ → TtlEntry
ttl_of f = record { key_hash = f.0; live_until_ledger_seq = f.1 }

abbrev pub ttl_fields : TtlEntry → Hash × ℕ
ttl_fields t = (t.key_hash, t.live_until_ledger_seq)

unfoldable pub ttl_format : Format TtlEntry
ttl_format = via ttl_of ttl_fields (pair hash_format number32)

pub ttl_lawful : IsFormat ttl_format
unfolding ttl_format
ttl_lawful = via_lawful ttl_of ttl_fields _ (λ f. refl) (λ t. refl) (pair_lawful _ _ hash_lawful number32_lawful)

abbrev pub record_of : LedgerEntry × TtlEntry → LedgerRecord
record_of f = record { entry = f.0; ttl = f.1 }

abbrev pub record_fields : LedgerRecord → LedgerEntry × TtlEntry
record_fields r = (r.entry, r.ttl)

unfoldable pub record_format : Format LedgerRecord
record_format = via record_of record_fields (pair entry_format ttl_format)

pub record_lawful : IsFormat record_format
unfolding record_format
record_lawful = via_lawful record_of record_fields _ (λ f. refl) (λ r. refl) (pair_lawful _ _ entry_lawful ttl_lawful)
