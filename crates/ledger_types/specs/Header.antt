-- A ledger's settings and header (own).
use Rattle.std.specs.Prelude.{ℕ, refl}
use Rattle.xdr_spec.specs.Format.{Format, via, pair, number32, number64}
use Rattle.xdr_spec.specs.Laws.{IsFormat}
use Rattle.xdr_spec.proofs.Lemmas.{number32_lawful, number64_lawful, pair_lawful, via_lawful}
use Rattle.value_types.specs.Hash.{hash_format, hash_lawful}
use Rattle.value_types.specs.declared.hash.Hash.{Hash}
use Rattle.budget_meter.specs.declared.terms.Terms.{Terms}
use Rattle.file_version.specs.FileVersion.{protocol_format, protocol_lawful}
use Rattle.ledger_types.specs.Terms.{terms_format, terms_lawful}
use Rattle.file_version.specs.declared.version.FileVersion.{FileVersion}
use Rattle.file_version.specs.declared.version.FileVersion.TheVariants.{V2}
use Rattle.ledger_types.specs.declared.header.Settings.{Settings}
use Rattle.ledger_types.specs.declared.header.Header.{Header}

-- ---- settings

abbrev pub SettingsFields : Type 0
SettingsFields = ℕ × (ℕ × (ℕ × (ℕ × Terms)))

abbrev pub settings_of : SettingsFields → Settings
settings_of f = record
    { min_temporary_ttl = f.0; min_persistent_ttl = f.1.0; max_entry_ttl = f.1.1.0; memory_limit = f.1.1.1.0; terms = f.1.1.1.1 }

abbrev pub settings_fields : Settings → SettingsFields
settings_fields s = (s.min_temporary_ttl, (s.min_persistent_ttl, (s.max_entry_ttl, (s.memory_limit, s.terms))))

abbrev pub settings_fields_format : Format SettingsFields
settings_fields_format = pair number32 (pair number32 (pair number32 (pair number64 terms_format)))

unfoldable pub settings_format : Format Settings
settings_format = via settings_of settings_fields settings_fields_format

settings_fields_lawful : IsFormat settings_fields_format
settings_fields_lawful =
    pair_lawful _ _ number32_lawful (pair_lawful _ _ number32_lawful (pair_lawful _ _ number32_lawful
    (pair_lawful _ _ number64_lawful terms_lawful)))

pub settings_lawful : IsFormat settings_format
unfolding settings_format
settings_lawful = via_lawful settings_of settings_fields settings_fields_format (λ f. refl) (λ s. refl) settings_fields_lawful

-- ---- the header

abbrev pub HeaderFields : Type 0
HeaderFields = Hash × (ℕ × (ℕ × (ℕ × Settings)))

abbrev pub header_of : HeaderFields → Header
header_of f = record { network_id = f.0; protocol = f.1.0; seq = f.1.1.0; close_time = f.1.1.1.0; settings = f.1.1.1.1 }

abbrev pub header_fields : Header → HeaderFields
header_fields h = (h.network_id, (h.protocol, (h.seq, (h.close_time, h.settings))))

abbrev pub header_fields_format : FileVersion → Format HeaderFields
header_fields_format version = pair hash_format (pair (protocol_format version) (pair number32 (pair number64 settings_format)))

-- the header in a file of this version
unfoldable pub header_in : FileVersion → Format Header
header_in version = via header_of header_fields (header_fields_format version)

-- the header in the files that are written
abbrev pub header_format : Format Header
header_format = header_in V2

header_fields_lawful : (version : FileVersion) → IsFormat (header_fields_format version)
header_fields_lawful version =
    pair_lawful _ _ hash_lawful (pair_lawful _ _ (protocol_lawful version)
    (pair_lawful _ _ number32_lawful (pair_lawful _ _ number64_lawful settings_lawful)))

pub header_in_lawful : (version : FileVersion) → IsFormat (header_in version)
unfolding header_in
header_in_lawful version =
    via_lawful header_of header_fields (header_fields_format version) (λ f. refl) (λ h. refl) (header_fields_lawful version)

pub header_lawful : IsFormat header_format
header_lawful = header_in_lawful V2
