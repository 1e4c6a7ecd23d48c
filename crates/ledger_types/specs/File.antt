-- The format of a ledger's file: a version, a header and records (own).
use Rattle.std.specs.Prelude.{◌≡◌, List, refl}
use Rattle.xdr_spec.specs.Format.{Format, via, pair, list, nothing, union}
use Rattle.xdr_spec.specs.Laws.{IsFormat}
use Rattle.xdr_spec.proofs.Lemmas.{find_kind-back, list_lawful, nothing_lawful, pair_lawful, union_lawful, via_lawful}
use Rattle.file_version.specs.FileVersion.{number, all, version_of, small, there}
use Rattle.ledger_types.specs.Header.{header_in, header_in_lawful}
use Rattle.ledger_types.specs.Record.{record_format, record_lawful}
use Rattle.file_version.specs.declared.version.FileVersion.{FileVersion}
use Rattle.file_version.specs.declared.version.FileVersion.TheVariants.{V2}
use Rattle.ledger_types.specs.declared.header.Header.{Header}
use Rattle.ledger_types.specs.declared.record.LedgerRecord.{LedgerRecord}
use Rattle.ledger_types.specs.declared.file.LedgerFile.{LedgerFile}

abbrev pub FileFields : Type 0
FileFields = FileVersion × (Header × List LedgerRecord)

abbrev pub file_of : FileFields → LedgerFile
file_of f = record { version = f.0; header = f.1.0; records = f.1.1 }

abbrev pub file_fields : LedgerFile → FileFields
file_fields f = (f.version, (f.header, f.records))

abbrev pub version_in : LedgerFile → FileVersion
version_in f = f.version

-- what follows the number of this version
unfoldable pub rest_format : FileVersion → Format LedgerFile
rest_format version = via file_of file_fields (pair (nothing version) (pair (header_in version) (list 4294967295 record_format)))

unfoldable pub file_format : Format LedgerFile
file_format = union number version_of version_in rest_format

pub rest_lawful : (version : FileVersion) → IsFormat (rest_format version)
unfolding rest_format
rest_lawful version =
    via_lawful file_of file_fields _ (λ f. refl) (λ f. refl)
    (pair_lawful _ _ (nothing_lawful version) (pair_lawful _ _ (header_in_lawful version)
    (list_lawful 4294967295 record_format record_lawful)))

coherent : (version : FileVersion) (f : LedgerFile) → (rest_format version).fits f → f.version ≡ version
unfolding rest_format
coherent version f h = h.0

pub file_lawful : IsFormat file_format
unfolding file_format
file_lawful = union_lawful number version_of version_in rest_format (record {
  some = V2;
  small = small;
  there = there;
  back = find_kind-back number all;
  bodies = rest_lawful;
  coherent = coherent;
})
