-- The header and the entries of the generated ledger, and the verdicts, are within their XDR formats.
use Rattle.std.specs.Prelude.{codes, replicate}
use Rattle.std.proofs.Common.{◌≡◌, ℕ, ◌<◌, ◌^◌, true, ◌&&◌, ltb, [], refl, arith}
use Rattle.std.proofs.lemmas.Bool.{ltb-true}
use Rattle.xdr_spec.specs.Format.{number32, number64, opaque, optional, list}
use Rattle.value_types.specs.Executable.{executable_format}
use Rattle.value_types.specs.Formats.{scval_format, value_format}
use Rattle.value_types.specs.Hash.{hash_format}
use Rattle.ledger_types.specs.ContractEntries.{data_format, code_format}
use Rattle.ledger_types.specs.Durability.{durability_format}
use Rattle.ledger_types.specs.Entry.{body_format, entry_format}
use Rattle.ledger_types.specs.Header.{settings_format, header_in, header_format}
use Rattle.ledger_types.specs.Terms.{row_format, terms_format}
use Rattle.ledger_types.specs.Verdicts.{verdicts_format}
use Rattle.ledger_spec.specs.LedgerMap.{HasCodeHash}
use Rattle.set_generator.specs.declared.contracts.TheConstants.{BUMP}
use Rattle.set_generator.specs.GeneratedContracts.{bump_hash}
use Rattle.set_generator.specs.GeneratedLedger.{terms_for, settings, generated_header, instance_of, counter_of, code_entry}
use Rattle.set_generator.proofs.Bytes.{both_first, both_second, bytes_from, address_fits, hash_fits}

pub instance_fits : (n : ℕ) → n < 256 → entry_format.fits (instance_of n).entry
unfolding entry_format body_format data_format durability_format scval_format value_format executable_format number32 optional
instance_fits n lt = (omega arith, ((address_fits n lt, (refl, (refl, (hash_fits, tt)))), refl))

pub counter_fits : (n : ℕ) → n < 256 → entry_format.fits (counter_of n).entry
unfolding entry_format body_format data_format durability_format scval_format value_format opaque number32
counter_fits n lt = (omega arith, ((address_fits n lt, ((omega arith, omega arith, bytes_from (codes "ab") refl), (refl, omega arith))), refl))

pub code_fits : entry_format.fits code_entry.entry
unfolding entry_format body_format code_format opaque number32
code_fits = (omega arith, ((hash_fits, (omega arith, omega arith, bytes_from BUMP refl)), refl))

pub code_hashed : HasCodeHash code_entry.entry.data
unfolding bump_hash
code_hashed = refl

row_fits : (a b c d : ℕ) → (ltb a (2 ^ 32) && (ltb b (2 ^ 32) && (ltb c (2 ^ 32) && ltb d (2 ^ 32)))) ≡ true → row_format.fits (terms_for a b c d)
unfolding row_format number32
row_fits a b c d e =
    let cd = both_second (ltb b (2 ^ 32)) (ltb c (2 ^ 32) && ltb d (2 ^ 32)) (both_second (ltb a (2 ^ 32)) _ e) in (
      ltb-true a (2 ^ 32) (both_first (ltb a (2 ^ 32)) _ e),
      (
        ltb-true b (2 ^ 32) (both_first (ltb b (2 ^ 32)) _ (both_second (ltb a (2 ^ 32)) _ e)),
        (
          ltb-true c (2 ^ 32) (both_first (ltb c (2 ^ 32)) _ cd),
          ltb-true d (2 ^ 32) (both_second (ltb c (2 ^ 32)) (ltb d (2 ^ 32)) cd),
        ),
      ),
    )

terms_fit : terms_format.fits settings.terms
unfolding terms_format
terms_fit = (
  row_fits 1 0 0 0 refl,
  (
    row_fits 0 0 16 128 refl,
    (
      row_fits 0 128 0 0 refl,
      (
        row_fits 0 128 0 0 refl,
        (
          row_fits 10 0 0 0 refl,
          (
            row_fits 5 0 0 0 refl,
            (
              row_fits 0 128 0 0 refl,
              (
                row_fits 0 128 0 0 refl,
                (
                  row_fits 100 128 0 0 refl,
                  (
                    row_fits 1000 128 0 128 refl,
                    row_fits 100 0 0 0 refl,
                  ),
                ),
              ),
            ),
          ),
        ),
      ),
    ),
  ),
)

settings_fit : settings_format.fits settings
unfolding settings_format number32 number64
settings_fit = (omega arith, (omega arith, (omega arith, (omega arith, terms_fit))))

pub header_fits : header_format.fits generated_header
unfolding header_in hash_format number32 number64
header_fits = ((refl, bytes_from (replicate 32 7) refl), (omega arith, (omega arith, (omega arith, settings_fit))))

pub no_verdicts_fit : verdicts_format.fits (record { pairs = [] })
unfolding verdicts_format list
no_verdicts_fit = (omega arith, omega arith, tt)
