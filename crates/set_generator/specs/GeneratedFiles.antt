-- What `gen` stores and counts (own).
use Rattle.std.specs.Prelude.{ℕ, []}
use Rattle.ledger_types.specs.Verdicts.{verdicts_format}
use Rattle.ledger_spec.specs.LedgerFile.{ledger_bytes}
use Rattle.tx_xdr.specs.Set.{set_format}
use Rattle.set_generator.specs.declared.files.Generated.{Generated}
use Rattle.set_generator.specs.GeneratedSet.{generated_set, stage_count}
use Rattle.set_generator.specs.GeneratedLedger.{generated_header, generated_entries}

-- The bytes of the set, of the ledger and of the verdicts, of which there are none, and the number of stages of the set.
unfoldable pub generated_files : ℕ → ℕ → Generated
generated_files count seed = record {
  set = set_format.spell (generated_set count seed);
  ledger = ledger_bytes generated_header generated_entries;
  verdicts = verdicts_format.spell (record { pairs = [] });
  stages = stage_count count;
}
