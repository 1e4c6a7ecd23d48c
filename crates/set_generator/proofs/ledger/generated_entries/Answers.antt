use Rattle.std.proofs.Common.{ℕ, sym, ap, ap₂, ◌∙◌}
use Rattle.ledger_types.specs.declared.entry.LedgerEntry.{LedgerEntry}
use Rattle.ledger_spec.specs.LedgerMap.{LedgerMap}
use Rattle.set_generator.specs.GeneratedLedger.{instance_of, counter_of, with_entry}
use Rattle.set_generator.proofs.Entries.{entries_at_first, entries_next}
use Rattle.set_generator.proofs.ledger.generated_entries.Goals as goal

pub loop-number-init : goal.loop-number-init
loop-number-init c =
    c.in_ok-add.ensures
    ∙ ap₂ (λ (m : LedgerMap) (e : LedgerEntry). with_entry m (record { entry = e; live_until = 5000 })) c.new-entries.ensures c.in_ok-module.ensures.value
    ∙ sym entries_at_first

pub loop-number-preserved : goal.loop-number-preserved
loop-number-preserved c =
    let n : ℕ = c.loop-number.number in
    c.in_ok-add_contract.ensures
    ∙ ap (λ (m : LedgerMap). with_entry (with_entry m (instance_of n)) (counter_of n)) c.loop-number.invariant
    ∙ sym (entries_next n)
