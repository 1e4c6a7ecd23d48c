-- The file of a change log (own): the numbers of the two ledgers, and the changes of each stage.
use Rattle.std.specs.Prelude.{ℕ, List, refl}
use Rattle.xdr_spec.specs.Format.{Format, via, pair, list, number32, number64}
use Rattle.xdr_spec.specs.Laws.{IsFormat}
use Rattle.xdr_spec.proofs.Lemmas.{list_lawful, number32_lawful, number64_lawful, pair_lawful, via_lawful}
use Rattle.change_log.specs.Change.{change_format, change_lawful}
use Rattle.change_log.specs.declared.change.LedgerEntryChange.{LedgerEntryChange}
use Rattle.change_log.specs.declared.log.LoggedStage.{LoggedStage}
use Rattle.change_log.specs.declared.log.Log.{Log}

-- ---- the changes of a stage: those of each transaction, and those of its end

abbrev pub Changes : Type 0
Changes = List LedgerEntryChange

abbrev pub changes_format : Format Changes
changes_format = list 4294967295 change_format

abbrev pub stage_of : List Changes × Changes → LoggedStage
stage_of f = record { transactions = f.0; end = f.1 }

abbrev pub stage_fields : LoggedStage → List Changes × Changes
stage_fields s = (s.transactions, s.end)

unfoldable pub stage_format : Format LoggedStage
stage_format = via stage_of stage_fields (pair (list 4294967295 changes_format) changes_format)

changes_lawful : IsFormat changes_format
changes_lawful = list_lawful 4294967295 change_format change_lawful

pub stage_lawful : IsFormat stage_format
unfolding stage_format
stage_lawful =
    via_lawful stage_of stage_fields _ (λ f. refl) (λ s. refl)
    (pair_lawful _ _ (list_lawful 4294967295 changes_format changes_lawful) changes_lawful)

-- ---- the log

abbrev pub LogFields : Type 0
LogFields = ℕ × (ℕ × (ℕ × List LoggedStage))

abbrev pub log_of : LogFields → Log
log_of f = record { old_seq = f.0; old_close_time = f.1.0; new_close_time = f.1.1.0; stages = f.1.1.1 }

abbrev pub log_fields : Log → LogFields
log_fields l = (l.old_seq, (l.old_close_time, (l.new_close_time, l.stages)))

unfoldable pub log_format : Format Log
log_format = via log_of log_fields (pair number32 (pair number64 (pair number64 (list 4294967295 stage_format))))

pub log_lawful : IsFormat log_format
unfolding log_format
log_lawful =
    via_lawful log_of log_fields _ (λ f. refl) (λ l. refl)
    (pair_lawful _ _ number32_lawful
    (pair_lawful _ _ number64_lawful (pair_lawful _ _ number64_lawful (list_lawful 4294967295 stage_format stage_lawful))))
