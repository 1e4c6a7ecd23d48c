use Rattle.std.proofs.Common.{◌≡◌, ◌∙◌, ◌++◌, ◌∷◌, [], None, sym, ap, subst}
use Rattle.std.proofs.lemmas.Result.{IfOk-at_ok}
use Rattle.std.specs.FinMap.{entries}
use Rattle.ledger_types.specs.Entry.{key_of}
use Rattle.ledger_types.specs.declared.record.LedgerRecord.{LedgerRecord}
use Rattle.ledger_spec.specs.declared.Kept.{Kept}
use Rattle.ledger_spec.specs.LedgerMap.{IsKeptAt, key_bytes}
use Rattle.ledger_spec.specs.LedgerFile.{fault_of, kept_of}
use Rattle.entry_map.specs.Entries.{last_key, own_bytes}
use Rattle.ledger_file.proofs.Keys.{last_by, kept_by}
use Rattle.ledger_file.proofs.records.add_record.Goals as goal

pub push-requires-clause-last : goal.push-requires-clause-last
push-requires-clause-last c =
    let none : fault_of (last_key (entries c.args.entries.now)) c.args.item ≡ None = IfOk-at_ok (λ _. fault_of (last_key (entries c.args.entries.now)) c.args.item ≡ None) c.in_ok-item.ensures.ok.1 c.judge_record-judged.ensures.good in
    let kept : c.in_ok-entry.entry.value.kept ≡ kept_of c.args.item = c.in_ok-entry.ensures ∙ ap (λ (r : LedgerRecord). kept_of r) c.in_ok-item.ensures.ok.0 in
    last_by c.args.entries.now c.args.item (own_bytes c.in_ok-entry.entry) (ap (λ (k : Kept). key_bytes (key_of k.entry)) kept) none

pub push-requires-clause-kept : goal.push-requires-clause-kept
push-requires-clause-kept c =
    let none : fault_of (last_key (entries c.args.entries.now)) c.args.item ≡ None = IfOk-at_ok (λ _. fault_of (last_key (entries c.args.entries.now)) c.args.item ≡ None) c.in_ok-item.ensures.ok.1 c.judge_record-judged.ensures.good in
    let kept : c.in_ok-entry.entry.value.kept ≡ kept_of c.args.item = c.in_ok-entry.ensures ∙ ap (λ (r : LedgerRecord). kept_of r) c.in_ok-item.ensures.ok.0 in
    subst (λ (k : Kept). IsKeptAt (key_bytes (key_of k.entry)) k) (sym kept) (kept_by _ c.args.item c.requires none)

pub returns-clause-ok : goal.returns-clause-ok
returns-clause-ok c =
    let kept : c.in_ok-entry.entry.value.kept ≡ kept_of c.args.item = c.in_ok-entry.ensures ∙ ap (λ (r : LedgerRecord). kept_of r) c.in_ok-item.ensures.ok.0 in
    c.in_ok-push.ensures.ok ∙ ap (λ (k : Kept). entries c.args.entries.now ++ (key_bytes (key_of k.entry), k) ∷ []) kept
