-- The entries that the program records are enough.
use Rattle.std.proofs.Common.{◌≡◌, Result, Ok, Err, IfOk, sym, ap, ◌∙◌, subst}
use Rattle.ledger_types.specs.declared.header.Header.{Header}
use Rattle.ledger_spec.specs.LedgerMap.{LedgerMap}
use Rattle.tx_xdr.specs.declared.transaction.Transaction.{Transaction}
use Rattle.xdr_core.specs.declared.error.NoMemory.{NoMemory}
use Rattle.record_spec.specs.Trees.{Terms}
use Rattle.record_spec.specs.Recorded.{Recorded, recorded}
use Rattle.record_spec.specs.Agreed.{AreSpelled, IsEnough}
use Rattle.record_spec.proofs.Lemmas.{enough_law}
use Rattle.auth_record.specs.declared.record.Recorded as code
use Rattle.auth_record.specs.Views.{recorded_in, IsSpelledRow}

pub enough : (header : Header) (terms : Terms) (entries : LedgerMap) (tx own : Transaction) (given : Result code.Recorded NoMemory) → own ≡ tx
    → IfOk given (λ x. recorded_in x ≡ recorded header terms entries own) → IfOk given (λ x. IsSpelledRow x.entries)
    → IfOk given (λ x. IsEnough header terms entries tx (recorded_in x))
enough header terms entries tx own (Ok x) same is fits =
    let whole : recorded_in x ≡ recorded header terms entries tx = is ∙ ap (recorded header terms entries) same in
    subst (λ (r : Recorded). AreSpelled r → IsEnough header terms entries tx r) (sym whole) (enough_law header terms entries tx) fits
enough header terms entries tx own (Err e) same is fits = tt
