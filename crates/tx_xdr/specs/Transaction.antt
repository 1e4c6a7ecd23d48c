-- Transactions (XDR file Stellar-transaction, `Transaction`).
use Rattle.std.specs.Prelude.{ℕ, ℤ, List}
use Rattle.std.proofs.Common.{refl}
use Rattle.xdr_spec.specs.Format.{Format, via, pair, list, number32, signed64}
use Rattle.xdr_spec.specs.Laws.{IsFormat}
use Rattle.xdr_spec.proofs.Lemmas.{list_lawful, number32_lawful, pair_lawful, signed64_lawful, via_lawful}
use Rattle.tx_parts.specs.MuxedAccount.{account_format, account_lawful}
use Rattle.tx_parts.specs.Preconditions.{preconditions_format, preconditions_lawful}
use Rattle.tx_parts.specs.Memo.{memo_format, memo_lawful}
use Rattle.tx_parts.specs.declared.account.MuxedAccount.{MuxedAccount}
use Rattle.tx_parts.specs.declared.preconditions.Preconditions.{Preconditions}
use Rattle.tx_parts.specs.declared.memo.Memo.{Memo}
use Rattle.tx_xdr.specs.Operation.{operation_format, operation_lawful}
use Rattle.tx_xdr.specs.Ext.{ext_format, ext_lawful}
use Rattle.tx_xdr.specs.declared.transaction.Operation.{Operation}
use Rattle.tx_xdr.specs.declared.transaction.TransactionExt.{TransactionExt}
use Rattle.tx_xdr.specs.declared.transaction.Transaction.{Transaction}

-- its fields in order, with at most 100 operations (MAX_OPS_PER_TX)

abbrev pub TransactionFields : Type 0
TransactionFields = MuxedAccount × (ℕ × (ℤ × (Preconditions × (Memo × (List Operation × TransactionExt)))))

abbrev pub transaction_of : TransactionFields → Transaction
transaction_of f =
    record {
      source = f.0;
      fee = f.1.0;
      seq_num = f.1.1.0;
      preconditions = f.1.1.1.0;
      memo = f.1.1.1.1.0;
      operations = f.1.1.1.1.1.0;
      ext = f.1.1.1.1.1.1;
    }

abbrev pub transaction_fields : Transaction → TransactionFields
transaction_fields tx = (tx.source, (tx.fee, (tx.seq_num, (tx.preconditions, (tx.memo, (tx.operations, tx.ext))))))

unfoldable pub transaction_format : Format Transaction
transaction_format = via transaction_of transaction_fields
    (pair account_format
    (pair number32 (pair signed64 (pair preconditions_format (pair memo_format (pair (list 100 operation_format) ext_format))))))

pub transaction_lawful : IsFormat transaction_format
unfolding transaction_format
transaction_lawful = via_lawful transaction_of transaction_fields _ (λ f. refl) (λ tx. refl)
    (pair_lawful _ _ account_lawful
    (pair_lawful _ _ number32_lawful (pair_lawful _ _ signed64_lawful (pair_lawful _ _ preconditions_lawful
    (pair_lawful _ _ memo_lawful (pair_lawful _ _ (list_lawful 100 _ operation_lawful) ext_lawful))))))
