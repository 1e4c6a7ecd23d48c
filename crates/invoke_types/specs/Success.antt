-- What is hashed into the result of a host function that succeeded: the value that it returned, and the events (XDR file
-- Stellar-ledger, `InvokeHostFunctionSuccessPreImage`).
use Rattle.std.specs.Prelude.{List, refl}
use Rattle.xdr_spec.specs.Format.{Format, via, pair, list}
use Rattle.xdr_spec.specs.Laws.{IsFormat}
use Rattle.xdr_spec.proofs.Lemmas.{list_lawful, pair_lawful, via_lawful}
use Rattle.value_types.specs.Formats.{scval_format}
use Rattle.value_types.proofs.Lemmas.{scval_lawful}
use Rattle.value_types.specs.declared.value.ScVal.{ScVal}
use Rattle.invoke_types.specs.Event.{event_format, event_lawful}
use Rattle.invoke_types.specs.declared.event.ContractEvent.{ContractEvent}
use Rattle.invoke_types.specs.declared.success.SuccessPreimage.{SuccessPreimage}

abbrev pub success_of : ScVal × List ContractEvent → SuccessPreimage
success_of f = record { return_value = f.0; events = f.1 }

abbrev pub success_fields : SuccessPreimage → ScVal × List ContractEvent
success_fields s = (s.return_value, s.events)

unfoldable pub success_format : Format SuccessPreimage
success_format = via success_of success_fields (pair scval_format (list 4294967295 event_format))

pub success_lawful : IsFormat success_format
unfolding success_format
success_lawful =
    via_lawful success_of success_fields _ (λ f. refl) (λ s. refl)
    (pair_lawful _ _ scval_lawful (list_lawful 4294967295 event_format event_lawful))
