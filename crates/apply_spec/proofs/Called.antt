-- The effect of a call.
use Rattle.std.specs.Option.{option_map}
use Rattle.std.proofs.Common.{◌≡◌, ℕ, Bool, true, false, is_some, nat_lt, List, [], ◌∷◌, Option, Some, None, if◌then◌else◌, refl, ap, ◌∙◌}
use Rattle.budget_meter.specs.declared.budget.Used.{Used}
use Rattle.value_types.specs.Datum.{Datum}
use Rattle.ledger_types.specs.declared.header.Header.{Header}
use Rattle.ledger_types.specs.declared.verdicts.Verdicts.{Verdicts}
use Rattle.auth_types.specs.declared.auth_entry.AuthEntry.{AuthEntry}
use Rattle.invoke_types.specs.declared.host_function.HostFunction.{HostFunction}
use Rattle.tx_xdr.specs.declared.transaction.Operation.{Operation}
use Rattle.tx_xdr.specs.declared.transaction.OperationBody.{OperationBody}
use Rattle.tx_xdr.specs.declared.transaction.OperationBody.TheVariants.{InvokeHostFunction}
use Rattle.tx_xdr.specs.declared.transaction.SorobanData.{SorobanData}
use Rattle.tx_xdr.specs.declared.transaction.TransactionExt.{TransactionExt}
use Rattle.tx_xdr.specs.declared.transaction.TransactionExt.TheVariants as exts
use Rattle.tx_xdr.specs.declared.envelope.Envelope.{Envelope}
use Rattle.tx_xdr.specs.Envelope.{transaction_in}
use Rattle.tx_results.specs.Report.{is_good_call}
use Rattle.tx_results.specs.declared.operation.InvokeResult.{InvokeResult}
use Rattle.tx_results.specs.declared.operation.InvokeResult.TheVariants as invokes
use Rattle.tx_results.specs.declared.results.TransactionOutcome.{TransactionOutcome}
use Rattle.invoke_types.specs.declared.success.SuccessPreimage.{SuccessPreimage}
use Rattle.stage_runs.specs.Maps.{LedgerMap}
use Rattle.stage_runs.specs.Transactions.{Effect}
use Rattle.stage_runs.specs.Whole as runs
use Rattle.call_spec.specs.World.{Access, Authority}
use Rattle.call_spec.specs.Acts.{Failed, Spent, Archived, Out, Good, Bad, Undeclared}
use Rattle.call_spec.specs.WholeRuns.{Work, work_of}
use Rattle.call_spec.specs.Invoked.{Invoked, by_end, by_trace, by_work, invoked, declares_archived, read_bytes, written_bytes}
use Rattle.apply_spec.specs.Checks.{refusal_of}
use Rattle.apply_spec.specs.Enforced.{Performed, outcome_of_call, performed_call, authority_of, called, performed, first_performed, judged, whole, result_pair}
use Rattle.apply_spec.specs.Laws.{effect_of_call, InvokeLaw}

-- ---- there is a success preimage exactly after SUCCESS

abbrev pub Tells : Invoked → Type 0
Tells end = is_some end.success ≡ is_good_call end.result

chosen_tells : (b : Bool) (x y : Invoked) → Tells x → Tells y → Tells (if b then x else y)
chosen_tells true x y h g = h
chosen_tells false x y h g = g

module _ (n : ℕ) (resources : SorobanData) (entries : LedgerMap) where
  pub end_tells : (out : Out Datum) → Tells (by_end n resources entries out)
  end_tells (Good d w) = chosen_tells (nat_lt resources.write_bytes (written_bytes n entries w.entries)) _ _ refl refl
  end_tells (Bad Spent w) = refl
  end_tells (Bad (Failed e) w) = refl
  end_tells (Bad (Archived key) w) = refl
  end_tells (Undeclared a w) = refl

  trace_tells : (first : Option Access) (out : Out Datum) → Tells (by_trace n resources entries first out)
  trace_tells (Some a) out = refl
  trace_tells None out = end_tells out

work_tells : (header : Header) (authority : Authority) (resources : SorobanData) (entries : LedgerMap) (work : Option Work) → Tells (by_work header authority resources entries work)
work_tells header authority resources entries None = refl
work_tells header authority resources entries (Some work) =
    chosen_tells (declares_archived _ entries resources.footprint) _ _ refl
    (chosen_tells (nat_lt resources.disk_read_bytes (read_bytes _ entries resources.footprint)) _ _ refl
    (trace_tells _ resources entries _ _))

pub invoked_tells : (header : Header) (authority : Authority) (resources : SorobanData) (entries : LedgerMap) (function : HostFunction)
    → Tells (invoked header authority resources entries function)
invoked_tells header authority resources entries function = work_tells header authority resources entries (work_of function)

-- ---- the effect

no_success : (success : Option SuccessPreimage) → is_some success ≡ false → None ≡ success
no_success None e = refl
no_success (Some s) e = absurd cc

module _ (header : Header) (entries : LedgerMap) (envelope : Envelope) where
  abbrev without_success : InvokeResult → Used → Option SuccessPreimage → Effect
  without_success result used success =
      record { result = result_pair header.network_id envelope (outcome_of_call result); success = success; changes = []; extensions = []; used = used }

  abbrev end_of : InvokeResult → Option SuccessPreimage → LedgerMap → Used → Invoked
  end_of result success new used = record { result = result; success = success; entries = new; used = used }

  -- by the call's result
  by_result : (result : InvokeResult) (success : Option SuccessPreimage) (new : LedgerMap) (used : Used) → is_some success ≡ is_good_call result
      → runs.effect_of entries envelope (judged header envelope (performed_call (end_of result success new used))) ≡ effect_of_call header entries envelope (end_of result success new used)
  by_result (invokes.Success preimage) success new used e = refl
  by_result invokes.Malformed success new used e = ap (without_success invokes.Malformed used) (no_success success e)
  by_result invokes.Trapped success new used e = ap (without_success invokes.Trapped used) (no_success success e)
  by_result invokes.ResourceLimitExceeded success new used e = ap (without_success invokes.ResourceLimitExceeded used) (no_success success e)
  by_result invokes.EntryArchived success new used e = ap (without_success invokes.EntryArchived used) (no_success success e)

  pub call_effect : (end : Invoked) → Tells end → runs.effect_of entries envelope (judged header envelope (performed_call end)) ≡ effect_of_call header entries envelope end
  call_effect end tells = by_result end.result end.success end.entries end.used tells

  with_resources : (authority : Authority) (ext : TransactionExt) (resources : SorobanData) (function : HostFunction) → ext ≡ exts.Soroban resources
      → called header authority entries ext function ≡ performed_call (invoked header authority resources entries function)
  with_resources authority ext resources function e = ap (λ (x : TransactionExt). called header authority entries x function) e

  first_calls : (verdicts : Verdicts) (operations : List Operation) (operation : Operation) (function : HostFunction) (auth : List AuthEntry)
      → operations ≡ operation ∷ [] → operation.body ≡ InvokeHostFunction function auth
      → first_performed header verdicts entries (transaction_in envelope) operations
      ≡ called header (authority_of verdicts (transaction_in envelope) operation.source auth) entries (transaction_in envelope).ext function
  first_calls verdicts operations operation function auth only calls =
      ap (first_performed header verdicts entries (transaction_in envelope)) only
      ∙ ap (λ (body : OperationBody). performed header verdicts entries (transaction_in envelope) operation.source body) calls

  passed : (o : Option TransactionOutcome) (effect : Effect) → o ≡ None → runs.unless_refused (option_map (result_pair header.network_id envelope) o) effect ≡ effect
  passed None effect e = refl
  passed (Some outcome) effect e = absurd cc

pub invoke_law : InvokeLaw
invoke_law header verdicts entries envelope resources operation function auth is =
    let tx = transaction_in envelope in
    let authority = authority_of verdicts tx operation.source auth in
    passed header entries envelope (refusal_of header tx) (runs.effect_of entries envelope (whole header verdicts entries envelope)) is.passes
    ∙ ap (λ (p : Performed). runs.effect_of entries envelope (judged header envelope p))
    (first_calls header entries envelope verdicts tx.operations operation function auth is.only is.calls
    ∙ with_resources header entries envelope authority tx.ext resources function is.with_resources)
    ∙ call_effect header entries envelope (invoked header authority resources entries function) (invoked_tells header authority resources entries function)
