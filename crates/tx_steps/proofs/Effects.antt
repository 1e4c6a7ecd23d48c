-- What is known of a transaction that ended without a host function: its extensions have keys that are spelled, and its outcome has a
-- spelling.
use Rattle.std.specs.List.{AllByRecursion, cons_option}
use Rattle.std.proofs.Common.{◌≡◌, ℕ, Bool, true, false, List, [], ◌∷◌, Option, Some, None, IfSome, if◌then◌else◌, All, nat_lt, refl, sym, ap, subst, ◌∙◌}
use Rattle.std.proofs.lemmas.List.Elements.{All-from_recursion, All-nil, recursion_from_All}
use Rattle.budget_meter.specs.declared.budget.Used.{Used}
use Rattle.ledger_types.specs.Key.{key_format}
use Rattle.ledger_types.specs.declared.key.LedgerKey.{LedgerKey}
use Rattle.ledger_types.specs.declared.header.Header.{Header}
use Rattle.ledger_spec.specs.LedgerMap.{LedgerMap}
use Rattle.ledger_spec.specs.Seen.{Seen, live, absent, archived, seen}
use Rattle.tx_results.specs.Report.{has_preimage}
use Rattle.tx_results.specs.Results.{outcome_format}
use Rattle.tx_results.specs.Operations.{invoke_format}
use Rattle.tx_results.proofs.Lemmas.{extend_fits, failed_fits, invoke_fits, invoke_success_fits, malformed_fits, missing_operation_fits, not_supported_fits, soroban_invalid_fits, success_fits, too_early_fits, too_late_fits}
use Rattle.tx_xdr.specs.declared.transaction.Transaction.{Transaction}
use Rattle.tx_results.specs.declared.codes.ExtendResult.TheVariants as extends
use Rattle.tx_results.specs.declared.operation.InvokeResult.{InvokeResult}
use Rattle.tx_results.specs.declared.operation.InvokeResult.TheVariants as invokes
use Rattle.tx_results.specs.declared.operation.InnerResult.TheVariants.{Invoke, Extend}
use Rattle.tx_results.specs.declared.operation.OperationResult.{OperationResult}
use Rattle.tx_results.specs.declared.operation.OperationResult.TheVariants.{Inner, NotSupported}
use Rattle.tx_results.specs.declared.results.TransactionOutcome.{TransactionOutcome}
use Rattle.tx_results.specs.declared.results.TransactionOutcome.TheVariants.{Success, Failed, Malformed}
use Rattle.value_types.specs.Hash.{hash_format}
use Rattle.value_types.specs.declared.hash.Hash.{Hash}
use Rattle.invoke_types.specs.Success.{success_format}
use Rattle.invoke_types.specs.declared.success.SuccessPreimage.{SuccessPreimage}
use Rattle.stage_runs.specs.declared.Change.{Change}
use Rattle.stage_runs.specs.declared.Extension.{Extension}
use Rattle.stage_runs.specs.Whole.{nothing_used}
use Rattle.apply_spec.specs.Checks.{refusal_of, checks_of, first_failed}
use Rattle.apply_spec.specs.Extending.{extensions_of, extension_seen}
use Rattle.tx_steps.specs.Outcomes.{without_changes, without_effect, unsuccessful}
use Rattle.tx_steps.specs.Effects.{CanChange, CanEnd}
use Rattle.stage_runs.proofs.Lemmas.{AreSpelled}

abbrev Spelled : Extension → Type 0
Spelled e = key_format.fits e.key

some_spelled : (s : Seen) (key : LedgerKey) (until : ℕ) → key_format.fits key → IfSome (extension_seen s key until) Spelled
some_spelled (live kept) key until h =
    elim (nat_lt kept.live_until until) as (λ b. IfSome (if b then Some (let e : Extension = record { key = key; live_until = until } in e) else None) Spelled) [ true ↦ h | false ↦ tt ]
some_spelled absent key until h = tt
some_spelled archived key until h = tt

cons_spelled : (o : Option Extension) (rest : List Extension) → IfSome o Spelled → AllByRecursion Spelled rest → AllByRecursion Spelled (cons_option o rest)
cons_spelled None rest h t = t
cons_spelled (Some e) rest h t = (h, t)

extensions_spelled : (n : ℕ) (entries : LedgerMap) (keys : List LedgerKey) (until : ℕ) → AllByRecursion key_format.fits keys → AllByRecursion Spelled (extensions_of n entries keys until)
extensions_spelled n entries [] until h = tt
extensions_spelled n entries (key ∷ keys) until h =
    cons_spelled (extension_seen (seen n entries key) key until) (extensions_of n entries keys until)
    (some_spelled (seen n entries key) key until h.0) (extensions_spelled n entries keys until h.1)

-- an outcome without changes, which asks for no success preimage
pub without_can : (outcome : TransactionOutcome) (used : Used) → outcome_format.fits outcome → has_preimage outcome ≡ false → CanEnd (without_changes outcome used)
without_can outcome used fits quiet = record { outcome = fits; success = tt; preimage = sym quiet; changes = All-nil CanChange; extensions = All-nil Spelled }

-- a host function that failed, with any result that has a spelling
pub call_failed_can : (result : InvokeResult) (used : Used) → invoke_format.fits result → CanEnd (unsuccessful result used)
call_failed_can result used fits = without_can _ used (failed_fits _ (invoke_fits result fits)) refl

-- the results of host functions that failed have a spelling
pub trapped_fits : invoke_format.fits invokes.Trapped
unfolding invoke_format
trapped_fits = refl

pub limit_fits : invoke_format.fits invokes.ResourceLimitExceeded
unfolding invoke_format
limit_fits = refl

pub malformed_call_fits : invoke_format.fits invokes.Malformed
unfolding invoke_format
malformed_call_fits = refl

pub archived_fits : invoke_format.fits invokes.EntryArchived
unfolding invoke_format
archived_fits = refl

pub extend_malformed_can : (only : OperationResult) → only ≡ Inner (Extend extends.Malformed) → CanEnd (without_effect (Failed (only ∷ [])))
extend_malformed_can only e = subst (λ (o : OperationResult). CanEnd (without_effect (Failed (o ∷ [])))) (sym e) (without_can _ nothing_used (failed_fits _ (extend_fits extends.Malformed)) refl)

-- a transaction that succeeded without a host function
pub extend_done_can : (results : List OperationResult) (only : OperationResult) (changes : List Change) (found : List Extension) (used : Used) (n : ℕ) (entries : LedgerMap) (keys : List LedgerKey) (until : ℕ)
    → results ≡ only ∷ [] → only ≡ Inner (Extend extends.Success) → changes ≡ [] → found ≡ extensions_of n entries keys until → AreSpelled keys
    → CanEnd (record { outcome = Success results; success = None; changes = changes; extensions = found; used = used })
extend_done_can results only changes found used n entries keys until e is none f h = record {
  outcome = subst (λ (rs : List OperationResult). outcome_format.fits (Success rs)) (sym told) (success_fits _ (extend_fits extends.Success));
  success = tt;
  preimage = sym (ap (λ (rs : List OperationResult). has_preimage (Success rs)) told);
  changes = subst (λ (cs : List Change). All CanChange cs) (sym none) (All-nil CanChange);
  extensions = subst (λ (xs : List Extension). All Spelled xs) (sym f) (All-from_recursion Spelled _ (extensions_spelled n entries keys until (recursion_from_All key_format.fits keys h)));
}
  where
    told : results ≡ Inner (Extend extends.Success) ∷ []
    told = e ∙ ap (λ (o : OperationResult). o ∷ []) is

-- a host function that succeeded
pub call_done_can : (results : List OperationResult) (hash : Hash) (success : SuccessPreimage) (changes : List Change) (found : List Extension) (used : Used)
    → results ≡ Inner (Invoke (invokes.Success hash)) ∷ [] → hash_format.fits hash → success_format.fits success → All CanChange changes → AllByRecursion Spelled found
    → CanEnd (record { outcome = Success results; success = Some success; changes = changes; extensions = found; used = used })
call_done_can results hash success changes found used e h s cs xs = record {
  outcome = subst (λ (rs : List OperationResult). outcome_format.fits (Success rs)) (sym e) (success_fits _ (invoke_fits (invokes.Success hash) (invoke_success_fits hash h)));
  success = s;
  preimage = sym (ap (λ (rs : List OperationResult). has_preimage (Success rs)) e);
  changes = cs;
  extensions = All-from_recursion Spelled found xs;
}

-- transactions that ran nothing
pub restore_can : CanEnd (without_effect (Failed (NotSupported ∷ [])))
restore_can = without_can _ nothing_used (failed_fits _ not_supported_fits) refl

pub malformed_can : CanEnd (without_effect Malformed)
malformed_can = without_can _ nothing_used malformed_fits refl

-- ---- checks

-- an outcome alone
record IsQuiet (outcome : TransactionOutcome) : Type 0 where
  written : outcome_format.fits outcome
  quiet : has_preimage outcome ≡ false

alone : {outcome : TransactionOutcome} → outcome_format.fits outcome → has_preimage outcome ≡ false → IsQuiet outcome
alone fits none = record { written = fits; quiet = none }

checked : (checks : List (Bool × TransactionOutcome)) → AllByRecursion (λ c. IsQuiet c.1) checks → IfSome (first_failed checks) IsQuiet
checked [] h = tt
checked (check ∷ rest) h = elim check.0 as (λ b. IfSome (if b then first_failed rest else Some check.1) IsQuiet) [ true ↦ checked rest h.1 | false ↦ h.0 ]

all_quiet : (header : Header) (tx : Transaction) → AllByRecursion (λ c. IsQuiet c.1) (checks_of header tx)
all_quiet header tx =
    (alone missing_operation_fits refl, (alone too_early_fits refl, (alone too_late_fits refl, (alone malformed_fits refl, (alone soroban_invalid_fits refl, tt)))))

quiet_can : (o : Option TransactionOutcome) (outcome : TransactionOutcome) → o ≡ Some outcome → IfSome o IsQuiet → CanEnd (without_effect outcome)
quiet_can None outcome e h = absurd cc
quiet_can (Some other) outcome e h = let is : other ≡ outcome = cc in subst (λ (x : TransactionOutcome). CanEnd (without_effect x)) is (without_can other nothing_used h.written h.quiet)

-- the result code of a check that failed
pub refused_can : (header : Header) (tx : Transaction) (outcome : TransactionOutcome) → refusal_of header tx ≡ Some outcome → CanEnd (without_effect outcome)
refused_can header tx outcome e = quiet_can (refusal_of header tx) outcome e (checked (checks_of header tx) (all_quiet header tx))
