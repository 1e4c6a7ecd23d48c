-- Results and the preimages beside them.
use Rattle.std.specs.List.{AllByRecursion}
use Rattle.std.specs.Option.{is_some}
use Rattle.std.proofs.Common.{◌≡◌, ℕ, suc, ◌<◌, ◌^◌, ◌+◌, Bool, List, [], ◌∷◌, ◌++◌, Option, Some, None, All, length, map, refl, sym, ap, ap₂, ◌∙◌, arith}
use Rattle.std.proofs.lemmas.List.{length-append, map-append}
use Rattle.std.proofs.lemmas.List.Elements.{All-from_recursion}
use Rattle.xdr_spec.specs.Format.{optional}
use Rattle.invoke_types.specs.Success.{success_format}
use Rattle.invoke_types.specs.declared.success.SuccessPreimage.{SuccessPreimage}
use Rattle.tx_results.specs.Report.{has_preimage}
use Rattle.tx_results.specs.Results.{pair_format, outcome_in}
use Rattle.tx_results.specs.declared.results.TransactionResultPair.{TransactionResultPair}
use Rattle.stage_runs.specs.Runs.{Reported}
use Rattle.set_steps.specs.Reports.{beside, AreReports, IsSuccess, IsBeside}
use Rattle.set_steps.proofs.Lists.{recursion_append}

one_less : (m n : ℕ) → suc m ≡ suc n → m ≡ n
one_less m n e = omega (arith, e)

never : {X : Type 0} (n : ℕ) → suc n ≡ 0 → X
never n e = absurd (omega (arith, e))

pub beside_append : (rs ts : List TransactionResultPair) (ss us : List (Option SuccessPreimage)) → length rs ≡ length ss
    → beside (rs ++ ts) (ss ++ us) ≡ beside rs ss ++ beside ts us
beside_append [] ts [] us e = refl
beside_append [] ts (s ∷ ss) us e = never (length ss) (sym e)
beside_append (r ∷ rs) ts [] us e = never (length rs) e
beside_append (r ∷ rs) ts (s ∷ ss) us e = ap (λ (l : List Reported). record { result = r; success = s } ∷ l) (beside_append rs ts ss us (one_less (length rs) (length ss) e))

pub results_beside : (rs : List TransactionResultPair) (ss : List (Option SuccessPreimage)) → length rs ≡ length ss → rs ≡ map (λ (r : Reported). r.result) (beside rs ss)
results_beside [] ss e = refl
results_beside (r ∷ rs) [] e = never (length rs) e
results_beside (r ∷ rs) (s ∷ ss) e = ap (λ l. r ∷ l) (results_beside rs ss (one_less (length rs) (length ss) e))

pub successes_beside : (rs : List TransactionResultPair) (ss : List (Option SuccessPreimage)) → length rs ≡ length ss → ss ≡ map (λ (r : Reported). r.success) (beside rs ss)
successes_beside [] [] e = refl
successes_beside [] (s ∷ ss) e = never (length ss) (sym e)
successes_beside (r ∷ rs) [] e = never (length rs) e
successes_beside (r ∷ rs) (s ∷ ss) e = ap (λ l. s ∷ l) (successes_beside rs ss (one_less (length rs) (length ss) e))

-- reports that stand one after the other
pub reports_append : (rs ts : List TransactionResultPair) (ss us : List (Option SuccessPreimage)) → AreReports rs ss → AreReports ts us → length rs + length ts < 2 ^ 32
    → AreReports (rs ++ ts) (ss ++ us)
reports_append rs ts ss us a b few = record {
  even = length-append rs ts ∙ ap₂ (λ (m n : ℕ). m + n) a.even b.even ∙ sym (length-append ss us);
  few = omega (arith, length-append rs ts, few);
  results_fit = recursion_append pair_format.fits rs ts a.results_fit b.results_fit;
  successes_fit = recursion_append IsSuccess ss us a.successes_fit b.successes_fit;
  preimages = map-append is_some ss us ∙ ap₂ (λ (p q : List Bool). p ++ q) a.preimages b.preimages ∙ sym (map-append (λ (pair : TransactionResultPair). has_preimage (outcome_in pair.result.outcome)) rs ts);
}

-- one report
pub one_report : (pair : TransactionResultPair) (success : Option SuccessPreimage) → pair_format.fits pair → IsSuccess success → IsBeside pair success → AreReports (pair ∷ []) (success ∷ [])
one_report pair success fits spelled beside = record {
  even = refl;
  few = omega arith;
  results_fit = (fits, tt);
  successes_fit = (spelled, tt);
  preimages = ap (λ (b : Bool). b ∷ []) beside;
}

-- the preimages are within the XDR format of an optional preimage
success_fits : (success : Option SuccessPreimage) → IsSuccess success → (optional success_format).fits success
unfolding optional
success_fits None h = tt
success_fits (Some success) h = h

successes_fit : (ss : List (Option SuccessPreimage)) → AllByRecursion IsSuccess ss → AllByRecursion (optional success_format).fits ss
successes_fit [] h = tt
successes_fit (s ∷ ss) h = (success_fits s h.0, successes_fit ss h.1)

pub all_successes_fit : (ss : List (Option SuccessPreimage)) → AllByRecursion IsSuccess ss → All (λ s. (optional success_format).fits s) ss
all_successes_fit ss h = All-from_recursion (optional success_format).fits ss (successes_fit ss h)
