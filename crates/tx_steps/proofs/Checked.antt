-- The first of two rows of checks decides.
use Rattle.std.proofs.Common.{◌≡◌, Bool, true, false, List, [], ◌∷◌, ◌++◌, Some, None, if◌then◌else◌, refl}
use Rattle.tx_results.specs.declared.results.TransactionOutcome.{TransactionOutcome}
use Rattle.apply_spec.specs.Checks.{first_failed}

abbrev Checks : Type 0
Checks = List (Bool × TransactionOutcome)

pub refused_first : (xs ys : Checks) (o : TransactionOutcome) → first_failed xs ≡ Some o → first_failed (xs ++ ys) ≡ Some o
refused_first [] ys o e = absurd cc
refused_first (x ∷ xs) ys o e =
    (elim x.0 as (λ (b : Bool). (if b then first_failed xs else Some x.1) ≡ Some o → (if b then first_failed (xs ++ ys) else Some x.1) ≡ Some o) [ true ↦ refused_first xs ys o | false ↦ λ f. f ]) e

pub passed_first : (xs ys : Checks) → first_failed xs ≡ None → first_failed (xs ++ ys) ≡ first_failed ys
passed_first [] ys e = refl
passed_first (x ∷ xs) ys e =
    (elim x.0 as (λ (b : Bool). (if b then first_failed xs else Some x.1) ≡ None → (if b then first_failed (xs ++ ys) else Some x.1) ≡ first_failed ys) [ true ↦ passed_first xs ys | false ↦ λ f. absurd cc ]) e
