use Rattle.std.proofs.Common.{get_or, List, rules, sym, subst}
use Rattle.std.specs.Ordering.{ordering_index}
use Rattle.std.proofs.lemmas.List.Sorted.{answers_always}
use Rattle.std.specs.List.Sorted.{IsNonDecreasingBy}
use Rattle.code_cache.specs.declared.cache.Code.{Code}
use Rattle.code_cache.specs.Cached.{IsAt, HasNone}
use Rattle.code_cache.proofs.Searches.{beside, rise, there_equal, none_there}
use Rattle.code_cache.proofs.cache.Cache.slot_of.Goals as goal

pub returns-in-Ok-clause-some : goal.returns-in-Ok-clause-some
returns-in-Ok-clause-some c =
    let at = c.in-Ok.ensures.position (λ (code : Code). code.hash.0) (answers_always _ _ _ (λ f a r f' called. search rules)) in
    subst (λ (xs : List Code). IsAt xs c.args.hash.now c.in-Ok.slot) c.as_slice.ensures.value
    (record { inside = c.in-Ok.ensures.bound; here = λ d. there_equal c.args.hash.now (get_or c.as_slice.result.now c.in-Ok.slot d) (at d) })

pub returns-in-Err-clause-none : goal.returns-in-Err-clause-none
returns-in-Err-clause-none c =
    let parted = c.in-Err.ensures.position (λ (code : Code). code.hash.0) (answers_always _ _ _ (λ f a r f' called. search rules)) in
    let rising = subst (λ (xs : List Code). IsNonDecreasingBy (λ code. ordering_index (beside c.args.hash.now code)) xs) (sym c.as_slice.ensures.value) (rise c.args.self.now.codes.items c.args.hash.now c.args.self.now.rising) in
    subst (λ (xs : List Code). HasNone xs c.args.hash.now) c.as_slice.ensures.value
    (none_there c.as_slice.result.now c.args.hash.now c.in-Err.field-0 (parted rising))
