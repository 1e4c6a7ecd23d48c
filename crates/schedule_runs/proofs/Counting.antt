-- Counts of the numbers in an order.
use Rattle.std.proofs.Common.{◌≡◌, ◌==◌, ◌&&◌, ◌<◌, ◌≤◌, ◌+◌, ℕ, zero, suc, Bool, true, false, List, [], ◌∷◌, ◌++◌, length, filter, get_or, set, take, not, nat_lt, if◌then◌else◌, refl, sym, ap, ap₂, ◌∙◌, arith}
use Rattle.std.proofs.Math.ListN.{replicate}
use Rattle.std.proofs.lemmas.Bool.{eq-eqb, lt-ltb, ne_eqb}
use Rattle.std.proofs.lemmas.List.Elements.{filter-append}
use Rattle.std.proofs.lemmas.List.Filters.{length-filter_both}
use Rattle.std.proofs.lemmas.List.{length-append, length-take, take_more}
use Rattle.std.proofs.lemmas.List.Folds.{list_all_more}
use Rattle.std.specs.List.{list_all}
use Rattle.stage_runs.specs.Runs.{Stage}
use Rattle.stage_runs.specs.Orders.{is_complete, times, runs_each, runs_each_from}
use Rattle.schedule_runs.specs.Complete.{counts_from, have_lengths}

-- nothing is counted of no numbers
pub counts_none : (number many : ℕ) → replicate many 0 ≡ counts_from number many []
counts_none number zero = refl
counts_none number (suc many) = ap (λ cs. 0 ∷ cs) (counts_none (suc number) many)

pub counts_length : (number many : ℕ) (order : List ℕ) → length (counts_from number many order) ≡ many
counts_length number zero order = refl
counts_length number (suc many) order = ap suc (counts_length (suc number) many order)

-- The counts agree with the lengths of the clusters exactly if each number occurs as often as its cluster has transactions.
pub lengths_are : (number : ℕ) (order : List ℕ) (clusters : Stage) → have_lengths (counts_from number (length clusters) order) clusters ≡ runs_each_from number order clusters
lengths_are number order [] = refl
lengths_are number order (cluster ∷ clusters) = ap (λ b. (times number order == length cluster) && b) (lengths_are (suc number) order clusters)

-- ---- one more number

times_more : (number y : ℕ) (order : List ℕ) → times number (order ++ y ∷ []) ≡ times number order + times number (y ∷ [])
times_more number y order =
    ap (λ (ks : List ℕ). length ks) (filter-append (λ k. k == number) order (y ∷ []))
    ∙ length-append (filter (λ k. k == number) order) (filter (λ k. k == number) (y ∷ []))

abbrev kept_length : ℕ → Bool → ℕ
kept_length y b = length (if b then y ∷ [] else [])

times_same : (number y : ℕ) → y ≡ number → times number (y ∷ []) ≡ 1
times_same number y is = ap (kept_length y) (eq-eqb y number is)

times_other : (number y : ℕ) → (y ≡ number → ⊥) → times number (y ∷ []) ≡ 0
times_other number y differs = ap (kept_length y) (ne_eqb y number differs)

times_not : (number y : ℕ) (order : List ℕ) → (y ≡ number → ⊥) → times number (order ++ y ∷ []) ≡ times number order
times_not number y order differs = let more = times_more number y order in let none = times_other number y differs in omega (arith, more, none)

-- a lower number is not counted
counts_beyond : (number many y : ℕ) (order : List ℕ) → y < number → counts_from number many (order ++ y ∷ []) ≡ counts_from number many order
counts_beyond number zero y order lt = refl
counts_beyond number (suc many) y order lt =
    ap₂ (λ (c : ℕ) (cs : List ℕ). c ∷ cs)
    (times_not number y order (λ is. omega (arith, lt, is)))
    (counts_beyond (suc number) many y order (omega (arith, lt)))

pub counts_more : (number many index y count : ℕ) (order : List ℕ) → index < many → y ≡ number + index → count ≡ get_or (counts_from number many order) index count
    → set (counts_from number many order) index (count + 1) ≡ counts_from number many (order ++ y ∷ [])
counts_more number zero index y count order lt is counted = absurd (omega (arith, lt))
counts_more number (suc many) zero y count order lt is counted =
    let more = times_more number y order in
    let same = times_same number y (omega (arith, is)) in
    ap₂ (λ (c : ℕ) (cs : List ℕ). c ∷ cs) (omega (arith, counted, more, same)) (sym (counts_beyond (suc number) many y order (omega (arith, is))))
counts_more number (suc many) (suc index) y count order lt is counted =
    ap₂ (λ (c : ℕ) (cs : List ℕ). c ∷ cs)
    (sym (times_not number y order (λ same. omega (arith, is, same))))
    (counts_more (suc number) many index y count order (omega (arith, lt)) (omega (arith, is)) counted)

-- no number occurs more often than an order is long
times_bound : (number : ℕ) (order : List ℕ) → times number order ≤ length order
times_bound number order =
    let both = length-filter_both (λ k. k == number) (λ k. not (k == number)) (λ k. refl) order in omega (arith, both)

counts_bound : (number many index count : ℕ) (order : List ℕ) → index < many → count ≡ get_or (counts_from number many order) index count → count ≤ length order
counts_bound number zero index count order lt counted = absurd (omega (arith, lt))
counts_bound number (suc many) zero count order lt counted = let few = times_bound number order in omega (arith, counted, few)
counts_bound number (suc many) (suc index) count order lt counted = counts_bound (suc number) many index count order (omega (arith, lt)) counted

-- ---- the counts after some numbers of an order

-- nothing is counted more often than there were numbers
pub count_at : (clusters index number count : ℕ) (order counts : List ℕ) → index < length order → number < clusters → counts ≡ counts_from 0 clusters (take index order) → count ≡ get_or counts number count → count < length order
count_at clusters index number count order counts lt within are counted =
    let few = counts_bound 0 clusters number count (take index order) within (counted ∙ ap (λ cs. get_or cs number count) are) in
    let taken = length-take index order in
    omega (arith, few, taken, lt)

-- one number more
pub count_next : (clusters index number count : ℕ) (order counts : List ℕ) → index < length order → number ≡ get_or order index 0 → number < clusters → counts ≡ counts_from 0 clusters (take index order) → count ≡ get_or counts number count
    → set counts number (count + 1) ≡ counts_from 0 clusters (take (index + 1) order)
count_next clusters index number count order counts lt is within are counted =
    ap (λ cs. set cs number (count + 1)) are
    ∙ counts_more 0 clusters number number count (take index order) within (omega arith) (counted ∙ ap (λ cs. get_or cs number count) are)
    ∙ ap (counts_from 0 clusters) (ap (λ n. take index order ++ n ∷ []) is ∙ sym (take_more order index 0 lt))

pub all_next : (clusters index : ℕ) (order : List ℕ) → index < length order → get_or order index 0 < clusters → list_all (λ number. nat_lt number clusters) (take index order) ≡ true
    → list_all (λ number. nat_lt number clusters) (take (index + 1) order) ≡ true
all_next clusters index order lt within before =
    list_all_more (λ number. nat_lt number clusters) order index 0 lt ∙ ap₂ (λ a b. a && b) before (lt-ltb (get_or order index 0) clusters within)

-- the counts agree with the lengths of the clusters exactly if the order is complete
pub complete_is : (many : ℕ) (order : List ℕ) (clusters : Stage) (counts : List ℕ) → many ≡ length clusters → counts ≡ counts_from 0 many order → list_all (λ number. nat_lt number many) order ≡ true → have_lengths counts clusters ≡ is_complete order clusters
complete_is many order clusters counts each are all =
    ap (λ cs. have_lengths cs clusters) (are ∙ ap (λ m. counts_from 0 m order) each) ∙ lengths_are 0 order clusters
    ∙ sym (ap (λ b. runs_each order clusters && b) (ap (λ m. list_all (λ number. nat_lt number m) order) (sym each) ∙ all) ∙ and_true (runs_each order clusters))
  where
    and_true : (b : Bool) → (b && true) ≡ b
    and_true true = refl
    and_true false = refl
